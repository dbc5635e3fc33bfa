-- A table is transposed digit by digit of its row and column numbers. Assumes nothing.
use Prim.Native.Nat.{ℕ, zero, suc, ◌+◌, ◌-◌, ◌*◌, ◌/◌, ◌%◌, ◌^◌, ◌≤◌, ◌<◌}
use native.Mathlib.Nat.{zero-mod}
use native.Mathlib.Omega.{arith}
use native.Mathlib.Decide.{dec_lt, ℕ_discrete}
use mathlib.Core.Path.{◌≡◌, refl, sym, ap, ap₂, ◌∙◌, subst}
use mathlib.Core.Bool.{Bool, not, ◌&&◌, ◌||◌}
use mathlib.Core.List.{List}
use lib.Dec.{eqb}
use lib.ListN.{get_or, length, set, length-set}
use lib.Seq.{ext_get_or, get_or-set_same, get_or-set_other}
use lib.Bits.{bit_and, bit_or}
use borrow.Author.Tests.{eq-eqb, ne_eqb}
use Rattle.vertex_set.specs.Sets.{mem, collect}
use Rattle.vertex_set.proofs.Booleans.{chosen_left, chosen_right}
use Rattle.vertex_set.proofs.Membership.{merge_lt, mem_merge, mem_shr, mem_shl}
use Rattle.vertex_set.proofs.Collections.{collect_lt, collect_at, collect_is}
use Rattle.bit_matrix.specs.Matrices.{transposed}
use Rattle.bit_matrix.specs.Transposition.{digit, with_digit, exchanged_at, digit_exchanged, zero_columns, first_row, second_row, RowsExchanged}
use Rattle.bit_matrix.proofs.Matrices.{table_length, table_row, table_at, table_cong}
use Rattle.bit_matrix.proofs.Digits.{digit_cases, with_same, with_more_law, with_less, with_lt, with_digits, with_none, with_all, with_next, first_half, second_half, block_next}

-- ---- a loop that exchanges rows p and p + j

pub exchange_start : (j m at : ℕ) (rows : List ℕ) → RowsExchanged j m at at rows rows
exchange_start j m at rows =
    record {
      long = refl;
      first = λ p a b. absurd (omega arith);
      second = λ p a b. absurd (omega arith);
      kept = λ p a b. refl;
    }

pub exchange_step : {j m at p : ℕ} {before rows : List ℕ} → RowsExchanged j m at p before rows → at ≤ p → p < at + j → p + j < length rows
    → RowsExchanged j m at (p + 1) before (set (set rows p (first_row j m (get_or rows p 0) (get_or rows (p + j) 0))) (p + j)
    (second_row j m (get_or rows p 0) (get_or rows (p + j) 0)))
exchange_step {j} {m} {at} {p} {before} {rows} d a b fits =
    record {
      long = length-set one (p + j) y ∙ length-set rows p x ∙ d.long;
      first = λ r u v. first r u v (ℕ_discrete r p);
      second = λ r u v. second r u v (ℕ_discrete r p);
      kept = λ r u v. others r (λ z. u (omega arith) (omega arith)) (λ z. v (omega arith) (omega arith))
          ∙ d.kept r (λ s t. u s (omega arith)) (λ s t. v s (omega arith));
    }
  where
    x : ℕ
    x = first_row j m (get_or rows p 0) (get_or rows (p + j) 0)

    y : ℕ
    y = second_row j m (get_or rows p 0) (get_or rows (p + j) 0)

    one : List ℕ
    one = set rows p x

    others : (r : ℕ) → (r ≡ p → ⊥) → (r ≡ p + j → ⊥) → get_or (set one (p + j) y) r 0 ≡ get_or rows r 0
    others r u v = get_or-set_other one (p + j) r y 0 v ∙ get_or-set_other rows p r x 0 u

    here : get_or rows p 0 ≡ get_or before p 0
    here = d.kept p (λ s t. omega arith) (λ s t. omega arith)

    there : get_or rows (p + j) 0 ≡ get_or before (p + j) 0
    there = d.kept (p + j) (λ s t. omega arith) (λ s t. omega arith)

    first : (r : ℕ) → at ≤ r → r < p + 1 → Dec (r ≡ p)
        → get_or (set one (p + j) y) r 0 ≡ first_row j m (get_or before r 0) (get_or before (r + j) 0)
    first r u v (yes e) =
        ap (λ (z : ℕ). get_or (set one (p + j) y) z 0) e ∙ get_or-set_other one (p + j) p y 0 (λ z. omega arith)
        ∙ get_or-set_same rows p x 0 (omega arith) ∙ ap₂ (first_row j m) here there
        ∙ ap (λ (z : ℕ). first_row j m (get_or before z 0) (get_or before (z + j) 0)) (sym e)
    first r u v (no e) = others r e (λ z. omega arith) ∙ d.first r u (omega arith)

    second : (r : ℕ) → at ≤ r → r < p + 1 → Dec (r ≡ p)
        → get_or (set one (p + j) y) (r + j) 0 ≡ second_row j m (get_or before r 0) (get_or before (r + j) 0)
    second r u v (yes e) =
        ap (λ (z : ℕ). get_or (set one (p + j) y) (z + j) 0) e
        ∙ get_or-set_same one (p + j) y 0 (omega (arith, length-set rows p x)) ∙ ap₂ (second_row j m) here there
        ∙ ap (λ (z : ℕ). second_row j m (get_or before z 0) (get_or before (z + j) 0)) (sym e)
    second r u v (no e) = others (r + j) (λ z. omega arith) (λ z. omega arith) ∙ d.second r u (omega arith)

pub exchange_end : {j m at p end : ℕ} {before rows : List ℕ} → RowsExchanged j m at p before rows → p ≡ end → RowsExchanged j m at end before rows
exchange_end {j} {m} {at} {p} {end} {before} {rows} d e = subst (λ (z : ℕ). RowsExchanged j m at z before rows) e d

-- ---- what the two rows become, where j = 2 ^ k and m is the set of the columns whose digit k is 0

module _ (k m : ℕ) (e : m ≡ zero_columns k) where
  mask_lt : m < 2 ^ 64
  unfolding zero_columns
  mask_lt = subst (λ (x : ℕ). x < 2 ^ 64) (sym e) (collect_lt (λ q. eqb (digit k q) 0) 64)

  in_mask : (q : ℕ) → q < 64 → mem q m ≡ eqb (digit k q) 0
  unfolding zero_columns
  in_mask q h = ap (mem q) e ∙ collect_at (λ q. eqb (digit k q) 0) 64 q h

  -- a set that has the columns of a whose digit is 0, and those of b whose digit is 1
  module _ (a b : ℕ) (f : ℕ → Bool) (zero-digit : (q : ℕ) → q < 64 → digit k q ≡ 0 → mem q a ≡ f q)
      (one-digit : (q : ℕ) → q < 64 → digit k q ≡ 1 → mem q b ≡ f q) where
    merged : bit_or (bit_and a m) (bit_and b ((2 ^ 64 - 1) - m)) ≡ collect 64 f
    merged =
        collect_is 64 (bit_or (bit_and a m) (bit_and b ((2 ^ 64 - 1) - m))) f (merge_lt 64 m a b mask_lt) (λ q h.
        mem_merge 64 m a b mask_lt q h
        ∙ digit_cases ((mem q a && mem q m || mem q b && not (mem q m)) ≡ f q) k q
        (λ z. chosen_left (mem q a) (mem q b) (mem q m) (in_mask q h ∙ eq-eqb (digit k q) 0 z) ∙ zero-digit q h z)
        (λ z. chosen_right (mem q a) (mem q b) (mem q m) (in_mask q h ∙ ne_eqb (digit k q) 0 (omega arith)) ∙ one-digit q h z))

  module _ (rows : List ℕ) (p : ℕ) where
    abbrev entry : ℕ → ℕ → Bool
    entry p q = mem q (get_or rows p 0)

    abbrev next : ℕ
    next = p + 2 ^ k

    first_row_law : digit k p ≡ 0 → first_row (2 ^ k) m (get_or rows p 0) (get_or rows (p + 2 ^ k) 0) ≡ collect 64 (exchanged_at k rows p)
    unfolding first_row
    first_row_law z =
        merged (get_or rows p 0) ((get_or rows next 0 * 2 ^ 2 ^ k) % 2 ^ 64) (exchanged_at k rows p)
        (λ q h y. ap₂ entry (sym (with_same k p q (z ∙ sym y))) (sym (with_same k q p (y ∙ sym z))))
        (λ q h y.
        let r : ℕ = with_digit k q p in
        let e : q ≡ 2 ^ k + r = omega (arith, with_less k q p y z) in
        ap (λ (x : ℕ). mem x ((get_or rows next 0 * 2 ^ 2 ^ k) % 2 ^ 64)) e
        ∙ mem_shl 64 r (2 ^ k) (get_or rows next 0) (omega arith) ∙ ap (λ (x : ℕ). entry x r) (sym (with_more_law k p q z y)))

    second_row_law : digit k (p + 2 ^ k) ≡ 1
        → second_row (2 ^ k) m (get_or rows p 0) (get_or rows (p + 2 ^ k) 0) ≡ collect 64 (exchanged_at k rows (p + 2 ^ k))
    unfolding second_row
    second_row_law z =
        merged (get_or rows p 0 / 2 ^ 2 ^ k) (get_or rows next 0) (exchanged_at k rows next)
        (λ q h y.
        let s : p ≡ with_digit k next q = omega (arith, with_less k next q z y) in
        let r : 2 ^ k + q ≡ with_digit k q next = omega (arith, with_more_law k q next y z) in
        mem_shr q (2 ^ k) (get_or rows p 0) ∙ ap₂ entry s r)
        (λ q h y. ap₂ entry (sym (with_same k next q (z ∙ sym y))) (sym (with_same k q next (y ∙ sym z))))

-- ---- a loop that exchanges digit k block by block: the rows before `at` are done, the others are as they were

pub record Exchanging (k at : ℕ) (before rows : List ℕ) : Type 0 where
  pub long : length rows ≡ 64
  pub block : at % (2 * 2 ^ k) ≡ 0
  pub done : (p : ℕ) → p < at → get_or rows p 0 ≡ collect 64 (exchanged_at k before p)
  pub left : (p : ℕ) → at ≤ p → get_or rows p 0 ≡ get_or before p 0

pub digit_start : (k : ℕ) (rows : List ℕ) → length rows ≡ 64 → Exchanging k 0 rows rows
digit_start k rows e = record { long = e; block = zero-mod (2 * 2 ^ k); done = λ p h. absurd (omega arith); left = λ p h. refl }

module _ {k at : ℕ} {before rows : List ℕ} (d : Exchanging k at before rows) where
  pub digit_step : (m j : ℕ) (now : List ℕ) → m ≡ zero_columns k → j ≡ 2 ^ k → k < 6 → RowsExchanged j m at (at + j) rows now
      → Exchanging k (at + 2 * j) before now
  digit_step m j now e same small =
      subst (λ (z : ℕ). RowsExchanged z m at (at + z) rows now → Exchanging k (at + 2 * z) before now) (sym same) step
    where
      step : RowsExchanged (2 ^ k) m at (at + 2 ^ k) rows now → Exchanging k (at + 2 * 2 ^ k) before now
      step x =
          record {
            long = x.long ∙ d.long;
            block = block_next at k small d.block;
            done = λ p l. go p l (dec_lt p at) (dec_lt p (at + 2 ^ k));
            left = λ p l. x.kept p (λ s t. omega arith) (λ s t. omega arith) ∙ d.left p (omega arith);
          }
        where
          pair : (p : ℕ) → at ≤ p → (f : ℕ → ℕ → ℕ) → f (get_or rows p 0) (get_or rows (p + 2 ^ k) 0) ≡ f (get_or before p 0) (get_or before (p + 2 ^ k) 0)
          pair p l f = ap₂ f (d.left p l) (d.left (p + 2 ^ k) (omega arith))

          go : (p : ℕ) → p < at + 2 * 2 ^ k → Dec (p < at) → Dec (p < at + 2 ^ k) → get_or now p 0 ≡ collect 64 (exchanged_at k before p)
          go p l (yes a) b = x.kept p (λ s t. omega arith) (λ s t. omega arith) ∙ d.done p a
          go p l (no a) (yes b) =
              x.first p (omega arith) b ∙ pair p (omega arith) (first_row (2 ^ k) m)
              ∙ first_row_law k m e before p (first_half at p k small d.block (omega arith) b)
          go p l (no a) (no b) =
              let r : ℕ = p - 2 ^ k in
              let back : r + 2 ^ k ≡ p = omega arith in
              ap (λ (z : ℕ). get_or now z 0) (sym back)
              ∙ x.second r (omega arith) (omega arith) ∙ pair r (omega arith) (second_row (2 ^ k) m)
              ∙ second_row_law k m e before r (second_half at (r + 2 ^ k) k small d.block (omega arith) (omega arith))
              ∙ ap (λ (z : ℕ). collect 64 (exchanged_at k before z)) back

  pub digit_end : 64 ≤ at → rows ≡ digit_exchanged k before
  unfolding digit_exchanged
  digit_end h =
      ext_get_or 0 rows (digit_exchanged k before) (d.long ∙ sym (table_length (exchanged_at k before))) (λ p l.
      d.done p (omega (arith, d.long)) ∙ sym (table_row (exchanged_at k before) p (omega (arith, d.long))))

-- ---- all six digits

module _ (before : List ℕ) where
  abbrev was : ℕ → ℕ → Bool
  was p q = mem q (get_or before p 0)

  -- the k lowest digits exchanged, one after the other
  abbrev exchanged : ℕ → List ℕ
  exchanged zero = before
  exchanged (suc k) = digit_exchanged k (exchanged k)

  lowest_exchanged : (k : ℕ) → k ≤ 6 → (p q : ℕ) → p < 64 → q < 64
      → mem q (get_or (exchanged k) p 0) ≡ mem (with_digits k q p) (get_or before (with_digits k p q) 0)
  unfolding digit_exchanged
  lowest_exchanged zero small p q h l = sym (ap₂ was (with_none p q) (with_none q p))
  lowest_exchanged (suc k) small p q h l =
      table_at (exchanged_at k (exchanged k)) p q h l
      ∙ lowest_exchanged k (omega arith) (with_digit k p q) (with_digit k q p) (with_lt p q k h small) (with_lt q p k l small)
      ∙ ap₂ was (with_next k p q) (with_next k q p)

  pub all_exchanged : exchanged 6 ≡ transposed before
  unfolding digit_exchanged transposed
  all_exchanged =
      table_cong (exchanged_at 5 (exchanged 5)) (λ p q. was q p) (λ p q h l.
      sym (table_at (exchanged_at 5 (exchanged 5)) p q h l) ∙ lowest_exchanged 6 (omega arith) p q h l ∙ ap₂ was (with_all p q h l) (with_all q p l h))
