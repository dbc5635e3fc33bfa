-- The table that a test gives: its rows, and the tables that are equal to it. Assumes nothing.
use Prim.Native.Nat.{ℕ, ◌+◌, ◌^◌, ◌≤◌, ◌<◌}
use native.Mathlib.Nat.{zero-add}
use native.Mathlib.Omega.{arith}
use native.Mathlib.Decide.{dec_lt, ℕ_discrete}
use mathlib.Core.Path.{◌≡◌, sym, ap, ◌∙◌, subst}
use mathlib.Core.Bool.{Bool, true, false}
use mathlib.Core.List.{List}
use lib.ListN.{length, get_or, set, length-set, get_or-eq_default}
use lib.Seq.{ext_get_or, get_or-set_same, get_or-set_other}
use Rattle.vertex_set.specs.Sets.{mem, collect}
use Rattle.vertex_set.proofs.Booleans.{refute}
use Rattle.vertex_set.proofs.Ranges.{length_each, get_d_each}
use Rattle.vertex_set.proofs.Membership.{mem_past, mem_none, mem_ext}
use Rattle.vertex_set.proofs.Collections.{collect_lt, collect_at}
use Rattle.bit_matrix.specs.Matrices.{table_of}

-- there is no row from 64 up
pub past_row : (rows : List ℕ) (p : ℕ) → length rows ≡ 64 → 64 ≤ p → get_or rows p 0 ≡ 0
past_row rows p e h = get_or-eq_default rows 0 (omega arith)

module _ (f : ℕ → ℕ → Bool) where
  pub table_length : length (table_of f) ≡ 64
  unfolding table_of
  table_length = length_each (λ p. collect 64 (f p)) 64 0

  pub table_row : (p : ℕ) → p < 64 → get_or (table_of f) p 0 ≡ collect 64 (f p)
  unfolding table_of
  table_row p h = get_d_each (λ p. collect 64 (f p)) 64 0 p 0 h ∙ ap (λ (z : ℕ). collect 64 (f z)) (zero-add p)

  pub row_lt : (p : ℕ) → p < 64 → get_or (table_of f) p 0 < 2 ^ 64
  row_lt p h = subst (λ (z : ℕ). z < 2 ^ 64) (sym (table_row p h)) (collect_lt (f p) 64)

  pub table_at : (p q : ℕ) → p < 64 → q < 64 → mem q (get_or (table_of f) p 0) ≡ f p q
  table_at p q h k = ap (mem q) (table_row p h) ∙ collect_at (f p) 64 q k

  -- of all numbers, where the test passes for vertices alone
  pub table_has : ((p q : ℕ) → f p q ≡ true → (p < 64) × (q < 64)) → (p q : ℕ) → mem q (get_or (table_of f) p 0) ≡ f p q
  table_has low p q = go (dec_lt p 64) (dec_lt q 64)
    where
      absent : (p < 64 → q < 64 → ⊥) → f p q ≡ false
      absent h = refute (f p q) (λ t. h (low p q t).0 (low p q t).1)

      go : Dec (p < 64) → Dec (q < 64) → mem q (get_or (table_of f) p 0) ≡ f p q
      go (yes x) (yes y) = table_at p q x y
      go (yes x) (no y) = mem_past 64 q (get_or (table_of f) p 0) (row_lt p x) (omega arith) ∙ sym (absent (λ a b. omega arith))
      go (no x) y = ap (mem q) (past_row (table_of f) p table_length (omega arith)) ∙ mem_none q ∙ sym (absent (λ a b. omega arith))

  -- a table that joins the same vertices
  pub table_is : (rows : List ℕ) → length rows ≡ 64 → ((p : ℕ) → p < 64 → get_or rows p 0 < 2 ^ 64)
      → ((p q : ℕ) → p < 64 → q < 64 → mem q (get_or rows p 0) ≡ f p q) → rows ≡ table_of f
  table_is rows long fits same =
      ext_get_or 0 rows (table_of f) (long ∙ sym table_length) (λ p h.
      let l : p < 64 = omega (arith, long) in
      mem_ext 64 (get_or rows p 0) (get_or (table_of f) p 0) (fits p l) (row_lt p l) (λ q k. same p q l k ∙ sym (table_at p q l k)))

-- tests that pass together give one table
pub table_cong : (f h : ℕ → ℕ → Bool) → ((p q : ℕ) → p < 64 → q < 64 → f p q ≡ h p q) → table_of f ≡ table_of h
table_cong f h same =
    table_is h (table_of f) (table_length f) (row_lt f) (λ p q l k. table_at f p q l k ∙ same p q l k)

-- ---- a loop that fills a table row by row

-- the rows before p are filled
pub record Filled (f : ℕ → ℕ → Bool) (p : ℕ) (rows : List ℕ) : Type 0 where
  pub long : length rows ≡ 64
  pub done : (j : ℕ) → j < p → get_or rows j 0 ≡ collect 64 (f j)

pub fill_begin : (f : ℕ → ℕ → Bool) (rows : List ℕ) → length rows ≡ 64 → Filled f 0 rows
fill_begin f rows e = record { long = e; done = λ j h. absurd (omega arith) }

module _ {f : ℕ → ℕ → Bool} {p : ℕ} {rows : List ℕ} (d : Filled f p rows) where
  pub fill_step : (row : ℕ) → p < 64 → row ≡ collect 64 (f p) → Filled f (p + 1) (set rows p row)
  fill_step row h e =
      record { long = length-set rows p row ∙ d.long; done = λ j x. go j x (ℕ_discrete j p) }
    where
      go : (j : ℕ) → j < p + 1 → Dec (j ≡ p) → get_or (set rows p row) j 0 ≡ collect 64 (f j)
      go j x (yes y) =
          ap (λ (z : ℕ). get_or (set rows p row) z 0) y
          ∙ get_or-set_same rows p row 0 (subst (λ (z : ℕ). p < z) (sym d.long) h) ∙ e ∙ ap (λ (z : ℕ). collect 64 (f z)) (sym y)
      go j x (no y) = get_or-set_other rows p j row 0 y ∙ d.done j (omega arith)

  pub fill_end : 64 ≤ p → rows ≡ table_of f
  fill_end h =
      ext_get_or 0 rows (table_of f) (d.long ∙ sym (table_length f)) (λ j x.
      let y : j < 64 = omega (arith, d.long) in
      d.done j (omega arith) ∙ sym (table_row f j y))
