-- A table that is filled with the rows of able vertices, one after another. Assumes nothing.
use Prim.Native.Nat.{ℕ, ◌^◌, ◌≤◌, ◌<◌}
use native.Mathlib.Nat.{lt_of_le_of_lt}
use native.Mathlib.Omega.{arith}
use native.Mathlib.Decide.{dec_lt, ℕ_discrete}
use mathlib.Core.Path.{◌≡◌, sym, ap, ◌∙◌, subst}
use mathlib.Core.Bool.{Bool, true, false, ◌&&◌, and-false}
use mathlib.Core.List.{List}
use lib.Bits.{bit_and, and_le_r}
use lib.Pow.{pow_pos}
use lib.ListN.{length, get_or, set, length-set, replicate, length-replicate, get_or-eq_default}
use Rattle.std.proofs.lemmas.List.{get_or-replicate}
use lib.Seq.{get_or-set_same, get_or-set_other}
use Rattle.vertex_set.specs.Sets.{mem}
use Rattle.vertex_set.specs.Members.{TakesLowest}
use Rattle.vertex_set.proofs.Booleans.{clash, cases}
use Rattle.vertex_set.proofs.Membership.{mem_none, mem_and}
use Rattle.vertex_set.proofs.Traversals.{Traversal, traversal_begin, traversal_here, traversal_step, gone}
use Rattle.bit_matrix.proofs.Matrices.{table_is}
use Rattle.reduction.specs.RoundTables.{able_table}

-- the rows of able vertices that are not left are filled, and those of other vertices are empty
pub record Filling (able : ℕ) (own : List ℕ) (left : ℕ) (rows : List ℕ) : Type 0 where
  pub traversal : Traversal able left
  pub long : length rows ≡ 64
  pub filled : (p : ℕ) → mem p able ≡ true → mem p left ≡ false → get_or rows p 0 ≡ bit_and (get_or own p 0) able
  pub empty : (p : ℕ) → mem p able ≡ false → get_or rows p 0 ≡ 0

module _ (able : ℕ) (own : List ℕ) where
  pub filling_begin : able < 2 ^ 64 → Filling able own able (replicate 64 0)
  filling_begin h =
      record {
        traversal = traversal_begin able h;
        long = length-replicate {A = ℕ} 64 0;
        filled = λ p a b. clash (mem p able) a b;
        empty = λ p a. none p (dec_lt p 64);
      }
    where
      none : (p : ℕ) → Dec (p < 64) → ◌≡◌ {A = ℕ} (get_or (replicate 64 0) p 0) 0
      none p (yes x) = get_or-replicate 64 p 0 0 x
      none p (no x) = let l : length {A = ℕ} (replicate 64 0) ≤ p = omega (arith, length-replicate {A = ℕ} 64 0) in get_or-eq_default (replicate 64 0) 0 l

  pub filling_step : {left p after : ℕ} {rows : List ℕ} → TakesLowest left p after → Filling able own left rows
      → Filling able own after (set rows p (bit_and (get_or own p 0) able))
  filling_step {left} {p} {after} {rows} t d =
      record {
        traversal = subst (Traversal able) (sym t.is_rest) (traversal_step d.traversal t.some);
        long = length-set rows p _ ∙ d.long;
        filled = λ q a b. go q a b (ℕ_discrete q p);
        empty = λ q a.
            get_or-set_other rows p q _ 0 (λ e. clash (mem q able) (ap (λ (z : ℕ). mem z able) (e ∙ t.is_lowest) ∙ traversal_here d.traversal t.some) a)
            ∙ d.empty q a;
      }
    where
      go : (q : ℕ) → mem q able ≡ true → mem q after ≡ false → Dec (q ≡ p) → get_or (set rows p (bit_and (get_or own p 0) able)) q 0 ≡ bit_and (get_or own q 0) able
      go q a b (yes e) =
          ap (λ (z : ℕ). get_or (set rows p (bit_and (get_or own p 0) able)) z 0) e
          ∙ get_or-set_same rows p _ 0 (subst (λ (z : ℕ). p < z) (sym d.long) t.is_vertex) ∙ ap (λ (z : ℕ). bit_and (get_or own z 0) able) (sym e)
      go q a b (no e) =
          get_or-set_other rows p q _ 0 e
          ∙ gone d.traversal t.some q (sym (ap (mem q) t.is_rest) ∙ b) (λ x. absurd (e (x ∙ sym t.is_lowest))) (d.filled q a)

  pub filling_end : {rows : List ℕ} → able < 2 ^ 64 → Filling able own 0 rows → rows ≡ able_table able own
  unfolding able_table
  filling_end {rows} h d =
      table_is (λ p q. mem q (get_or own p 0) && (mem p able && mem q able)) rows d.long (λ p _. fits p) (λ p q _ _.
      cases _ (mem p able)
      (λ a. ap (mem q) (d.filled p a (mem_none p)) ∙ mem_and q (get_or own p 0) able ∙ ap (λ (b : Bool). mem q (get_or own p 0) && (b && mem q able)) (sym a))
      (λ a. ap (mem q) (d.empty p a) ∙ mem_none q
      ∙ sym (ap (λ (b : Bool). mem q (get_or own p 0) && (b && mem q able)) a ∙ and-false (mem q (get_or own p 0)))))
    where
      fits : (p : ℕ) → get_or rows p 0 < 2 ^ 64
      fits p =
          cases _ (mem p able)
          (λ a. subst (λ (z : ℕ). z < 2 ^ 64) (sym (d.filled p a (mem_none p))) (lt_of_le_of_lt (and_le_r (get_or own p 0) able) h))
          (λ a. subst (λ (z : ℕ). z < 2 ^ 64) (sym (d.empty p a)) (pow_pos 64))
