-- The first stages of the verdict: the vertices of s that are not below n, and those that are masked. Assumes nothing.
use Prim.Native.Nat.{ℕ, ◌-◌, ◌^◌, ◌<◌}
use native.Mathlib.Nat.{lt_of_le_of_lt, pos_of_ne-zero}
use native.Mathlib.Omega.{arith}
use native.Mathlib.Decide.{dec_lt}
use mathlib.Core.Path.{◌≡◌, refl, sym, ap, ◌∙◌, subst}
use mathlib.Core.Bool.{Bool, true, false, not, ◌&&◌}
use lib.Dec.{leb, ltb, eqb}
use lib.Bits.{bit_and, and_le_l}
use borrow.Author.Tests.{lt-ltb, le-ltb, le-leb, lt-leb, ne_eqb}
use Rattle.vertex_set.proofs.Alternatives.{applies, passes_by}
use Rattle.vertex_set.specs.Ranges.{seek}
use Rattle.vertex_set.specs.Sets.{mem, lowest, below}
use Rattle.vertex_set.proofs.Ranges.{none_seek}
use Rattle.vertex_set.proofs.Membership.{mem_lt, mem_none, mem_and, mem_minus}
use Rattle.vertex_set.proofs.Collections.{below_lt, mem_below}
use Rattle.vertex_set.proofs.LowestVertex.{lowest_lt, seek_lowest}
use Rattle.signed_graph.specs.declared.SignedGraph.{SignedGraph}
use Rattle.signed_graph.specs.Soundness.{sound}
use Rattle.signed_graph.proofs.Soundness.{Sound, to_sound}
use Rattle.signed_graph.specs.Thresholds.{Threshold}
use Rattle.clique.specs.declared.Verdict.TheVariants as Is
use Rattle.clique.specs.Verdicts.{verdict, first_outside, first_masked}
use Rattle.clique.specs.Stages.{from_alone, from_masks, from_edges, Known}
use Rattle.clique.proofs.Verdicts.{all_below, inside}

-- ---- the first vertex of s that passes a test is the lowest of the set of those that do

module _ (s part : ℕ) (f : ℕ → Bool) (fits : part < 2 ^ 64) (is : (q : ℕ) → mem q part ≡ (mem q s && f q)) where
  abbrev first : ℕ
  first = seek 64 0 (λ p. mem p s && f p)

  none_first : part ≡ 0 → ltb first 64 ≡ false
  none_first z = none_seek (λ p. mem p s && f p) 64 0 64 refl (λ p _ _. sym (is p) ∙ ap (mem p) z ∙ mem_none p)

  lowest_first : 0 < part → (first ≡ lowest part) × (ltb first 64 ≡ true)
  lowest_first some =
      let x : first ≡ lowest part =
      seek_lowest (λ p. mem p s && f p) 64 0 64 part refl some fits (λ p m. (omega arith, mem_lt 64 p part fits m)) (λ p _ _. is p) in
      (x, lt-ltb first 64 (subst (λ (z : ℕ). z < 64) (sym x) (lowest_lt part some fits)))

module _ (g : SignedGraph) (ok : sound g ≡ true) (s b outside : ℕ) (s64 : s < 2 ^ 64) (e : b ≡ below g.n)
    (eo : outside ≡ bit_and s ((2 ^ 64 - 1) - b)) where
  so : Sound g
  so = to_sound g ok

  -- ---- out of range

  outside_lt : outside < 2 ^ 64
  outside_lt = subst (λ (x : ℕ). x < 2 ^ 64) (sym eo) (lt_of_le_of_lt (and_le_l s ((2 ^ 64 - 1) - b)) s64)

  outside_is : (q : ℕ) → mem q outside ≡ (mem q s && leb g.n q)
  outside_is q =
      ap (mem q) eo ∙ mem_minus 64 q s b s64 (subst (λ (x : ℕ). x < 2 ^ 64) (sym e) (below_lt g.n))
      ∙ ap (λ (t : Bool). mem q s && not t) (ap (mem q) e ∙ mem_below g.n q so.small)
      ∙ ap (λ (t : Bool). mem q s && t) (go (dec_lt q g.n))
    where
      go : Dec (q < g.n) → not (ltb q g.n) ≡ leb g.n q
      go (yes x) = ap not (lt-ltb q g.n x) ∙ sym (lt-leb g.n q x)
      go (no x) = ap not (le-ltb q g.n (omega arith)) ∙ sym (le-leb g.n q (omega arith))

  none_out : outside ≡ 0 → ltb (first_outside g s) 64 ≡ false
  unfolding first_outside
  none_out = none_first s outside (leb g.n) outside_lt outside_is

  first_out : 0 < outside → (first_outside g s ≡ lowest outside) × (ltb (first_outside g s) 64 ≡ true)
  unfolding first_outside
  first_out = lowest_first s outside (leb g.n) outside_lt outside_is

  module _ (k : Threshold) (some : s ≡ 0 → ⊥) where
    pub says_out_of_range : 0 < outside → verdict g k s ≡ Is.OutOfRange (lowest outside)
    unfolding verdict
    says_out_of_range out =
        passes_by (eqb s 0) _ _ (ne_eqb s 0 some)
        ∙ applies (ltb (first_outside g s) 64) _ _ (first_out out).1 ∙ ap Is.OutOfRange (first_out out).0

    pub past_range : outside ≡ 0 → verdict g k s ≡ from_alone g k s
    unfolding verdict
    past_range z = passes_by (eqb s 0) _ _ (ne_eqb s 0 some) ∙ passes_by (ltb (first_outside g s) 64) _ _ (none_out z)

  -- ---- masked

  module _ (masked : ℕ) (em : masked ≡ bit_and s g.masked) where
    masked_lt : masked < 2 ^ 64
    masked_lt = subst (λ (x : ℕ). x < 2 ^ 64) (sym em) (lt_of_le_of_lt (and_le_l s g.masked) s64)

    masked_is : (q : ℕ) → mem q masked ≡ (mem q s && mem q g.masked)
    masked_is q = ap (mem q) em ∙ mem_and q s g.masked

    none_in : masked ≡ 0 → ltb (first_masked g s) 64 ≡ false
    unfolding first_masked
    none_in = none_first s masked (λ q. mem q g.masked) masked_lt masked_is

    first_in : 0 < masked → (first_masked g s ≡ lowest masked) × (ltb (first_masked g s) 64 ≡ true)
    unfolding first_masked
    first_in = lowest_first s masked (λ q. mem q g.masked) masked_lt masked_is

    pub says_masked : (k : Threshold) → 0 < masked → from_masks g k s ≡ Is.Masked (lowest masked)
    says_masked k some = applies (ltb (first_masked g s) 64) _ _ (first_in some).1 ∙ ap Is.Masked (first_in some).0

    pub past_masks : (k : Threshold) → masked ≡ 0 → from_masks g k s ≡ from_edges g k s
    past_masks k z = passes_by (ltb (first_masked g s) 64) _ _ (none_in z)

    pub masks_known : (s ≡ 0 → ⊥) → outside ≡ 0 → masked ≡ 0 → Known g s
    masks_known some z m =
        record {
          is_sound = ok;
          nonempty = pos_of_ne-zero some;
          usable = inside g so s s64 (all_below g so s s64 (none_out z)) (none_in m);
        }
