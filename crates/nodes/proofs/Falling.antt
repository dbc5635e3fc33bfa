-- Fewer vertices are undecided once one goes in or is left out. Assumes nothing.
use Prim.Native.Nat.{ℕ, ◌^◌, ◌≤◌, ◌<◌}
use native.Mathlib.Nat.{lt_of_le_of_lt}
use native.Mathlib.Omega.{arith}
use mathlib.Core.Path.{◌≡◌, sym, ap₂, ◌∙◌, subst}
use mathlib.Core.Bool.{true, false}
use lib.Bits.{bit_and, bit_or, and_le_r}
use Rattle.vertex_set.specs.Sets.{mem, Subset, size, lowest, others}
use Rattle.vertex_set.proofs.Booleans.{clash, refute}
use Rattle.vertex_set.proofs.Membership.{union_cases, union_mono, meet_left, meet_right}
use Rattle.vertex_set.proofs.Sizes.{size_subset}
use Rattle.vertex_set.proofs.LowestVertex.{lowest_lt, lowest_in}
use Rattle.nodes.specs.declared.Node.{Node}
use Rattle.nodes.specs.Nodes.{undecided, put_in, leave_out}
use Rattle.vertex_set.proofs.Singles.{others_lack}
use Rattle.nodes.proofs.Nodes.{narrowed_from, put_cases}
use Rattle.vertex_set.proofs.SizeBounds.{size_falls}

-- ---- none is undecided that was not, and v no more

without : (v : ℕ) → v < 64 → (a b : ℕ) → mem v (bit_or (bit_and a (others v)) (bit_and b (others v))) ≡ false
without v small a b =
    refute (mem v (bit_or (bit_and a (others v)) (bit_and b (others v)))) (λ m.
    union_cases ⊥ v (bit_and a (others v)) (bit_and b (others v)) m
    (λ x. clash (mem v (bit_and a (others v))) x (others_lack v small a))
    (λ x. clash (mem v (bit_and b (others v))) x (others_lack v small b)))

module _ (d : Node) (v positive negative : ℕ) where
  pub put_fewer : Subset (undecided (put_in d v positive negative)) (undecided d)
  put_fewer =
      put_cases (λ e. Subset (undecided e) (undecided d)) d v positive negative
      (λ _. union_mono _ _ _ _ (narrowed_from v d.left positive) (narrowed_from v d.right negative))
      (λ _. union_mono _ _ _ _ (narrowed_from v d.left negative) (narrowed_from v d.right positive))

  put_gone : v < 64 → mem v (undecided (put_in d v positive negative)) ≡ false
  put_gone small =
      put_cases (λ e. mem v (undecided e) ≡ false) d v positive negative
      (λ _. without v small (bit_and d.left.candidates positive) (bit_and d.right.candidates negative))
      (λ _. without v small (bit_and d.left.candidates negative) (bit_and d.right.candidates positive))

out_fewer : (d : Node) (v : ℕ) → Subset (undecided (leave_out d v)) (undecided d)
out_fewer d v =
    union_mono _ _ _ _ (λ p. meet_left p d.left.candidates (others v)) (λ p. meet_left p d.right.candidates (others v))

-- ---- their number falls

-- v is undecided at e, and no more than t vertices are
pub record Decides (t : ℕ) (e : Node) (v : ℕ) : Type 0 where
  pub small : v < 64
  pub here : mem v (undecided e) ≡ true
  pub few : size (undecided e) ≤ t

-- none is undecided at e that is not at d, and v is the lowest
pub decides_lowest : (t : ℕ) (d e : Node) → size (undecided d) ≡ t → Subset (undecided e) (undecided d)
    → (u : ℕ) → u ≡ undecided e → u < 2 ^ 64 → (u ≡ 0 → ⊥) → (v : ℕ) → v ≡ lowest u → Decides t e v
decides_lowest t d e is-t fewer u is-u fits some v is_v =
    record {
      small = subst (λ (z : ℕ). z < 64) (sym is_v) (lowest_lt u (omega arith) fits);
      here = ap₂ mem is_v (sym is-u) ∙ lowest_in u (omega arith) fits;
      few = subst (λ (z : ℕ). size (undecided e) ≤ z) is-t (size_subset (undecided e) (undecided d) fewer);
    }

-- v is the lowest of some of those undecided at d
pub decides_among : (t : ℕ) (d : Node) → size (undecided d) ≡ t → (some u : ℕ) → u ≡ undecided d → u < 2 ^ 64
    → (bit_and some u ≡ 0 → ⊥) → (v : ℕ) → v ≡ lowest (bit_and some u) → Decides t d v
decides_among t d is-t some u is-u fits pos v is_v =
    record {
      small = subst (λ (z : ℕ). z < 64) (sym is_v) (lowest_lt (bit_and some u) (omega arith) small);
      here = ap₂ mem is_v (sym is-u)
          ∙ meet_right (lowest (bit_and some u)) some u (lowest_in (bit_and some u) (omega arith) small);
      few = omega (arith, is-t);
    }
  where
    small : bit_and some u < 2 ^ 64
    small = lt_of_le_of_lt (and_le_r some u) fits

module _ {t : ℕ} {e : Node} {v : ℕ} (h : Decides t e v) where
  child_falls : (child next : Node) → child ≡ next → Subset (undecided next) (undecided e) → mem v (undecided next) ≡ false
      → size (undecided child) < t
  child_falls child next is sub off =
      subst (λ (c : Node). size (undecided c) < t) (sym is)
      (omega (arith, size_falls v (undecided next) (undecided e) h.small sub h.here off, h.few))

  pub put_falls : (positive negative : ℕ) (child : Node) → child ≡ put_in e v positive negative → size (undecided child) < t
  put_falls positive negative child is =
      child_falls child (put_in e v positive negative) is (put_fewer e v positive negative)
      (put_gone e v positive negative h.small)

  pub out_falls : (child : Node) → child ≡ leave_out e v → size (undecided child) < t
  out_falls child is =
      child_falls child (leave_out e v) is (out_fewer e v) (without v h.small e.left.candidates e.right.candidates)
