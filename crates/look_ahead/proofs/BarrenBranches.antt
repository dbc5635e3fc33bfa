-- Where a test finds that no group is below a node. Assumes nothing.
use Prim.Native.Nat.{ℕ, ◌^◌, ◌≤◌, ◌<◌}
use native.Mathlib.Omega.{arith}
use mathlib.Core.Path.{◌≡◌, refl, ap, ◌∙◌, subst}
use mathlib.Core.Logic.{◌⊎◌, inl, inr}
use mathlib.Core.Bool.{true, false}
use borrow.Author.Tests.{not-true}
use mathlib.Core.List.{List}
use lib.ListN.{get_or}
use Rattle.vertex_set.specs.Sets.{mem}
use Rattle.vertex_set.specs.Members.{TakesLowest}
use Rattle.vertex_set.proofs.Booleans.{clash, cases}
use Rattle.vertex_set.proofs.Membership.{mem_none, mem_past}
use Rattle.vertex_set.proofs.Traversals.{Traversal, traversal_begin, traversal_here, traversal_step}
use Rattle.signed_graph.proofs.Soundness.{to_sound}
use Rattle.signed_graph.specs.Thresholds.{Threshold}
use Rattle.clique.proofs.Balance.{usable_64}
use Rattle.signed_graph.specs.declared.Partners.{Partners}
use Rattle.nodes.specs.declared.Side.{Side}
use Rattle.nodes.specs.declared.Node.{Node}
use Rattle.look_ahead.specs.declared.Fewest.{Fewest}
use Rattle.nodes.specs.Nodes.{undecided, short, put_in, leave_out, Conflicts}
use Rattle.look_ahead.specs.LookAhead.{SmallerOf, FitsBesideAll, FewestConflicts, Narrowest, FindsBarren}
use Rattle.nodes.proofs.Nodes.{put_valid, out_valid}
use Rattle.nodes.proofs.Falling.{Decides}
use Rattle.nodes.proofs.Below.{below_put, below_out}
use Rattle.nodes.proofs.Prunes.{short_barren, required_left, required_right}

-- ---- over the vertices that were left out

module _ (positive negative : List ℕ) (near far : Side) (start : Fewest) where
  pub record Narrowing (left : ℕ) (found : Fewest) : Type 0 where
    pub traversal : Traversal near.excluded left
    pub from : FewestConflicts positive negative near far start found

  pub narrowing_begin : near.excluded < 2 ^ 64 → Narrowing near.excluded start
  narrowing_begin h = record { traversal = traversal_begin near.excluded h; from = λ e. inl e }

  pub narrowing_step : {left x after : ℕ} {found : Fewest} → TakesLowest left x after → Narrowing left found
      → (of : Partners) → of ≡ record { positive = get_or positive x 0; negative = get_or negative x 0 }
      → (against : ℕ) → Conflicts near.candidates far.candidates of.positive of.negative against
      → (next : Fewest) → SmallerOf found against next → Narrowing after next
  narrowing_step {left} {x} {after} {found} t h of is-of against conflicts next fewer =
      record { traversal = rw t.is_rest (traversal_step h.traversal t.some); from = λ e. go (fewer e) }
    where
      c : Conflicts near.candidates far.candidates (get_or positive x 0) (get_or negative x 0) against
      c = subst (λ (p : Partners). Conflicts near.candidates far.candidates p.positive p.negative against) is-of conflicts

      go : (found.count ≡ 0) ⊎ (against ≡ 0) → (start.count ≡ 0) ⊎ FitsBesideAll positive negative near far
      go (inl e) = h.from e
      go (inr z) =
          inr (λ u. record {
            by = x;
            out = ap (λ (y : ℕ). mem y near.excluded) t.is_lowest ∙ traversal_here h.traversal t.some;
            same = λ w j _. c.same w j (ap (mem w) z ∙ mem_none w);
            cross = λ w j _. c.cross w j (ap (mem w) z ∙ mem_none w);
          })

-- ---- a node

module _ (positive negative : List ℕ) (k : Threshold) (d : Node) where
  pub finds_short : short k d ≡ true → FindsBarren positive negative k d true
  unfolding short
  finds_short e _ any so va = short_barren _ (to_sound _ so) k d (not-true _ e)

  -- a vertex that was left out fits beside every candidate
  pub finds_narrow : (r : Fewest) → Narrowest positive negative d r → r.count ≡ 0 → FindsBarren positive negative k d true
  finds_narrow r narrow e _ any so va x lx b = go (narrow e)
    where
      -- no group has a vertex 64
      none : mem 64 x.vertices ≡ true → ⊥
      none m = clash (mem 64 x.vertices) m (mem_past 64 64 x.vertices (usable_64 _ (to_sound _ so) x.vertices lx.group.balanced.usable) (omega arith))

      go : FitsBesideAll positive negative d.left d.right ⊎ FitsBesideAll positive negative d.right d.left → ⊥
      go (inl u) = none (required_left _ (to_sound _ so) k d va 64 x lx b (u 64))
      go (inr u) = none (required_right _ (to_sound _ so) k d va 64 x lx b (u 64))

  -- no group is below with u in, nor with u left out
  module _ (u : ℕ) (t : ℕ) (h : Decides t d u) (some : d.left.chosen ≡ 0 → ⊥) where
    first : d.left.chosen ≡ 0 → (p : ℕ) → mem p (undecided d) ≡ true → u ≤ p
    first z p m = absurd (some z)

    pub finds_both : (of : Partners) → of ≡ record { positive = get_or positive u 0; negative = get_or negative u 0 }
        → (in-child out-child : Node) → in-child ≡ put_in d u of.positive of.negative
        → out-child ≡ leave_out d u → FindsBarren positive negative k in-child true → FindsBarren positive negative k out-child true
        → FindsBarren positive negative k d true
    finds_both of is-of in-child out-child is-in is-out a b _ any so va x lx below =
        let s = to_sound _ so in
        let in_v =
        subst (λ (e : Node). FindsBarren positive negative k e true)
        (is-in ∙ ap (λ (p : Partners). put_in d u p.positive p.negative) is-of) a in
        let out_v = subst (λ (e : Node). FindsBarren positive negative k e true) is-out b in
        cases ⊥ (mem u x.vertices)
        (λ m. in_v refl any so (put_valid _ s u h.small d va first h.here) x lx
        (below_put _ s k d va u h.small h.here first x lx below m))
        (λ m. out_v refl any so (out_valid _ s u h.small d va) x lx
        (below_out _ s k d va u h.small h.here first x lx below m))
