-- Where a side cannot get k vertices. Assumes nothing.
use Prim.Native.Nat.{ℕ, ◌+◌, ◌-◌, ◌≤◌, ◌<◌}
use native.Mathlib.Omega.{arith}
use native.Mathlib.Decide.{dec_lt}
use mathlib.Core.Path.{◌≡◌}
use mathlib.Core.Bool.{true, ◌||◌}
use mathlib.Core.List.{List}
use lib.ListN.{get_or, replicate, get_or-replicate}
use lib.Bits.{bit_and, bit_or}
use Rattle.vertex_set.specs.Sets.{mem, size}
use Rattle.vertex_set.proofs.Booleans.{or_left, or_right}
use Rattle.vertex_set.proofs.Membership.{none_in, meet_in, meet_left, meet_right, union_cases}
use Rattle.signed_graph.specs.declared.SignedGraph.{SignedGraph}
use Rattle.signed_graph.proofs.Soundness.{Sound, to_sound}
use Rattle.clique.proofs.Groups.{floor_least}
use Rattle.nodes.specs.declared.Side.{Side}
use Rattle.nodes.specs.declared.Node.{Node}
use Rattle.nodes.specs.Nodes.{Barren, StaysShort}
use Rattle.look_ahead.specs.LookAhead.{FindsBarren}
use Rattle.signed_graph.specs.Tables.{ForSound}
use Rattle.bounds.specs.Bounds.{Tabled, AtMostBy}
use Rattle.clique.proofs.Listing.{listed_enough}
use Rattle.clique.proofs.Parts.{parts_flip, parts_within, listed_parts}
use Rattle.vertex_set.proofs.SizeBounds.{size_cover, size_empty, size_64}

-- ---- a side that cannot get k vertices

-- no balanced set has more than 64 vertices on a side
tabled_wide : (g : SignedGraph) (s : ℕ) → Tabled g (replicate 64 128) s
tabled_wide g s v _ l r h from-l from-r = go (dec_lt v 64)
  where
    go : Dec (v < 64) → size l + size r ≤ get_or (replicate 64 128) v 0
    go (yes x) = omega (arith, size_64 l, size_64 r, get_or-replicate {A = ℕ} 64 v 128 0 x)
    go (no x) =
        omega (
          arith,
          size_empty l (λ p y m. let z = from-l p m in omega arith),
          size_empty r (λ p y m. let z = from-r p m in omega arith),
        )

-- `have` of its vertices are chosen
pub lacks_have : (positive negative : List ℕ) (side : Side) (k have : ℕ) → have ≡ size side.chosen → have < k
    → AtMostBy (replicate 64 128) positive negative side.candidates 0 (k - have - 1)
    → ForSound positive negative (λ g. StaysShort g k side)
lacks_have positive negative side k have is less few any so l r h b =
    omega (
      arith,
      few any so (tabled_wide _ (bit_or side.candidates 0)) more 0
          (parts_within h more 0 (λ p. meet_left p l side.candidates) (λ p m. none_in p m))
          (λ p. meet_right p l side.candidates) (λ p m. m),
      size_cover l side.chosen more (λ p _ m.
          union_cases ((mem p side.chosen || mem p more) ≡ true) p side.chosen side.candidates (b.only p m)
          (λ x. or_left (mem p side.chosen) (mem p more) x)
          (λ x. or_right (mem p side.chosen) (mem p more) (meet_in p l side.candidates m x))),
    )
  where
    more : ℕ
    more = bit_and l side.candidates

module _ (g : SignedGraph) (so : Sound g) (k : ℕ) (d : Node) where
  pub lacks_left_barren : StaysShort g k d.left → Barren g k d
  lacks_left_barren h x lx b =
      let few : size x.left < k = h x.left x.right (listed_parts lx) b.left in
      let enough = floor_least k (size x.left) (size x.right) (listed_enough g so k x lx) in
      omega arith

  pub lacks_right_barren : StaysShort g k d.right → Barren g k d
  lacks_right_barren h x lx b =
      let few : size x.right < k = h x.right x.left (parts_flip g so x.left x.right (listed_parts lx)) b.right in
      let enough = floor_least k (size x.left) (size x.right) (listed_enough g so k x lx) in
      omega arith

module _ (positive negative : List ℕ) (k : ℕ) (d : Node) where
  pub lacks_left : ForSound positive negative (λ g. StaysShort g k d.left) → FindsBarren positive negative k d true
  lacks_left h _ any so va = lacks_left_barren _ (to_sound _ so) k d (h any so)

  pub lacks_right : ForSound positive negative (λ g. StaysShort g k d.right) → FindsBarren positive negative k d true
  lacks_right h _ any so va = lacks_right_barren _ (to_sound _ so) k d (h any so)
