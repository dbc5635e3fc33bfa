-- How many vertices the groups below a node have at most. Assumes nothing.
use Prim.Native.Nat.{ℕ, ◌+◌, ◌≤◌}
use native.Mathlib.Omega.{arith}
use mathlib.Core.Path.{◌≡◌, sym, ◌∙◌}
use mathlib.Core.Bool.{Bool, true, ◌||◌}
use lib.Bits.{bit_and, bit_or}
use Rattle.vertex_set.specs.Sets.{mem, size}
use Rattle.vertex_set.proofs.Booleans.{or_left, or_right}
use Rattle.vertex_set.proofs.Membership.{mem_or, meet_in, meet_left, meet_right, union_left, union_right, union_cases}
use Rattle.signed_graph.specs.declared.SignedGraph.{SignedGraph}
use Rattle.signed_graph.specs.Thresholds.{Threshold}
use Rattle.nodes.specs.declared.Node.{Node}
use Rattle.clique.specs.Listing.{Item, Listed, size_of}
use Rattle.nodes.specs.Nodes.{chosen, Below}
use Rattle.bounds.specs.Bounds.{AtMost, NoneLarger}
use Rattle.clique.proofs.Listing.{listed_cases}
use Rattle.vertex_set.proofs.SizeBounds.{size_cover}
use Rattle.clique.proofs.Parts.{parts_within, listed_parts}

-- ---- a group below a node

-- there is room for so many beside the chosen
pub none_larger_room : {g : SignedGraph} (chosen left right most room : ℕ) → size chosen + room ≡ most → AtMost g left right room
    → NoneLarger g chosen left right most
none_larger_room chosen left right most room is h = (
  omega arith,
  λ l r parts in_l in_r. omega (arith, h l r parts in_l in_r),
)

module _ {g : SignedGraph} {k : Threshold} (d : Node) (m : ℕ) (h : NoneLarger g (chosen d) d.left.candidates d.right.candidates m)
    {x : Item} (lx : Listed g k x) (b : Below d x) where
  -- what the sides of x have beyond what is chosen
  abbrev more_l : ℕ
  more_l = bit_and x.left d.left.candidates

  abbrev more_r : ℕ
  more_r = bit_and x.right d.right.candidates

  covered : (p : ℕ) → mem p x.vertices ≡ true → (mem p (chosen d) || mem p (bit_or more_l more_r)) ≡ true
  covered p i =
      listed_cases lx p A i
      (λ y. union_cases A p d.left.chosen d.left.candidates (b.left.only p y)
      (λ z. or_left c o (union_left p d.left.chosen d.right.chosen z))
      (λ z. or_right c o (union_left p more_l more_r (meet_in p x.left d.left.candidates y z))))
      (λ y. union_cases A p d.right.chosen d.right.candidates (b.right.only p y)
      (λ z. or_left c o (union_right p d.left.chosen d.right.chosen z))
      (λ z. or_right c o (union_right p more_l more_r (meet_in p x.right d.right.candidates y z))))
    where
      c : Bool
      c = mem p (chosen d)

      o : Bool
      o = mem p (bit_or more_l more_r)

      A : Type 0
      A = (c || o) ≡ true

  pub none_larger_below : size_of x ≤ m
  none_larger_below =
      omega (
        arith,
        h.0,
        h.1 more_l more_r
            (parts_within (listed_parts lx) more_l more_r
            (λ p. meet_left p x.left d.left.candidates) (λ p. meet_left p x.right d.right.candidates))
            (λ p. meet_right p x.left d.left.candidates) (λ p. meet_right p x.right d.right.candidates),
        size_cover x.vertices (chosen d) (bit_or more_l more_r) (λ p _. covered p),
        size_cover (bit_or more_l more_r) more_l more_r (λ p _ i. sym (mem_or p more_l more_r) ∙ i),
      )
