-- The groups for a threshold k: document 01's words, and the test that computes them. Assumes nothing.
use Rattle.std.specs.Prelude.{ℕ, ◌+◌, ◌≡◌, Bool, true, not, ◌&&◌, leb, eqb, List}
use Rattle.vertex_set.specs.Lists.{select}
use Rattle.vertex_set.specs.Order.{subsets}
use Rattle.vertex_set.specs.Ranges.{seek}
use Rattle.vertex_set.specs.Sets.{mem, Subset, insert, size}
use Rattle.signed_graph.specs.declared.SignedGraph.{SignedGraph}
use Rattle.signed_graph.specs.Thresholds.{Threshold}
use Rattle.clique.specs.Balance.{Balanced, Sides, balanced, left, right}

-- the sizes that the left and the right side of a group for k may have: two vertices or more in all (document 02, S-2), and at
-- least k on each
unfoldable pub floor : Threshold → ℕ → ℕ → Bool
floor k l r = leb 2 (l + r) && leb k l && leb k r

-- s is a group for k: a balanced set of two vertices or more, each side large enough, that no larger balanced set contains
pub record Group (g : SignedGraph) (k : Threshold) (s : ℕ) : Type 0 where
  pub balanced : Balanced g s
  pub left_side : ℕ
  pub right_side : ℕ
  pub sides : Sides g s left_side right_side
  pub enough : floor k (size left_side) (size right_side) ≡ true
  pub maximal : (t : ℕ) → Balanced g t → Subset s t → t ≡ s

-- the lowest vertex whose addition keeps s balanced; n where there is none
unfoldable pub extension : SignedGraph → ℕ → ℕ
extension g s = seek g.n 0 (λ p. not (mem p s) && balanced g (insert p s))

-- s is a group for k, by single vertices
unfoldable pub is_group : SignedGraph → Threshold → ℕ → Bool
is_group g k s = balanced g s && floor k (size (left g s)) (size (right g s)) && eqb (extension g s) g.n

-- the groups for k, in listing order
unfoldable pub groups : SignedGraph → Threshold → List ℕ
groups g k = select (is_group g k) (subsets g.n)
