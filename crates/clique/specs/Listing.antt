-- The listing: the groups for a threshold, each with its sides, in listing order. Assumes nothing.
use Rattle.std.specs.Prelude.{ℕ, Bool, List, map}
use Rattle.signed_graph.specs.declared.SignedGraph.{SignedGraph}
use Rattle.signed_graph.specs.Thresholds.{Threshold}
use Rattle.vertex_set.specs.Sets.{size}
use Rattle.clique.specs.Balance.{Sides, left, right}
use Rattle.clique.specs.Groups.{Group, groups}
use Rattle.vertex_set.specs.Order.{precedes}

-- a group with its sides
pub record Item : Type 0 where
  pub vertices : ℕ
  pub left : ℕ
  pub right : ℕ

abbrev pub item_set : Item → ℕ
item_set x = x.vertices

abbrev pub item_of : SignedGraph → ℕ → Item
item_of g s = record { vertices = s; left = left g s; right = right g s }

-- x is a group for k, with its left and its right side
pub record Listed (g : SignedGraph) (k : Threshold) (x : Item) : Type 0 where
  pub group : Group g k x.vertices
  pub sides : Sides g x.vertices x.left x.right

-- listing order, of groups with their sides
abbrev pub comes_before : Item → Item → Bool
comes_before x y = precedes x.vertices y.vertices

-- the groups for k with their sides, in listing order
unfoldable pub listing : SignedGraph → Threshold → List Item
listing g k = map (item_of g) (groups g k)

-- how many vertices a group has
abbrev pub size_of : Item → ℕ
size_of x = size x.vertices
