-- In how many groups a set of vertices lies (document 02: its count). Assumes nothing.
use Rattle.std.specs.Prelude.{ℕ, ◌≡◌, ◌↔◌, Bool, length}
use mathlib.Core.List.{List, Memᴰ}
use Rattle.vertex_set.specs.Lists.{select, Sorted}
use Rattle.vertex_set.specs.Sets.{Subset, within}
use Rattle.signed_graph.specs.declared.SignedGraph.{SignedGraph}
use Rattle.signed_graph.specs.Thresholds.{Threshold}
use Rattle.clique.specs.Listing.{Item, Listed, comes_before, listing}

-- a group contains s where every vertex of s is one of its vertices; and the test
abbrev pub Contains : Item → ℕ → Type 0
Contains x s = Subset s x.vertices

abbrev pub contains : ℕ → Item → Bool
contains s x = within s x.vertices

-- n is the count of s: the groups for k that contain s, each once in listing order, are n
pub record IsCount (g : SignedGraph) (k : Threshold) (s n : ℕ) : Type 0 where
  pub counted : List Item
  pub exact : (x : Item) → Memᴰ x counted ↔ (Listed g k x × Contains x s)
  pub once : Sorted comes_before counted
  pub number : length counted ≡ n

-- how many groups for k contain s: what the listing keeps where the others are left out
abbrev pub containing : SignedGraph → Threshold → ℕ → ℕ
containing g k s = length (select (contains s) (listing g k))
