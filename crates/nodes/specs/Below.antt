-- For proofs: what holds at a node in every sound graph with given tables; the groups due below it. Assumes nothing.
use Rattle.std.specs.Prelude.{ℕ, ◌≡◌, true, false, ◌&&◌, List, [], ◌∷◌}
use Rattle.signed_graph.specs.declared.SignedGraph.{SignedGraph}
use Rattle.signed_graph.specs.Soundness.{sound}
use Rattle.pages.specs.declared.Bookmark.{Bookmark}
use Rattle.nodes.specs.declared.Node.{Node}
use Rattle.clique.specs.Listing.{Item}
use Rattle.pages.specs.Pages.{due_at}
use Rattle.group_pages.specs.Calls.{due_groups}
use Rattle.nodes.specs.Nodes.{chosen, Valid, items_below, group_at, leaf_item}
use Rattle.signed_graph.specs.Graphs.{with_tables}
use Rattle.signed_graph.specs.Thresholds.{Threshold}

abbrev pub InSound : List ℕ → List ℕ → Node → (SignedGraph → Type 0) → Type 0
InSound positive negative d P =
    (any : SignedGraph) → sound (with_tables any positive negative) ≡ true → Valid (with_tables any positive negative) d → P (with_tables any positive negative)

-- ---- the groups due, on a page

-- those below a node; where nothing is undecided, its chosen set if that is a group and due
abbrev pub due_below : SignedGraph → Threshold → Bookmark → Node → List Item
due_below g k from d = items_below d (due_groups g k from)

abbrev pub leaf_items : Threshold → Bookmark → Node → List Item
leaf_items k from d = elim (group_at k d && due_at from (chosen d)) [ true ↦ leaf_item d ∷ [] | false ↦ [] ]
