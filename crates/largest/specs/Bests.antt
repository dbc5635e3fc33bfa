-- For proofs: the largest group so far, and what the search for the largest promises of a node, over the tables of a sound graph. Assumes nothing.
use Rattle.std.specs.Prelude.{ℕ, ◌≡◌, true, false, List, [], ◌∷◌, ltb, Option, None, Some}
use Rattle.signed_graph.specs.Graphs.{vertices}
use Rattle.signed_graph.specs.Thresholds.{Threshold}
use Rattle.pages.specs.declared.Bookmark.TheVariants.{Start}
use Rattle.largest.specs.declared.Best.{Best}
use Rattle.nodes.specs.declared.Node.{Node}
use Rattle.clique.specs.Listing.{Item, size_of}
use Rattle.nodes.specs.Below.{InSound, due_below}
use Rattle.bounds.specs.Bounds.{Tabled}

-- the size of the largest group so far; 1 where there is none, since every group is larger
abbrev pub most : Option Best → ℕ
most None = 1
most (Some b) = b.size

-- the larger of the largest group so far and another; the one so far where they have as many vertices
abbrev pub best_item : Item → Best
best_item x = record { size = size_of x; sides = record { left = x.left; right = x.right } }

abbrev pub better : Option Best → Item → Option Best
better b x = elim (ltb (most b) (size_of x)) [ true ↦ Some (best_item x) | false ↦ b ]

-- the largest of the largest group so far and those of a list
unfoldable pub best_of : Option Best → List Item → Option Best
best_of b [] = b
best_of b (x ∷ l) = best_of (better b x) l

-- of the largest group so far and those below the node, the largest; where the table has bounds for the vertices of the graph
abbrev pub Finds : List ℕ → List ℕ → List ℕ → Threshold → Node → Option Best → Option Best → Type 0
Finds table positive negative k d b r =
    InSound positive negative d (λ g. Tabled g table (vertices g) → r ≡ best_of b (due_below g k Start d))
