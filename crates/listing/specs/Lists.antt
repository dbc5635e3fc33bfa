-- For proofs: what the search promises of a page. Assumes nothing.
use Rattle.std.specs.Prelude.{List, ℕ}
use Rattle.pages.specs.declared.Bookmark.{Bookmark}
use Rattle.pages.specs.declared.Page.{Page}
use Rattle.nodes.specs.declared.Node.{Node}
use Rattle.group_pages.specs.Filling.{AddsGroups}
use Rattle.nodes.specs.Below.{InSound, due_below}
use Rattle.signed_graph.specs.Thresholds.{Threshold}

abbrev pub Lists : List ℕ → List ℕ → Threshold → Bookmark → Node → Page → List ℕ → Page → List ℕ → Type 0
Lists positive negative k from d page entry after exit =
    InSound positive negative d (λ g. AddsGroups from (due_below g k from d) page entry after exit)
