-- What the page call answers and leaves in its buffer, refusals included. Assumes nothing.
use Rattle.std.specs.Prelude.{ℕ, List}
use Rattle.signed_graph.specs.declared.SignedGraph.{SignedGraph}
use Rattle.signed_graph.specs.Calls.{check_of}
use Rattle.signed_graph.specs.Thresholds.{Threshold}
use Rattle.clique.specs.Listing.{Item, item_set, listing}
use Rattle.pages.specs.declared.Bookmark.{Bookmark}
use Rattle.pages.specs.declared.Page.{Page}
use Rattle.pages.specs.Pages.{due, page_by, bytes_by}
use Rattle.pages.specs.Answers.{page_values_by}
use Rattle.group_pages.specs.Records.{record_width, record_of}

-- the groups for k due at a bookmark
abbrev pub due_groups : SignedGraph → Threshold → Bookmark → List Item
due_groups g k m = due item_set m (listing g k)

-- the answer of the page call at a buffer of so many bytes, and the buffer as it returns
abbrev pub page_of : SignedGraph → Threshold → Bookmark → ℕ → Page
page_of g k m room = page_by item_set record_width (check_of g k) m room (due_groups g k m)

abbrev pub page_bytes : SignedGraph → Threshold → Bookmark → List ℕ → List ℕ
page_bytes g k m buffer = bytes_by record_of record_width (check_of g k) (due_groups g k m) buffer

-- the answer as numbers: the count, finished or more, the next bookmark
abbrev pub page_values_of : SignedGraph → Threshold → Bookmark → ℕ → List ℕ
page_values_of g k m room = page_values_by item_set record_width (check_of g k) m room (due_groups g k m)
