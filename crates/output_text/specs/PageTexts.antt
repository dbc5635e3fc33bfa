-- The program's pages as text. Assumes nothing.
use Rattle.std.specs.Prelude.{ℕ, ◌*◌, List, [], take, Ok, Err}
use Rattle.signed_graph.specs.declared.SignedGraph.{SignedGraph}
use Rattle.signed_graph.specs.Thresholds.{Threshold}
use Rattle.signed_graph.specs.Calls.{Check, check_of}
use Rattle.clique.specs.Listing.{Item}
use Rattle.pages.specs.declared.Bookmark.{Bookmark}
use Rattle.group_pages.specs.Records.{record_width}
use Rattle.group_pages.specs.Calls.{due_groups}
use Rattle.output.specs.Output.{groups_text}

-- the records for which a page has room, and the bytes of its buffer
abbrev pub page_records : ℕ
page_records = 64

abbrev pub page_room : ℕ
page_room = record_width * page_records

-- the lines of the first groups that are due; none where the call is refused
abbrev pub text_by : Check → List Item → List ℕ
text_by (Ok passed) due = groups_text (take page_records due)
text_by (Err why) due = []

abbrev pub page_text : SignedGraph → Threshold → Bookmark → List ℕ
page_text g k from = text_by (check_of g k) (due_groups g k from)
