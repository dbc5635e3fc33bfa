-- What the program `groups` prints for an input (document 01, Around the finder). Assumes nothing.
use Rattle.std.specs.Prelude.{ℕ, List, [], ◌∷◌, ◌++◌, length, get_or, drop, Result, Ok, Err}
use Rattle.vertex_set.specs.declared.Sides.{Sides}
use Rattle.signed_graph.specs.declared.SignedGraph.{SignedGraph}
use Rattle.signed_graph.specs.declared.Refusal.{Refusal}
use Rattle.signed_graph.specs.Thresholds.{Threshold}
use Rattle.signed_graph.specs.Calls.{Check, check_of}
use Rattle.clique.specs.Listing.{Item, listing}
use Rattle.largest.specs.Largest.{largest_group}
use Rattle.commands.specs.declared.Fault.{Fault}
use Rattle.commands.specs.Faults.{graph_given}
use Rattle.edge_list.specs.Decoding.{decoded}
use Rattle.report.specs.declared.Line.{Line}
use Rattle.report.specs.declared.Line.TheVariants as line
use Rattle.report.specs.Lines.{group_line, line_text}
use Rattle.output.specs.declared.Due.{Due}
use Rattle.output.specs.declared.Closing.{Closing}

-- the input is one byte, the threshold, and then the list (document 01: the book); empty input is threshold 0 and an empty list
abbrev pub input_threshold : List ℕ → Threshold
input_threshold input = get_or input 0 0

abbrev pub input_list : List ℕ → List ℕ
input_list input = drop 1 input

-- by the check of the call: its refusal, or the groups of the graph for the threshold
abbrev pub due_by : Check → SignedGraph → Threshold → Result Due Line
due_by (Err why) g k = Err (line.Refusal why)
due_by (Ok passed) g k = Ok (record { graph = g; threshold = k })

-- what is due: the list is looked at first, then the threshold
abbrev pub due_of : Result SignedGraph Fault → Threshold → Result Due Line
due_of (Err f) k = Err (line.Fault f)
due_of (Ok g) k = due_by (check_of g k) g k

abbrev pub due_for : List ℕ → Result Due Line
due_for input = due_of (decoded (input_list input)) (input_threshold input)

-- the graph and the threshold of an input, whether its groups are due or not
abbrev pub input_of : List ℕ → Due
input_of input = record { graph = graph_given (decoded (input_list input)); threshold = input_threshold input }

-- one line a group
unfoldable pub groups_text : List Item → List ℕ
groups_text [] = []
groups_text (x ∷ l) = group_line x.left x.right ++ groups_text l

-- then `biggest` and that group, or `biggest none`
abbrev pub line_of_largest : Result Sides Refusal → Line
line_of_largest (Ok sides) = line.Largest sides
line_of_largest (Err why) = line.NoLargest

-- then `groups` and the count
abbrev pub closing_lines : SignedGraph → Threshold → ℕ → Closing
closing_lines g k count = record { largest = line_of_largest (largest_group g k); count = line.Count count }

-- the lines behind the groups: these two; a refusal's line where there is one
abbrev pub closing_of : Result Due Line → Result Closing Line
closing_of (Err l) = Err l
closing_of (Ok d) = Ok (closing_lines d.graph d.threshold (length (listing d.graph d.threshold)))

abbrev pub closing_for : List ℕ → Result Closing Line
closing_for input = closing_of (due_for input)

-- all that is printed: a refusal's line and nothing else, or the lines of the groups in listing order and the two behind them
abbrev pub listing_text : Result Due Line → List ℕ
listing_text (Err l) = []
listing_text (Ok d) = groups_text (listing d.graph d.threshold)

abbrev pub closing_text : Result Closing Line → List ℕ
closing_text (Err l) = line_text l
closing_text (Ok closing) = line_text closing.largest ++ line_text closing.count

abbrev pub printed_of : Result Due Line → List ℕ
printed_of d = listing_text d ++ closing_text (closing_of d)

unfoldable pub printed : List ℕ → List ℕ
printed input = printed_of (due_for input)
