-- What the call for counts answers and leaves in its buffer, refusals included. Assumes nothing.
use Rattle.std.specs.Prelude.{ℕ, Bool, not, List, map, leb, ltb, length, Ok, Err}
use Rattle.vertex_set.specs.Alternatives.{provided, ◌or_else◌}
use Rattle.vertex_set.specs.Buffers.{overwritten}
use Rattle.signed_graph.specs.declared.SignedGraph.{SignedGraph}
use Rattle.signed_graph.specs.declared.Refusal.TheVariants.{BufferTooShort, TooManySets}
use Rattle.signed_graph.specs.Soundness.{sound}
use Rattle.signed_graph.specs.Thresholds.{Threshold}
use Rattle.signed_graph.specs.Calls.{Check, passed, check_of}
use Rattle.counts.specs.Counts.{containing}

-- the most sets of a call
abbrev pub most_sets : ℕ
most_sets = 256

-- by the check of the call, then whether there are fewer places than sets, then whether there are too many sets
abbrev pub counting_by : Check → Bool → Bool → Check
counting_by (Err why) short many = Err why
counting_by (Ok x) short many =
    provided short (Err BufferTooShort)
    or_else provided many (Err TooManySets)
    or_else passed

-- the answer
abbrev pub counting_of : SignedGraph → Threshold → List ℕ → List ℕ → Check
counting_of g k sets buffer = counting_by (check_of g k) (ltb (length buffer) (length sets)) (ltb most_sets (length sets))

-- the buffer behind the call: the counts of the sets in their order, and behind them what stood there; a refusal leaves it as it was
abbrev pub buffer_by : Check → List ℕ → List ℕ → List ℕ
buffer_by (Ok x) counts buffer = overwritten counts buffer
buffer_by (Err why) counts buffer = buffer

abbrev pub counts_of : SignedGraph → Threshold → List ℕ → List ℕ → List ℕ
counts_of g k sets buffer = buffer_by (counting_of g k sets buffer) (map (containing g k) sets) buffer

-- the number that the call returns: 10 where the graph is not sound, 11 where k is over 32, 13 where there are fewer places than
-- sets, 14 where there are more than 256 sets
abbrev pub counts_number : SignedGraph → Threshold → List ℕ → List ℕ → ℕ
counts_number g k sets buffer =
    provided (not (sound g)) 10
    or_else provided (not (leb k 32)) 11
    or_else provided (ltb (length buffer) (length sets)) 13
    or_else provided (ltb most_sets (length sets)) 14
    or_else 0
