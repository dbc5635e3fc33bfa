-- The number of the call for counts. Assumes nothing.
use Prim.Native.Nat.{ℕ, ◌≤◌}
use mathlib.Core.Path.{◌≡◌, refl}
use mathlib.Core.Bool.{Bool, true, false, not}
use mathlib.Core.List.{List, map, ◌++◌}
use lib.Dec.{leb, ltb}
use lib.ListN.{length, drop, length-map}
use borrow.Author.Tests.{le-ltb}
use Rattle.vertex_set.specs.Alternatives.{provided, ◌or_else◌}
use Rattle.signed_graph.specs.declared.SignedGraph.{SignedGraph}
use Rattle.signed_graph.specs.Soundness.{sound}
use Rattle.signed_graph.specs.Thresholds.{Threshold}
use Rattle.signed_graph.specs.Calls.{passed, check_by, check_of, answer_number}
use Rattle.counts.specs.Counts.{containing}
use Rattle.counts.specs.Calls.{most_sets, counting_by, counting_of, counts_of, counts_number}

numbers : (able small short many : Bool) → answer_number (counting_by (check_by able small) short many)
    ≡ (provided (not able) 10 or_else provided (not small) 11 or_else provided short 13 or_else provided many 14 or_else 0)
numbers false small short many = refl
numbers true false short many = refl
numbers true true true many = refl
numbers true true false true = refl
numbers true true false false = refl

-- the answer's number is the call's
pub counting_number_law : (g : SignedGraph) (k : Threshold) (sets buffer : List ℕ)
    → answer_number (counting_of g k sets buffer) ≡ counts_number g k sets buffer
counting_number_law g k sets buffer =
    numbers (sound g) (leb k 32) (ltb (length buffer) (length sets)) (ltb most_sets (length sets))

-- the buffer behind a call that is not refused
pub counted : (g : SignedGraph) (k : Threshold) (sets buffer : List ℕ) → check_of g k ≡ passed → length sets ≤ length buffer
    → length sets ≤ most_sets → counts_of g k sets buffer ≡ map (containing g k) sets ++ drop (length sets) buffer
counted g k sets buffer passes enough few =
    rw (passes, le-ltb (length buffer) (length sets) enough, le-ltb most_sets (length sets) few, length-map)
