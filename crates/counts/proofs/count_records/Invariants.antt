-- `counts::count_records` meets its contract: the records below an index are counted. Assumes nothing.
use Rattle.std.proofs.Common.{◌≡◌, take, map}
use mathlib.Core.List.{foldl}
use Rattle.group_pages.specs.Records.{sides_of}
use Rattle.counts.specs.Tallies.{raised, joined}
use Rattle.counts.proofs.count_records.Given as goal

abbrev pub invariant-loop-record : goal.invariant-loop-record
invariant-loop-record l =
    l.counts ≡ foldl (raised l.sets) l.initial.counts (map (λ r. joined (sides_of r)) (take l.record-index l.record-items))
