-- `counts::count_group` meets its contract: the sets below i are looked at. Assumes nothing.
use Rattle.std.proofs.Common.{◌≡◌, take}
use Rattle.counts.specs.Tallies.{raised}
use Rattle.counts.proofs.count_group.Given as goal

abbrev pub invariant-loop-i : goal.invariant-loop-i
invariant-loop-i l = l.counts ≡ raised (take l.i l.sets) l.initial.counts l.v
