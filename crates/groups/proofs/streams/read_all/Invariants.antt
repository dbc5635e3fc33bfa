-- What was read is within the buffer.
use Rattle.std.proofs.Common.{◌≤◌, length}
use Rattle.groups.proofs.streams.read_all.Given as goal

abbrev pub invariant-loop : goal.invariant-loop
invariant-loop g l = l.count ≤ length l.space
