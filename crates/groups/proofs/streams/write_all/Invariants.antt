-- What was written is within the bytes.
use Rattle.std.proofs.Common.{◌≤◌, length}
use Rattle.groups.proofs.streams.write_all.Given as goal

abbrev pub invariant-loop : goal.invariant-loop
invariant-loop g l = l.at ≤ length l.bytes
