-- What was read is within the buffer.
use Rattle.std.proofs.Common.{◌≤◌, length}
use Rattle.trials.proofs.read_full.Given as goal

abbrev pub invariant-loop : goal.invariant-loop
invariant-loop g l = l.at ≤ length l.space
