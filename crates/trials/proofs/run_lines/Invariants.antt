-- The measure is what is left of the input.
use Rattle.std.proofs.Common.{length}
use Rattle.trials.proofs.run_lines.Given as goal

abbrev pub decreases-loop-rest : goal.decreases-loop-rest
decreases-loop-rest l = length l.rest
