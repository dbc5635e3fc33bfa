-- `reduction::part` meets its contract. The rows of the vertices that are not left have lost p. Assumes nothing.
use Rattle.reduction.proofs.Parting.{parting_step, parting_end}
use Rattle.reduction.proofs.part.Goals as goal

pub loop-q-preserved : goal.loop-q-preserved
loop-q-preserved c = parting_step c.loop-q.invariant c.in-Some.ensures.steps _ c.single.ensures

pub returns : goal.returns
returns c = parting_end c.loop-q.invariant c.in-None.ensures.steps.0 c.requires c.ranges.out.fits
