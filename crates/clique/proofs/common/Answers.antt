-- `clique::common` meets its contract. The rows of the members that are not left are joined. Assumes nothing.
use Rattle.clique.proofs.CommonParts.{joined_step, joined_end}
use Rattle.clique.proofs.common.Goals as goal

pub loop-p-preserved : goal.loop-p-preserved
loop-p-preserved c = joined_step c.args.rows.now c.in-Some.ensures.steps c.loop-p.invariant

pub returns : goal.returns
returns c =
    let l = c.loop-p in
    joined_end c.args.rows.now c.args.s c.args.start l.p-iterator.left l.part c.ranges.s.fits c.ranges.start.fits
    c.in-None.ensures.steps.0 l.invariant
