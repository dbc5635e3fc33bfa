-- `propagation::required` meets its contract. Those found so far are each the only one that some excluded vertex does not fit beside.
-- Assumes nothing.
use borrow.Author.Rules.{rules}
use Rattle.propagation.proofs.SoleConflicts.{requiring_begin, requiring_step}
use Rattle.propagation.proofs.required.Goals as goal

pub loop-x-init : goal.loop-x-init
loop-x-init c =
    let a = c.args in
    let begin = requiring_begin a.g.now.positive a.g.now.negative a.excluded a.near a.far c.ranges.excluded.fits in
    search (rules, begin)

pub loop-x-preserved : goal.loop-x-preserved
loop-x-preserved c =
    requiring_step _ _ _ _ _ c.in-Some.ensures.steps c.loop-x.invariant _ _ c.partners.ensures c.conflicts.ensures
    c.sole_member-held.ensures
