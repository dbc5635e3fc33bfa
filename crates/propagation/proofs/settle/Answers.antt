-- `propagation::settle` meets its contract. The vertices that are not left are in, as far as they fit. Assumes nothing.
use borrow.Author.Rules.{rules}
use Rattle.propagation.proofs.Settling.{settled_begin, settled_step}
use Rattle.propagation.proofs.settle.Goals as goal

pub loop-u-init : goal.loop-u-init
loop-u-init c =
    let a = c.args in
    let begin = settled_begin a.g.now.positive a.g.now.negative a.at a.held c.ranges.held.fits in
    search (rules, begin)

pub loop-u-preserved : goal.loop-u-preserved
loop-u-preserved c =
    settled_step _ _ _ _ c.in-Some.ensures.steps c.loop-u.invariant c.partners.ensures c.put_in_if_open-node.ensures
