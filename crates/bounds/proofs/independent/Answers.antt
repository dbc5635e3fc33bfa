-- `bounds::independent` meets its contract. What is left, and what is apart, is joined to no member. Assumes nothing.
use borrow.Author.Rules.{rules}
use Rattle.bounds.proofs.Colours.{picking_begin, picking_small, picking_falls, picking_step}
use Rattle.bounds.proofs.independent.Goals as goal

pub loop-left-init : goal.loop-left-init
loop-left-init c = picking_begin _ _ _ c.ranges.near.fits _

pub partners-partners-requires : goal.partners-partners-requires
partners-partners-requires c = picking_small _ _ _ c.loop-left.invariant (search rules) _ c.lowest-v.ensures

pub loop-left-smaller : goal.loop-left-smaller
loop-left-smaller c =
    picking_falls _ _ _ c.loop-left.invariant (search rules) _ c.lowest-v.ensures _ c.single-one.ensures c.partners-partners.result

pub loop-left-preserved : goal.loop-left-preserved
loop-left-preserved c =
    picking_step _ _ _ c.loop-left.invariant (search rules) _ c.lowest-v.ensures _ c.single-one.ensures c.partners-partners.result c.partners-partners.ensures
