-- `decimals::put_short` meets its contract. The text is copied byte by byte. Assumes nothing.
use Rattle.vertex_set.proofs.Copies.{copied_none, copied_long, copied_room, copied_next, copied_all}
use Rattle.decimals.proofs.put_short.Goals as goal

pub loop-i-init : goal.loop-i-init
loop-i-init c = copied_none _ _ c.requires

pub bounds-out-i : goal.bounds-out-i
bounds-out-i c = copied_room c.loop-i.invariant c.loop-i-test.true

pub loop-i-preserved : goal.loop-i-preserved
loop-i-preserved c = copied_next c.loop-i.invariant 0 c.loop-i-test.true

pub shape_of-out : goal.shape_of-out
shape_of-out c = copied_long c.loop-i.invariant

pub returns : goal.returns
returns c = copied_all c.loop-i.invariant c.loop-i-test.false
