-- `bounds::colours_within` meets its contract. The classes so far cover all vertices but those that are left. Assumes nothing.
use Rattle.std.proofs.Common.{arith}
use borrow.Author.Tests.{eqb-true}
use Rattle.bounds.proofs.Colours.{coloured_begin, coloured_step, coloured_end}
use Rattle.bounds.proofs.colours_within.Goals as goal

pub loop-init : goal.loop-init
loop-init c = coloured_begin _ _ _ _

pub returns-then-rest-eq0 : goal.returns-then-rest-eq0
returns-then-rest-eq0 c _ = coloured_end _ _ _ _ _ _ _ _ c.loop.invariant c.if-rest-eq0.true (omega arith)

pub loop-preserved : goal.loop-preserved
loop-preserved c =
    rw c.meet-rest.ensures
    (coloured_step _ _ _ _ _ _ _ c.loop.invariant c.colour_class-class.result c.colour_class-class.ensures (omega arith) (omega arith))

pub returns : goal.returns
returns c e = coloured_end _ _ _ _ _ _ _ _ c.loop.invariant (eqb-true _ _ e) (omega arith)
