-- `propagation::propagate` meets its contract. The node stands for the same groups after each step. Assumes nothing.
use Rattle.propagation.proofs.Advances.{Advanced, advanced_step, advanced_end}
use Rattle.propagation.proofs.propagate.Goals as goal
use Rattle.propagation.proofs.propagate.Goals.{In_ok-node}

-- a step further
next : (c : In_ok-node) → Advanced c.args.g.now.positive c.args.g.now.negative c.args.k c.args.at c.in_ok-node.node
next c = advanced_step _ _ _ _ c.loop.invariant c.in_ok-node.ensures.subset c.in_ok-node.ensures.advances

pub returns-then-open-eq0 : goal.returns-then-open-eq0
returns-then-open-eq0 c =
    let h = next (goal.at.returns-then-open-eq0 c).In_ok-node in
    record { subset = h.fewer; advances = advanced_end _ _ _ _ h }

pub returns-then-open-before : goal.returns-then-open-before
returns-then-open-before c =
    let h = next (goal.at.returns-then-open-before c).In_ok-node in
    record { subset = h.fewer; advances = advanced_end _ _ _ _ h }

pub loop-preserved : goal.loop-preserved
loop-preserved c = next (goal.at.loop-preserved c).In_ok-node
