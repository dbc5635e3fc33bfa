-- `reduction::Round::looks` meets its contract. What is counted are the vertices, and the edges of those that are not left.
-- Assumes nothing.
use native.Mathlib.Omega.{arith}
use Rattle.signed_graph.proofs.Soundness.{to_sound}
use Rattle.reduction.proofs.LookCounts.{counting_begin, counting_step, counting_end}
use Rattle.reduction.proofs.Looks.{looks_at_most}
use Rattle.reduction.proofs.Round.looks.Goals as goal

pub loop-p-init : goal.loop-p-init
loop-p-init c =
    let at = c.args.self.now in
    rw (c.members-walk.ensures, c.size-total.ensures) (counting_begin at.graph at.look (to_sound at.graph at.is_sound) (omega arith))

pub overflow_add-total : goal.overflow_add-total
overflow_add-total c =
    let at = c.args.self.now in
    let n = c.size-total-in-Some in
    omega (arith, (counting_step at.graph at.look c.in-Some.ensures.steps c.loop-p.invariant n.result n.ensures).adds, looks_at_most at.graph at.look)

pub loop-p-preserved : goal.loop-p-preserved
loop-p-preserved c =
    let at = c.args.self.now in
    let n = c.size-total-in-Some in
    counting_step at.graph at.look c.in-Some.ensures.steps c.loop-p.invariant n.result n.ensures

pub returns : goal.returns
returns c = let at = c.args.self.now in counting_end at.graph at.look c.loop-p.invariant c.in_default.ensures.steps.0
