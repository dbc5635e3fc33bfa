-- `nodes::partners` meets its contract. What is found has the partners of those that are not left. Assumes nothing.
use borrow.Author.Rules.{rules}
use Rattle.nodes.proofs.Roots.{gathered_begin, gathered_step, gathered_all}
use Rattle.nodes.proofs.partners.Goals as goal

pub loop-p-init : goal.loop-p-init
loop-p-init c = let begin = gathered_begin c.args.g.now.positive c.args.g.now.negative c.args.s c.ranges.s.fits in search (rules, begin)

pub loop-p-preserved : goal.loop-p-preserved
loop-p-preserved c = gathered_step _ _ _ c.in-Some.ensures.steps c.loop-p.invariant

pub returns : goal.returns
returns c = gathered_all _ _ _ c.in-None.ensures.steps.0 c.loop-p.invariant
