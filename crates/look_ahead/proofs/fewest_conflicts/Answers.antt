-- `look_ahead::fewest_conflicts` meets its contract. Where none were found so far, an excluded vertex fits beside all. Assumes nothing.
use borrow.Author.Rules.{rules}
use Rattle.look_ahead.proofs.BarrenBranches.{narrowing_begin, narrowing_step}
use Rattle.look_ahead.proofs.fewest_conflicts.Goals as goal

pub loop-x-init : goal.loop-x-init
loop-x-init c =
    let a = c.args in
    let begin = narrowing_begin a.g.now.positive a.g.now.negative a.near a.far a.found (search rules) in
    search (rules, begin)

pub loop-x-preserved : goal.loop-x-preserved
loop-x-preserved c =
    narrowing_step _ _ _ _ _ c.in-Some.ensures.steps c.loop-x.invariant _ c.partners.ensures _ c.conflicts-against.ensures _
    c.smaller_of-best.ensures

pub returns : goal.returns
returns c = c.loop-x.invariant.from
