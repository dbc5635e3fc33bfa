-- `propagation::beside_all` meets its contract. What is kept fits beside the candidates that are not left. Assumes nothing.
use borrow.Author.Rules.{rules}
use Rattle.std.proofs.Common.{ap}
use Rattle.propagation.specs.declared.Fit.{Fit}
use Rattle.propagation.proofs.FreeVertices.{passing_begin, passing_step, passing_end, beside_none}
use Rattle.propagation.proofs.beside_all.Goals as goal

pub loop-w-init : goal.loop-w-init
loop-w-init c =
    let a = c.args in
    let begin = passing_begin a.g.now.positive a.g.now.negative a.candidates a.from.near.all a.from.far.all c.ranges.candidates.fits in
    search (rules, begin)

pub loop-w-preserved : goal.loop-w-preserved
loop-w-preserved c =
    rw (c.beside-near.ensures, c.beside-far.ensures)
    (passing_step _ _ _ _ _ c.in-Some.ensures.steps c.loop-w.invariant c.single.result c.single.ensures)

pub returns-then-near-far-eq0 : goal.returns-then-near-far-eq0
returns-then-near-far-eq0 c =
    beside_none _ _ _ _ (ap (λ (f : Fit). f.all) c.any.ensures) (ap (λ (f : Fit). f.all) c.any-then-near-far-eq0.ensures)

pub returns : goal.returns
returns c = passing_end _ _ _ _ c.loop-w.invariant c.in-None.ensures.steps.0
