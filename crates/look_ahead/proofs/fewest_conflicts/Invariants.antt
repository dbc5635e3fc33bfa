-- `look_ahead::fewest_conflicts` meets its contract. Where none were found so far, an excluded vertex fits beside all. Assumes nothing.
use Rattle.look_ahead.proofs.BarrenBranches.{Narrowing}
use Rattle.look_ahead.proofs.fewest_conflicts.Given as goal

abbrev pub invariant-loop-x : goal.invariant-loop-x
invariant-loop-x l = Narrowing l.g.positive l.g.negative l.near l.far l.initial.best l.x-iterator.left l.best
