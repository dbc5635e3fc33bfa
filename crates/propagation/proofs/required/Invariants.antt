-- `propagation::required` meets its contract. Those found so far are each the only one that some excluded vertex does not fit beside.
-- Assumes nothing.
use Rattle.propagation.proofs.SoleConflicts.{Requiring}
use Rattle.propagation.proofs.required.Given as goal

abbrev pub invariant-loop-x : goal.invariant-loop-x
invariant-loop-x l = Requiring l.g.positive l.g.negative l.excluded l.near l.far l.x-iterator.left l.held
