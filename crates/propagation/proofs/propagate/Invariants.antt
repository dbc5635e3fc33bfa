-- `propagation::propagate` meets its contract. The node stands for the same groups after each step. Assumes nothing.
use Rattle.propagation.proofs.Advances.{Advanced}
use Rattle.propagation.proofs.propagate.Given as goal

abbrev pub invariant-loop : goal.invariant-loop
invariant-loop l = Advanced l.g.positive l.g.negative l.k l.initial.node l.node
