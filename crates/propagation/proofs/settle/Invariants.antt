-- `propagation::settle` meets its contract. The vertices that are not left are in, as far as they fit. Assumes nothing.
use Rattle.propagation.proofs.Settling.{Settled}
use Rattle.propagation.proofs.settle.Given as goal

abbrev pub invariant-loop-u : goal.invariant-loop-u
invariant-loop-u l = Settled l.g.positive l.g.negative l.initial.node l.held l.u-iterator.left l.node
