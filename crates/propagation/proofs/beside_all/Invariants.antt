-- `propagation::beside_all` meets its contract. What is kept fits beside the candidates that are not left. Assumes nothing.
use Rattle.propagation.proofs.FreeVertices.{Passing}
use Rattle.propagation.proofs.beside_all.Given as goal

abbrev pub invariant-loop-w : goal.invariant-loop-w
invariant-loop-w l =
    Passing l.g.positive l.g.negative l.candidates l.initial.near.all l.initial.far.all l.w-iterator.left l.near.all l.far.all
