-- `reduction::part` meets its contract. The rows of the vertices that are not left have lost p. Assumes nothing.
use Rattle.reduction.proofs.Parting.{Parting}
use Rattle.reduction.proofs.part.Given as goal

abbrev pub invariant-loop-q : goal.invariant-loop-q
invariant-loop-q l = Parting l.initial.rows l.p l.out l.q-iterator.left l.rows
