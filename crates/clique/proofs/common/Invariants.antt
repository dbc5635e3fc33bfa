-- `clique::common` meets its contract. The rows of the members that are not left are joined. Assumes nothing.
use Rattle.clique.proofs.CommonParts.{Joined}
use Rattle.clique.proofs.common.Given as goal

abbrev pub invariant-loop-p : goal.invariant-loop-p
invariant-loop-p l = Joined l.rows l.s l.start l.p-iterator.left l.part
