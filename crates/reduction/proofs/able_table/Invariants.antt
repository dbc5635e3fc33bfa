-- `reduction::able_table` meets its contract. The rows of able vertices that are not left are filled. Assumes nothing.
use Rattle.reduction.proofs.AbleTables.{Filling}
use Rattle.reduction.proofs.able_table.Given as goal

abbrev pub invariant-loop-p : goal.invariant-loop-p
invariant-loop-p l = Filling l.able l.own l.p-iterator.left l.rows
