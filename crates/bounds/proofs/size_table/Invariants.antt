-- `bounds::size_table` meets its contract. The table has bounds from v up. Assumes nothing.
use Rattle.bounds.proofs.SizeTables.{Tabling}
use Rattle.bounds.proofs.size_table.Given as goal

abbrev pub invariant-loop-v : goal.invariant-loop-v
invariant-loop-v l = Tabling l.n l.all l.g.positive l.g.negative l.table l.above l.most l.v
