-- `reduction::sift` meets its contract. The members that are not left and failed are struck out. Assumes nothing.
use Rattle.reduction.specs.RoundTables.{reaches}
use Rattle.reduction.proofs.Striking.{Sifting}
use Rattle.reduction.proofs.sift.Given as goal

abbrev pub invariant-loop-q : goal.invariant-loop-q
invariant-loop-q l = Sifting l.s l.look (reaches l.rows l.demand.set l.demand.least) l.q-iterator.left l.kept
