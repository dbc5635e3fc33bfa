-- `reduction::differing` meets its contract. Those before p whose rows are not the same are found. Assumes nothing.
use Rattle.reduction.proofs.Striking.{Comparing}
use Rattle.reduction.proofs.differing.Given as goal

abbrev pub invariant-loop-p : goal.invariant-loop-p
invariant-loop-p l = Comparing l.r.positive l.g.positive l.r.negative l.g.negative l.p l.found
