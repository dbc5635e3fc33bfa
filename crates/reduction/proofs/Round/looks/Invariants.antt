-- `reduction::Round::looks` meets its contract. What is counted are the vertices, and the edges of those that are not left.
-- Assumes nothing.
use Rattle.reduction.proofs.LookCounts.{Counting}
use Rattle.reduction.proofs.Round.looks.Given as goal

abbrev pub invariant-loop-p : goal.invariant-loop-p
invariant-loop-p l = Counting l.self.graph l.self.look l.walk.left l.total
