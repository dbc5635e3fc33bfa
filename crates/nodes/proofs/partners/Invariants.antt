-- `nodes::partners` meets its contract. What is found has the partners of those that are not left. Assumes nothing.
use Rattle.nodes.proofs.Roots.{Gathered}
use Rattle.nodes.proofs.partners.Given as goal

abbrev pub invariant-loop-p : goal.invariant-loop-p
invariant-loop-p l = Gathered l.g.positive l.g.negative l.s l.p-iterator.left l.found
