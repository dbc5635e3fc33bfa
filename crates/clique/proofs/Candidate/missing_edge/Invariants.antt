-- `clique::Candidate::missing_edge` meets its contract. The members that are not left have an edge to every later one. Assumes nothing.
use Rattle.clique.specs.Verdicts.{lacks_edge}
use Rattle.clique.proofs.FirstPairs.{Run}
use Rattle.clique.proofs.Candidate.missing_edge.Given as goal

abbrev pub invariant-loop-p : goal.invariant-loop-p
invariant-loop-p l = Run l.fn.self.set l.g.n (lacks_edge l.g l.fn.self.set) l.walk.left
