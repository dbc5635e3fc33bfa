-- `clique::Candidate::unbalanced` meets its contract. No vertex that is not left is in an odd triple with the lowest one as its second.
-- Assumes nothing.
use Rattle.vertex_set.specs.Sets.{lowest}
use Rattle.vertex_set.proofs.LowestVertex.{rest}
use Rattle.clique.specs.Verdicts.{odd_triple}
use Rattle.clique.proofs.FirstPairs.{Run}
use Rattle.clique.proofs.Candidate.unbalanced.Given as goal

abbrev pub invariant-loop-q : goal.invariant-loop-q
invariant-loop-q l = Run (rest l.fn.self.set) l.g.n (odd_triple l.g l.fn.self.set (lowest l.fn.self.set)) l.walk.left
