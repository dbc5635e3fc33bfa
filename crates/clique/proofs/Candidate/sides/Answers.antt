-- `clique::Candidate::sides` meets its contract. Assumes nothing.
use native.Mathlib.Omega.{arith}
use Rattle.clique.proofs.MissingEdges.{known_64, known_lowest}
use Rattle.clique.proofs.SideSizes.{sides_made}
use Rattle.clique.proofs.Candidate.sides.Goals as goal

pub offset_bounds-self-a : goal.offset_bounds-self-a
offset_bounds-self-a c = omega (arith, c.lowest-a.ensures, known_lowest c.args.self.known)

pub bounds-self-a : goal.bounds-self-a
bounds-self-a c = omega (arith, c.lowest-a.ensures, known_lowest c.args.self.known)

pub returns : goal.returns
returns c =
    let self = c.args.self in
    sides_made self.graph.now self.set c.lowest-a.result c.single.result (known_64 self.known) c.lowest-a.ensures c.single.ensures
