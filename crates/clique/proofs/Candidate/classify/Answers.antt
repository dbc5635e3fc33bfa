-- `clique::Candidate::classify` meets its contract. Where no edge is missing and no triple is odd, the set is balanced. Assumes nothing.
use mathlib.Core.Path.{sym, ◌∙◌}
use Rattle.clique.proofs.OddTriples.{none_balanced}
use Rattle.clique.proofs.Candidate.classify.Goals as goal

pub extensible-requires : goal.extensible-requires
extensible-requires c =
    none_balanced c.args.self.known (sym c.missing_edge.ensures ∙ c.in_default.is) (sym c.unbalanced.ensures ∙ c.in_default-unbalanced.is)
