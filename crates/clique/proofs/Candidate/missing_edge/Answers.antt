-- `clique::Candidate::missing_edge` meets its contract. The members that are not left have an edge to every later one. Assumes nothing.
use Prim.Native.Nat.{ℕ}
use mathlib.Core.Path.{refl, sym, ap, ◌∙◌}
use borrow.Author.Rules.{rules}
use Rattle.std.specs.Prelude.{Some}
use Rattle.clique.specs.declared.Verdict.TheVariants.{MissingEdge}
use Rattle.clique.proofs.MissingEdges.{edges_step, says_complete, says_missing}
use Rattle.clique.proofs.Candidate.missing_edge.Goals as goal

pub returns-then-missing-ne0 : goal.returns-then-missing-ne0
returns-then-missing-ne0 c =
    ap (λ (q : ℕ). Some (MissingEdge c.in-Some.p q)) c.lowest.ensures
    ∙ sym (says_missing c.args.self.known c.in-Some.ensures.steps c.loop-p.invariant _ refl (search rules))

pub loop-p-preserved : goal.loop-p-preserved
loop-p-preserved c = edges_step c.args.self.known c.in-Some.ensures.steps c.loop-p.invariant _ refl c.if-missing-ne0.false

pub returns : goal.returns
returns c = says_complete c.args.self.known c.in_default.ensures.steps.0 c.loop-p.invariant
