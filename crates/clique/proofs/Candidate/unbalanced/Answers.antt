-- `clique::Candidate::unbalanced` meets its contract. No vertex that is not left is in an odd triple with the lowest one as its second.
-- Assumes nothing.
use Prim.Native.Nat.{ℕ}
use native.Mathlib.Omega.{arith}
use mathlib.Core.Path.{sym, ap, ◌∙◌}
use borrow.Author.Rules.{rules}
use Rattle.std.specs.Prelude.{Some}
use Rattle.clique.specs.declared.Verdict.TheVariants.{Unbalanced}
use Rattle.clique.proofs.MissingEdges.{known_lowest}
use Rattle.clique.proofs.OddTriples.{odds_step, says_even, says_unbalanced}
use Rattle.clique.proofs.Candidate.unbalanced.Goals as goal

pub offset_bounds-g-a : goal.offset_bounds-g-a
offset_bounds-g-a c = omega (arith, c.lowest-a.ensures, known_lowest c.args.self.known)

pub bounds-g-a : goal.bounds-g-a
bounds-g-a c = omega (arith, c.lowest-a.ensures, known_lowest c.args.self.known)

pub returns-then-odd-ne0 : goal.returns-then-odd-ne0
returns-then-odd-ne0 c =
    let o = c.odd_part-odd in
    let a = c.lowest-a in
    ap (λ (r : ℕ). Some (Unbalanced a.result c.in-Some.q r)) c.lowest.ensures
    ∙ sym (says_unbalanced c.args.self.known c.in-Some.ensures.steps c.loop-q.invariant a.result o.result a.ensures o.ensures (search rules) o.type_inv)

pub loop-q-preserved : goal.loop-q-preserved
loop-q-preserved c =
    let o = c.odd_part-odd in
    let a = c.lowest-a in
    odds_step c.args.self.known c.in-Some.ensures.steps c.loop-q.invariant a.result o.result a.ensures o.ensures c.if-odd-ne0.false

pub returns : goal.returns
returns c = says_even c.args.self.known c.in_default.ensures.steps.0 c.loop-q.invariant
