-- `clique::Candidate::extensible` meets its contract. By `says_extensible` and `says_maximal`. Assumes nothing.
use Prim.Native.Nat.{ℕ, ◌-◌, ◌^◌}
use mathlib.Core.Path.{◌≡◌, sym, ap, ◌∙◌}
use borrow.Author.Rules.{rules}
use lib.Bits.{bit_and}
use Rattle.std.specs.Prelude.{Some}
use Rattle.vertex_set.specs.declared.Sides.{Sides}
use Rattle.signed_graph.specs.Graphs.{vertices}
use Rattle.clique.specs.declared.Verdict.TheVariants.{Extensible}
use Rattle.clique.specs.Balance.{left, right}
use Rattle.clique.specs.Stages.{joining_part}
use Rattle.clique.proofs.Extension.{says_extensible, says_maximal}
use Rattle.clique.proofs.Candidate.extensible.Goals as goal
use Rattle.clique.proofs.Candidate.extensible.Goals.{After-joining-joins_right}

module _ (c : After-joining-joins_right) where
  abbrev start : ℕ
  start = bit_and c.vertices.result ((2 ^ 64 - 1) - c.args.self.set)

  start_is : start ≡ bit_and (vertices c.args.self.graph.now) ((2 ^ 64 - 1) - c.args.self.set)
  start_is = ap (λ (x : ℕ). bit_and x ((2 ^ 64 - 1) - c.args.self.set)) c.vertices.ensures

  abbrev joins : ℕ → ℕ → ℕ
  joins l r = joining_part c.args.self.graph.now.positive c.args.self.graph.now.negative l r start

  left_is : c.joining-joins_left.result ≡ joins (left c.args.self.graph.now c.args.self.set) (right c.args.self.graph.now c.args.self.set)
  left_is = c.joining-joins_left.ensures ∙ ap (λ (x : Sides). joins x.left x.right) c.sides-sides.ensures

  right_is : c.joining-joins_right.result ≡ joins (right c.args.self.graph.now c.args.self.set) (left c.args.self.graph.now c.args.self.set)
  right_is = c.joining-joins_right.ensures ∙ ap (λ (x : Sides). joins x.right x.left) c.sides-sides.ensures

pub returns-then-joins-eq0 : goal.returns-then-joins-eq0
returns-then-joins-eq0 c =
    let at = (goal.at.returns-then-joins-eq0 c).After-joining-joins_right in
    says_maximal c.args.self.known c.requires _ _ _ (start_is at) (left_is at) (right_is at) c.if-joins-eq0.true

pub returns : goal.returns
returns c =
    let at = (goal.at.returns c).After-joining-joins_right in
    ap (λ (p : ℕ). Some (Extensible p)) c.lowest.ensures
    ∙ sym (says_extensible c.args.self.known c.requires _ _ _ (start_is at) (left_is at) (right_is at) (search rules))
