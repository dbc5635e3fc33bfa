-- `signed_graph::stands_sound` meets its contract. By `checks_sound`, for the 64 rows that an array has. Assumes nothing.
use mathlib.Core.Path.{◌≡◌, sym, ◌∙◌}
use Prim.Native.Nat.{ℕ, ◌-◌, ◌^◌, ◌≤◌}
use borrow.Author.Rules.{rules}
use Rattle.vertex_set.specs.Sets.{below}
use Rattle.vertex_set.proofs.Collections.{below_pow}
use Rattle.signed_graph.specs.declared.SignedGraph.{SignedGraph}
use Rattle.signed_graph.proofs.RowChecks.{checks_sound, too_many, too_high}
use Rattle.signed_graph.proofs.stands_sound.Goals as goal

-- what is known before the masked vertices are looked at: the result of `below`, and the lengths of the tables
top : (g : SignedGraph) (t : ℕ) → g.n ≤ 64 → t ≡ below g.n → t ≡ 2 ^ g.n - 1
top g t small e = e ∙ below_pow g.n small

pub returns-then-n-gt-MOST_VERTICES : goal.returns-then-n-gt-MOST_VERTICES
returns-then-n-gt-MOST_VERTICES c = sym (too_many c.args.g.now c.if-n-gt-MOST_VERTICES.true)

pub returns-then-top-g : goal.returns-then-top-g
returns-then-top-g c =
    let g = c.args.g.now in
    let small = c.if-n-gt-MOST_VERTICES.false in
    sym (too_high g (search rules) (search rules) small c.below-top.result (top g _ small c.below-top.ensures) c.if-top-g.true)

pub returns : goal.returns
returns c =
    let g = c.args.g.now in
    let small = c.if-n-gt-MOST_VERTICES.false in
    c.tables_sound.ensures ∙ checks_sound g (search rules) (search rules) small c.below-top.result (top g _ small c.below-top.ensures) c.if-top-g.false
