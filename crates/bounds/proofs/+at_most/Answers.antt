-- `bounds::at_most` meets its contract. The candidates fall in number at each call of itself. Assumes nothing.
use Rattle.std.proofs.Common.{ℕ, true, arith, refl, sym, ◌∙◌}
use Rattle.vertex_set.proofs.Booleans.{clash}
use Rattle.vertex_set.proofs.Membership.{meet_right}
use Rattle.bounds.proofs.Branches.{Leads, leads, meet_falls, at_most_branch}
use Rattle.bounds.proofs.+at_most.Given.{Over}
use Rattle.bounds.proofs.+at_most.Goals as goal
use Rattle.bounds.proofs.+at_most.Goals.{After-branch_vertex-v, then-contains+in_ok-fuel, else-contains, then-contains-2+in_ok-fuel-2, else-contains-2}

-- the vertex to try
tries : (g : Over) (t : ℕ) (c : After-branch_vertex-v g t) → Leads t c.args.candidates c.branch_vertex-v.result
tries g t c =
    let some = c.is_bounded.ensures.nonempty c.if-is_bounded.false in
    leads c.args.candidates (omega arith) (omega arith) _ t c.decreases (c.branch_vertex-v.ensures some)

pub partners-partners-requires : goal.partners-partners-requires
partners-partners-requires g t c =
    (tries g t (goal.at.partners-partners-requires g t c).After-branch_vertex-v).small

pub at_most-requires : goal.at_most-requires
at_most-requires g t c κs within =
    (meet_falls (tries g t (goal.at.at_most-requires g t c).After-branch_vertex-v) _ _ _ _ c.meet.ensures c.single-others.ensures (λ p. meet_right p _ _) (λ p. meet_right p _ _), within)

pub at_most-requires-then-contains-2 : goal.at_most-requires-then-contains-2
at_most-requires-then-contains-2 g t c κs within =
    (meet_falls (tries g t (goal.at.at_most-requires-then-contains-2 g t c).After-branch_vertex-v) _ _ _ _ c.meet-then-contains-2.ensures c.single-others.ensures (λ p. meet_right p _ _) (λ p. meet_right p _ _), within)

pub at_most-requires-2 : goal.at_most-requires-2
at_most-requires-2 g t c κs within =
    (meet_falls (tries g t (goal.at.at_most-requires-2 g t c).After-branch_vertex-v) _ _ _ _ c.meet-2.ensures c.single-others.ensures (λ p m. m) (λ p m. m), within)

pub returns : goal.returns
returns g t c e =
    at_most_branch c.args.table.now c.args.g.now.positive c.args.g.now.negative c.args.candidates c.args.room (tries g t (goal.at.returns g t c).After-branch_vertex-v)
    _ _ c.partners-partners.ensures c.single-others.ensures (omega arith)
    (elim c.if-contains.branch [
      | then-contains+in_ok-fuel w ↦ λ m. (w.meet.result, w.meet.ensures, w.in_ok-fuel.ensures (refl {a = true}))
      | else-contains w ↦ λ m. clash _ m (sym c.contains.ensures ∙ w.if-contains.false)
    ])
    (elim c.if-contains-2.branch [
      | then-contains-2+in_ok-fuel-2 w ↦ λ m. (w.meet-then-contains-2.result, w.meet-then-contains-2.ensures, w.in_ok-fuel-2.ensures (refl {a = true}))
      | else-contains-2 w ↦ λ m. clash _ m (sym c.contains-2.ensures ∙ w.if-contains-2.false)
    ])
    (c.meet-2.result, c.meet-2.ensures, c.at_most-2.ensures e)
