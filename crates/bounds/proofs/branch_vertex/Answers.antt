-- `bounds::branch_vertex` meets its contract. Assumes nothing.
use Rattle.std.proofs.Common.{arith}
use Rattle.vertex_set.proofs.Membership.{meet_left}
use Rattle.bounds.proofs.Branches.{lowest_among}
use Rattle.bounds.proofs.branch_vertex.Goals as goal

pub returns-then-some-ne0 : goal.returns-then-some-ne0
returns-then-some-ne0 g c some =
    lowest_among c.args.candidates (omega arith) (omega arith) _ _ (λ p. meet_left p _ _) c.if-some-ne0.true c.lowest.ensures

pub returns : goal.returns
returns g c some = lowest_among c.args.candidates (omega arith) (omega arith) _ _ (λ p m. m) some c.lowest-2.ensures
