-- `bounds::is_bounded` meets its contract. Assumes nothing.
use Rattle.std.proofs.Common.{arith, refl}
use Rattle.std.specs.Int.Bits.{bit_or}
use Rattle.vertex_set.specs.Sets.{size}
use Rattle.bounds.proofs.Branches.{Leads, lowest_among, leads, at_most_none, at_most_table}
use Rattle.bounds.proofs.is_bounded.Goals as goal
use Rattle.bounds.proofs.is_bounded.Goals.{After-lowest}

-- the lowest vertex
tries : (c : After-lowest) → Leads (size (bit_or c.args.candidates.left c.args.candidates.right)) c.args.candidates c.lowest.result
tries c =
    let s = c.args.candidates in
    let some = c.if-either-eq0.false in
    leads s (omega arith) (omega arith) _ _ refl
    (lowest_among s (omega arith) (omega arith) _ _ (λ p m. m) some c.lowest.ensures)

pub returns-then-either-eq0-clause-at_most_by : goal.returns-then-either-eq0-clause-at_most_by
returns-then-either-eq0-clause-at_most_by c = λ _. at_most_none _ _ _ c.args.candidates _ c.if-either-eq0.true

pub offset_bounds-table-lowest : goal.offset_bounds-table-lowest
offset_bounds-table-lowest c = record { fits = omega (arith, (tries (goal.at.offset_bounds-table-lowest c).After-lowest).small) }

pub bounds-table-lowest : goal.bounds-table-lowest
bounds-table-lowest c = (tries (goal.at.bounds-table-lowest c).After-lowest).small

pub returns-then-table-lowest-clause-at_most_by : goal.returns-then-table-lowest-clause-at_most_by
returns-then-table-lowest-clause-at_most_by c = λ _.
    at_most_table _ _ _ c.args.candidates _ (tries (goal.at.returns-then-table-lowest-clause-at_most_by c).After-lowest)
    c.lowest.ensures c.if-table-lowest.true
