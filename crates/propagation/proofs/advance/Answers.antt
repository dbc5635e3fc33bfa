-- `propagation::advance` meets its contract. Each answer is a law of the test that led to it. Assumes nothing.
use Rattle.propagation.proofs.Advances.{advance_short, advance_begin, advance_dominated, advance_settled}
use Rattle.propagation.proofs.advance.Goals as goal

pub returns-then-is_short-clause-advances : goal.returns-then-is_short-clause-advances
returns-then-is_short-clause-advances c = advance_short _ _ _ _ (c.is_short.ensures c.if-is_short.true)

pub returns-then-left-eq0-clause-advances : goal.returns-then-left-eq0-clause-advances
returns-then-left-eq0-clause-advances c = advance_begin _ _ _ _

pub returns-then-dominating-ne0-clause-advances : goal.returns-then-dominating-ne0-clause-advances
returns-then-dominating-ne0-clause-advances c =
    advance_dominated _ _ _ _ c.free_sides-free.result c.free_sides-free.ensures c.if-dominating-ne0.true

pub returns-clause-advances : goal.returns-clause-advances
returns-clause-advances c =
    advance_settled _ _ _ _ _ c.if-left-eq0.false (c.held_by_all.ensures c.free_sides-free.ensures) c.settle.ensures.settles
