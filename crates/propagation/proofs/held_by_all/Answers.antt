-- `propagation::held_by_all` meets its contract. Assumes nothing.
use Rattle.propagation.proofs.Advances.{held_by_all}
use Rattle.propagation.proofs.held_by_all.Goals as goal

pub returns : goal.returns
returns c free =
    held_by_all _ _ _ _ free _ _ _ _ c.required-by_left.ensures c.required-by_right.ensures
