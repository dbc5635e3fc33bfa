-- `clique::large_enough` meets its contract. For k = 0 two vertices in all are enough, and from k = 1 on k each. Assumes nothing.
use mathlib.Core.Path.{sym, ◌∙◌}
use native.Mathlib.Omega.{arith}
use Rattle.std.proofs.lemmas.Bool.Decides.{nat_tests}
use Rattle.clique.specs.Groups.{floor}
use Rattle.clique.proofs.Groups.{floor_at_zero}
use Rattle.clique.proofs.large_enough.Goals as goal

pub returns-then-k-eq0 : goal.returns-then-k-eq0
returns-then-k-eq0 c = c.have_two.ensures ∙ sym (floor_at_zero _ _ _ c.if-k-eq0.true)

pub returns-then-k-size : goal.returns-then-k-size
unfolding floor
returns-then-k-size c = grind (arith, nat_tests)

pub returns-else-k-size : goal.returns-else-k-size
unfolding floor
returns-else-k-size c = grind (arith, nat_tests)
