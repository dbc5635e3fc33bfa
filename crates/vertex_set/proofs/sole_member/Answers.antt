-- `vertex_set::sole_member` meets its contract. Assumes nothing.
use mathlib.Core.Path.{sym, ◌∙◌}
use borrow.Author.Rules.{rules}
use Rattle.vertex_set.proofs.Singles.{sole_none}
use Rattle.vertex_set.proofs.SizeBounds.{sole_few}
use Rattle.vertex_set.proofs.sole_member.Goals as goal

pub returns-then-has_two : goal.returns-then-has_two
returns-then-has_two c = sole_none _

pub returns-else-has_two : goal.returns-else-has_two
returns-else-has_two c = sole_few _ (search rules) (sym c.has_two.ensures ∙ c.if-has_two.false)
