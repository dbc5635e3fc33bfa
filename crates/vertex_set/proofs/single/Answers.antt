-- `vertex_set::single` meets its contract. By `single_pow`; past the 64 vertices by `single_none`. Assumes nothing.
use mathlib.Core.Path.{sym, ◌∙◌}
use Rattle.vertex_set.proofs.Collections.{shifted, single_pow, single_none}
use Rattle.vertex_set.proofs.single.Goals as goal

pub returns-then-p-lt64 : goal.returns-then-p-lt64
returns-then-p-lt64 c = shifted 64 c.args.p c.if-p-lt64.true ∙ sym (single_pow c.args.p c.if-p-lt64.true)

pub returns-else-p-lt64 : goal.returns-else-p-lt64
returns-else-p-lt64 c = sym (single_none c.args.p c.if-p-lt64.false)
