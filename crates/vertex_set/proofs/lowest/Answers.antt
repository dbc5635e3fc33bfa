-- `vertex_set::lowest` meets its contract. The trailing zeros end at the lowest member. Assumes nothing.
use mathlib.Core.Path.{sym}
use native.Mathlib.Omega.{arith}
use lib.Count.{trailing_le}
use Rattle.vertex_set.proofs.LowestVertex.{lowest_zeros}
use Rattle.vertex_set.proofs.lowest.Goals as goal

pub overflow_cast-result : goal.overflow_cast-result
overflow_cast-result c = omega (arith, trailing_le 64 c.args.s)

pub returns : goal.returns
returns c = sym (lowest_zeros c.args.s)
