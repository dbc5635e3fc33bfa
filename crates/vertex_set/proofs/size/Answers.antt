-- `vertex_set::size` meets its contract. The ones are the members. Assumes nothing.
use mathlib.Core.Path.{sym}
use native.Mathlib.Omega.{arith}
use lib.Count.{ones-le}
use Rattle.vertex_set.proofs.Sizes.{size_ones}
use Rattle.vertex_set.proofs.size.Goals as goal

pub overflow_cast-result : goal.overflow_cast-result
overflow_cast-result c = omega (arith, ones-le 64 c.args.s c.ranges.s.fits)

pub returns : goal.returns
returns c = sym (size_ones c.args.s c.ranges.s.fits)
