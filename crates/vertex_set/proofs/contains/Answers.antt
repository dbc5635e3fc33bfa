-- `vertex_set::contains` meets its contract. The digit is the one that `mem` tests; from 64 up there is none. Assumes nothing.
use mathlib.Core.Path.{refl, sym}
use Rattle.vertex_set.specs.Sets.{mem}
use Rattle.vertex_set.proofs.Membership.{mem_past}
use Rattle.vertex_set.proofs.contains.Goals as goal

pub returns-then-p-lt64 : goal.returns-then-p-lt64
unfolding mem
returns-then-p-lt64 c = refl

pub returns-else-p-lt64 : goal.returns-else-p-lt64
returns-else-p-lt64 c = sym (mem_past 64 c.args.p c.args.s c.ranges.s.fits c.if-p-lt64.false)
