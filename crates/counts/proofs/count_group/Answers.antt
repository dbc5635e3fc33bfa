-- `counts::count_group` meets its contract: the sets below i are looked at. Assumes nothing.
use Rattle.std.proofs.Common.{arith, refl}
use Rattle.std.proofs.lemmas.Grind.{common_steps}
use Rattle.counts.specs.Tallies.{raised}
use Rattle.counts.proofs.Tallies.{byte_bit, raised_behind, raised_next, raised_all}
use Rattle.counts.proofs.count_group.Goals as goal

pub loop-i-init : goal.loop-i-init
unfolding raised
loop-i-init c = refl

pub loop-i-preserved : goal.loop-i-preserved
loop-i-preserved c = grind (arith, common_steps, byte_bit, raised_behind, raised_next)

pub returns : goal.returns
returns c = grind (arith, common_steps, raised_all)
