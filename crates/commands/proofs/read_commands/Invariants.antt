-- `commands::read_commands` meets its contract. Reading has come to the place `at`, with the graph. Assumes nothing.
use Prim.Native.Nat.{◌-◌}
use lib.ListN.{length}
use Rattle.commands.proofs.ListKinds.{Reached}
use Rattle.commands.proofs.read_commands.Given as goal

abbrev pub invariant-loop-at : goal.invariant-loop-at
invariant-loop-at g l = Reached g.K.ListKind.kind l.n l.bytes l.graph l.at

abbrev pub decreases-loop-at : goal.decreases-loop-at
decreases-loop-at g l = length l.bytes - l.at
