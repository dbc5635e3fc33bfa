-- `canonical::put_masks` meets its contract. The masks of the vertices that are left are to come. Assumes nothing.
use Prim.Native.Nat.{◌^◌, ◌<◌}
use Rattle.vertex_set.proofs.Buffers.{Laid}
use Rattle.commands.specs.Entries.{entry_bytes}
use Rattle.canonical.specs.Canonical.{masks_of}
use Rattle.canonical.proofs.put_masks.Given as goal

abbrev pub invariant-loop-p : goal.invariant-loop-p
invariant-loop-p l =
    (l.p-iterator.left < 2 ^ 64) × Laid (entry_bytes (masks_of l.masked)) l.initial.out l.out l.at (entry_bytes (masks_of l.p-iterator.left))
