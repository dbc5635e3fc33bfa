-- `canonical::put_edges` meets its contract. The edges to the members that are left are to come. Assumes nothing.
use Prim.Native.Nat.{◌^◌, ◌<◌}
use Rattle.vertex_set.proofs.Buffers.{Laid}
use Rattle.commands.specs.Entries.{entry_bytes}
use Rattle.canonical.specs.EdgeRows.{edges_to}
use Rattle.canonical.proofs.put_edges.Given as goal

abbrev pub invariant-loop-q : goal.invariant-loop-q
invariant-loop-q l =
    (l.q-iterator.left < 2 ^ 64)
    × Laid (entry_bytes (edges_to l.positive l.s l.p)) l.initial.out l.out l.at (entry_bytes (edges_to l.positive l.q-iterator.left l.p))
