-- `canonical::put_rows` meets its contract. The edges from p on are to come. Assumes nothing.
use Rattle.vertex_set.proofs.Buffers.{Laid}
use Rattle.commands.specs.Entries.{entry_bytes}
use Rattle.canonical.specs.Canonical.{ordered_edges}
use Rattle.canonical.proofs.Rows.{edges_from}
use Rattle.canonical.proofs.put_rows.Given as goal

abbrev pub invariant-loop-p : goal.invariant-loop-p
invariant-loop-p l = Laid (entry_bytes (ordered_edges l.g.graph.now)) l.initial.out l.out l.at (entry_bytes (edges_from l.g.graph.now l.p))
