-- `signed_graph::packed` meets its contract. The rows before p are filled. Assumes nothing.
use Prim.Native.Nat.{◌≤◌}
use lib.ListN.{get_or}
use Rattle.bit_matrix.proofs.Matrices.{Filled}
use Rattle.signed_graph.specs.Rows.{packs}
use Rattle.signed_graph.proofs.packed.Given as goal

abbrev pub invariant-loop-p : goal.invariant-loop-p
invariant-loop-p l = (l.p ≤ 64) × (Filled (λ p. packs (get_or l.g.positive p 0) (get_or l.g.negative p 0) p) l.p l.row-items)
