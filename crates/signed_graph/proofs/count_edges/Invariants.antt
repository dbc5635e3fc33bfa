-- `signed_graph::count_edges` meets its contract. What is counted are the edges whose lower vertex is below p. Assumes nothing.
use Prim.Native.Nat.{◌≤◌}
use mathlib.Core.Path.{◌≡◌}
use Rattle.signed_graph.proofs.EdgeCounts.{lower_to}
use Rattle.signed_graph.proofs.count_edges.Given as goal

abbrev pub invariant-loop-p : goal.invariant-loop-p
invariant-loop-p l = (l.p ≤ 64) × (l.count ≡ lower_to l.g l.p)
