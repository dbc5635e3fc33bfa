-- `signed_graph::tables_sound` meets its contract. The rows of the vertices below p are sound. Assumes nothing.
use mathlib.Core.Path.{◌≡◌}
use mathlib.Core.Bool.{Bool, true}
use mathlib.Core.List.{List}
use Prim.Native.Nat.{ℕ, ◌≤◌}
use lib.ListN.{get_or}
use Rattle.vertex_set.specs.Ranges.{all}
use Rattle.signed_graph.specs.Rows.{rows_sound}
use Rattle.signed_graph.proofs.tables_sound.Given as goal

abbrev pub test : List ℕ → List ℕ → ℕ → List ℕ → ℕ → Bool
test positive negative top columns p = rows_sound (get_or positive p 0) (get_or negative p 0) (get_or columns p 0) top p

abbrev pub invariant-loop-p : goal.invariant-loop-p
invariant-loop-p l = (l.p ≤ 64) × (all l.p (test l.g.positive l.g.negative l.top l.columns) ≡ true)
