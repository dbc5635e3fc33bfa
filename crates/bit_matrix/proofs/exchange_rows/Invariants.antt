-- `bit_matrix::exchange_rows` meets its contract. The rows before p are exchanged. Assumes nothing.
use Prim.Native.Nat.{◌+◌, ◌≤◌}
use Rattle.bit_matrix.specs.Transposition.{RowsExchanged}
use Rattle.bit_matrix.proofs.exchange_rows.Given as goal

abbrev pub invariant-loop-p : goal.invariant-loop-p
invariant-loop-p l = (l.at ≤ l.p) × (l.p ≤ l.at + l.j) × RowsExchanged l.j l.m l.at l.p l.initial.rows l.rows
