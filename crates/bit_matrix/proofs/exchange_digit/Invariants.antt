-- `bit_matrix::exchange_digit` meets its contract. The rows before `at` are exchanged. Assumes nothing.
use Prim.Native.Nat.{◌≤◌}
use Rattle.bit_matrix.proofs.Transposition.{Exchanging}
use Rattle.bit_matrix.proofs.exchange_digit.Given as goal

abbrev pub invariant-loop-at : goal.invariant-loop-at
invariant-loop-at l = (l.at ≤ 64) × Exchanging l.k l.at l.initial.rows l.rows
