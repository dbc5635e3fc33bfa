-- `bit_matrix::exchange_rows` meets its contract. The rows before p are exchanged. Assumes nothing.
use native.Mathlib.Omega.{arith}
use Rattle.bit_matrix.specs.Transposition.{first_row, second_row}
use Rattle.bit_matrix.proofs.Transposition.{exchange_start, exchange_step, exchange_end}
use Rattle.bit_matrix.proofs.exchange_rows.Goals as goal

pub loop-p-init : goal.loop-p-init
loop-p-init c = (omega arith, omega arith, exchange_start c.args.j c.args.m c.args.at c.args.rows.now)

pub loop-p-preserved : goal.loop-p-preserved
unfolding first_row second_row
loop-p-preserved c =
    let l = c.loop-p in
    (omega arith, omega arith, exchange_step l.invariant.2 (omega arith) (omega arith) (omega (arith, l.invariant.2.long)))

pub returns : goal.returns
returns c = exchange_end c.loop-p.invariant.2 (omega arith)
