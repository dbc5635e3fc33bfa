-- `signed_graph::packed` meets its contract. The rows before p are filled. Assumes nothing.
use native.Mathlib.Omega.{arith}
use mathlib.Core.Path.{refl}
use borrow.Author.Rules.{rules}
use Rattle.bit_matrix.proofs.Matrices.{fill_begin, fill_step, fill_end}
use Rattle.signed_graph.specs.Rows.{packed_row, packed}
use Rattle.signed_graph.proofs.packed.Goals as goal

pub loop-p-init : goal.loop-p-init
loop-p-init c = (omega arith, fill_begin _ _ refl)

pub loop-p-preserved : goal.loop-p-preserved
unfolding packed_row
loop-p-preserved c =
    let r = c.packed_row in
    (omega arith, fill_step c.loop-p.invariant.1 r.result (search rules) r.ensures)

pub returns : goal.returns
unfolding packed
returns c = fill_end c.loop-p.invariant.1 c.loop-p-test.false
