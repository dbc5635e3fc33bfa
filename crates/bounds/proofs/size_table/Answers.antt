-- `bounds::size_table` meets its contract. The table has bounds from v up. Assumes nothing.
use Prim.Native.Nat.{ℕ}
use mathlib.Core.Path.{refl, ap}
use lib.Bits.{bit_and}
use lib.ListN.{replicate}
use borrow.Author.Rules.{rules}
use Rattle.bounds.proofs.SizeTables.{tabling_begin, tabling_step, tabled_none}
use Rattle.bounds.proofs.size_table.Goals as goal

pub returns-then-n-gt64 : goal.returns-then-n-gt64
returns-then-n-gt64 c =
    let a = c.args in tabled_none a.n a.all a.g.now.positive a.g.now.negative (replicate 64 0) c.if-n-gt64.true

pub loop-v-init : goal.loop-v-init
loop-v-init c =
    let a = c.args in tabling_begin a.n a.all a.g.now.positive a.g.now.negative _ refl

pub loop-v-preserved : goal.loop-v-preserved
loop-v-preserved c =
    let a = c.args in
    tabling_step a.n a.all a.g.now.positive a.g.now.negative c.loop-v.invariant c.if-n-gt64.false (search rules)
    c.bound_from-most.result c.bound_from-most.ensures.upper_bound c.bound_from-most.ensures.for_sound _ (ap (λ (x : ℕ). bit_and x a.all) c.single.ensures)
