-- `reduction::able_table` meets its contract. The rows of able vertices that are not left are filled. Assumes nothing.
use mathlib.Core.Path.{subst}
use Prim.Native.Nat.{ℕ}
use borrow.Author.Rules.{rules}
use Rattle.reduction.proofs.AbleTables.{Filling, filling_begin, filling_step, filling_end}
use Rattle.reduction.proofs.able_table.Goals as goal

pub loop-p-init : goal.loop-p-init
loop-p-init c = let begin = filling_begin c.args.able c.args.own.now c.ranges.able.fits in search (rules, begin)

pub loop-p-preserved : goal.loop-p-preserved
loop-p-preserved c = filling_step c.args.able c.args.own.now c.in-Some.ensures.steps c.loop-p.invariant

pub returns : goal.returns
returns c =
    let l = c.loop-p in
    filling_end c.args.able c.args.own.now c.ranges.able.fits
    (subst (λ (z : ℕ). Filling c.args.able c.args.own.now z l.rows) c.in-None.ensures.steps.0 l.invariant)
