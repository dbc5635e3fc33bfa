-- `reduction::differing` meets its contract. Those before p whose rows are not the same are found. Assumes nothing.
use mathlib.Core.Path.{sym, subst}
use Prim.Native.Nat.{ℕ, ◌+◌}
use Rattle.reduction.proofs.Striking.{Comparing, comparing_begin, comparing_same, comparing_first, comparing_second, comparing_end}
use Rattle.reduction.proofs.differing.Goals as goal
use Rattle.reduction.proofs.differing.Goals.{then-r-p, then-r-p-via-then-r-p, then-r-p-via-else-r-p+then-r-p-2, else-r-p+else-r-p-2}

pub loop-p-init : goal.loop-p-init
loop-p-init c = comparing_begin

pub loop-p-preserved : goal.loop-p-preserved
loop-p-preserved c =
    let l = c.loop-p in
    let r = c.args.r.now in
    let g = c.args.g.now in
    let Next : ℕ → Type 0 = Comparing r.positive g.positive r.negative g.negative (l.p + 1) in
    elim c.if-r-p.branch [
      | then-r-p w ↦
          subst Next (sym w.found-is) (elim w.then-r-p.branch [
            | then-r-p-via-then-r-p v ↦ comparing_first l.invariant _ w.single-found.ensures v.if-r-p.true
            | then-r-p-via-else-r-p+then-r-p-2 v ↦ comparing_second l.invariant _ w.single-found.ensures v.if-r-p-2.true
          ])
      | else-r-p+else-r-p-2 w ↦ subst Next (sym w.found-is) (comparing_same l.invariant w.if-r-p.false w.if-r-p-2.false)
    ]

pub returns : goal.returns
returns c =
    let l = c.loop-p in
    let r = c.args.r.now in
    let g = c.args.g.now in
    comparing_end c.loop-p-test.false l.invariant
