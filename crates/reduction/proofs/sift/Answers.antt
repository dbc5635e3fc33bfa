-- `reduction::sift` meets its contract. The members that are not left and failed are struck out. Assumes nothing.
use native.Mathlib.Omega.{arith}
use borrow.Author.Rules.{rules}
use borrow.Author.Tests.{le-leb, lt-leb}
use lib.Bits.{bit_and}
use lib.ListN.{get_or}
use Rattle.vertex_set.specs.Sets.{size}
use Rattle.reduction.specs.RoundTables.{reaches}
use Rattle.reduction.proofs.Striking.{sifted_whole, sifting_begin, sifting_stays, sifting_strikes, sifting_end}
use Rattle.reduction.proofs.sift.Goals as goal

pub returns-then-demand-eq0 : goal.returns-then-demand-eq0
unfolding reaches
returns-then-demand-eq0 c =
    let v = c.args in
    sifted_whole _ _ _ c.ranges.s.fits
    (λ q. le-leb v.demand.least (size (bit_and v.demand.set (get_or v.rows.now q 0))) (omega (arith, c.if-demand-eq0.true)))

pub loop-q-init : goal.loop-q-init
loop-q-init c =
    let v = c.args in
    let begin = sifting_begin v.s v.look (reaches v.rows.now v.demand.set v.demand.least) c.ranges.s.fits in search (rules, begin)

pub loop-q-preserved-then-size-demand : goal.loop-q-preserved-then-size-demand
unfolding reaches
loop-q-preserved-then-size-demand c =
    sifting_strikes c.loop-q.invariant c.in-Some.ensures.steps _ c.single.ensures (lt-leb _ _ (omega (arith, c.size.ensures, c.if-size-demand.true)))

pub loop-q-preserved : goal.loop-q-preserved
unfolding reaches
loop-q-preserved c =
    sifting_stays c.loop-q.invariant c.in-Some.ensures.steps (le-leb _ _ (omega (arith, c.size.ensures, c.if-size-demand.false)))

pub returns : goal.returns
returns c = sifting_end c.loop-q.invariant c.in-None.ensures.steps.0
