-- `commands::read_commands` meets its contract. Reading has come to the place `at`, with the graph. Assumes nothing.
use mathlib.Core.Path.{refl, sym, ap}
use Rattle.std.specs.Prelude.{Ok}
use Rattle.std.proofs.lemmas.Result.{err_from_is_err_and}
use Rattle.commands.proofs.ListKinds.{reached_end, reached_close, reached_refusal, reached_low, reached_edge, reached_mask}
use Rattle.commands.proofs.read_commands.Goals as goal

pub returns-in_err-step : goal.returns-in_err-step
returns-in_err-step g c =
    let p = err_from_is_err_and c.from_residual.result c.from_residual.ensures.1 in
    rw (p.1, p.2) (sym (reached_refusal c.loop-at-test.true c.loop-at.invariant c.checked_as.ensures c.in_err-step.ensures refl))

pub put_edge-requires : goal.put_edge-requires
put_edge-requires g c =
    reached_low c.loop-at-test.true c.loop-at.invariant c.checked_as.ensures c.in_ok-step.ensures (ap Ok c.in-Edge.is) c.requires.0

pub loop-at-preserved-in-Edge : goal.loop-at-preserved-in-Edge
loop-at-preserved-in-Edge g c =
    reached_edge c.loop-at-test.true c.loop-at.invariant c.checked_as.ensures c.in_ok-step.ensures (ap Ok c.in-Edge.is)
    c.put_edge.ensures

pub loop-at-preserved : goal.loop-at-preserved
loop-at-preserved g c =
    reached_mask c.loop-at-test.true c.loop-at.invariant c.checked_as.ensures c.in_ok-step.ensures (ap Ok c.in-Mask.is)
    c.requires.0 c.single.ensures refl

pub returns-in-Close : goal.returns-in-Close
returns-in-Close g c =
    sym (reached_close c.loop-at-test.true c.loop-at.invariant c.checked_as.ensures c.in_ok-step.ensures (ap Ok c.in-Close.is))

pub returns : goal.returns
returns g c = sym (reached_end c.loop-at-test.false c.loop-at.invariant)
