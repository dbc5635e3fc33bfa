-- `reduction::drop_edges` meets its contract. The edges with a vertex that is left are still to be judged. Assumes nothing.
use Rattle.reduction.specs.RoundTables.{kept_table}
use Rattle.reduction.proofs.Judging.{after_lt, mem_out, whole_row, judging_step, judging_end}
use Rattle.reduction.proofs.drop_edges.Goals as goal

pub loop-p-preserved : goal.loop-p-preserved
loop-p-preserved c =
    let l = c.loop-p in
    let t = c.in-Some.ensures.steps in
    judging_step c.args.look c.requires t l.invariant _ _
    (mem_out c.args.look c.requires _ c.in-Some.p _ c.sift_both-stay.result (after_lt t l.invariant.traversal.fits)
    (whole_row c.args.look c.requires t l.invariant) (rw (c.at.ensures, c.at-in-Some.ensures) at c.sift_both-stay.ensures))
    c.part.ensures

pub returns : goal.returns
unfolding kept_table
returns c = judging_end _ c.requires c.loop-p.invariant c.in_default.ensures.steps.0
