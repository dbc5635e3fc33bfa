-- `reduction::drop_edges` meets its contract. The edges with a vertex that is left are still to be judged. Assumes nothing.
use lib.ListN.{get_or}
use Rattle.reduction.specs.RoundTables.{shares}
use Rattle.reduction.proofs.Judging.{Judging}
use Rattle.reduction.proofs.drop_edges.Given as goal

abbrev pub invariant-loop-p : goal.invariant-loop-p
invariant-loop-p l =
    Judging l.look l.initial.rows
    (λ p. shares l.g.positive l.g.negative (get_or l.fn.positive.rows.now p 0) l.fn.positive.least (get_or l.fn.negative.rows.now p 0) l.fn.negative.least)
    l.walk.left l.rows
