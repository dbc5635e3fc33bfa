-- `reduction::reduce_sound` meets its contract. The round is the next one, and its looks are counted. Assumes nothing.
use mathlib.Core.Path.{◌≡◌}
use Rattle.signed_graph.specs.Graphs.{edge_count}
use Rattle.reduction.specs.Reductions.{looks_at}
use Rattle.reduction.proofs.Reaching.{Looking}
use Rattle.reduction.proofs.reduce_sound.Given as goal

abbrev pub invariant-loop-next : goal.invariant-loop-next
invariant-loop-next l =
    record { seen_are : l.seen ≡ looks_at l.round.graph l.round.look; looking : Looking l.g.graph.now l.k l.round.graph l.round.look l.looks }

abbrev pub decreases-loop-next : goal.decreases-loop-next
decreases-loop-next l = edge_count l.round.graph
