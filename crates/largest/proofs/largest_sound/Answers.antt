-- `largest::largest_sound` meets its contract. The search goes from the root, below which all groups are. Assumes nothing.
use Rattle.largest.proofs.Bests.{largest_none, largest_some}
use Rattle.largest.proofs.largest_sound.Goals as goal

pub returns-in-None : goal.returns-in-None
returns-in-None c =
    let g = c.args.g.graph.now in
    largest_none g _ c.args.g.is_sound c.root.result _ c.vertices-all.ensures c.size_table-table.result _
    (c.root.ensures g c.args.g.is_sound c.vertices-all.ensures) c.size_table-table.ensures c.below.ensures c.in-None.is

pub returns-in-Some : goal.returns-in-Some
returns-in-Some c =
    let g = c.args.g.graph.now in
    largest_some g _ c.args.g.is_sound c.root.result _ c.vertices-all.ensures c.size_table-table.result _
    (c.root.ensures g c.args.g.is_sound c.vertices-all.ensures) c.size_table-table.ensures c.below.ensures _ c.in-Some.is
