-- `listing::list_sound` meets its contract. The search goes from the root, below which all groups are. Assumes nothing.
use Rattle.listing.proofs.Search.{lists_all}
use Rattle.listing.proofs.list_sound.Goals as goal

pub returns : goal.returns
returns c =
    let g = c.args.g in
    lists_all g.graph.now _ _ _ c.root-root.result _ _ g.is_sound (c.root-root.ensures g.graph.now g.is_sound c.vertices.ensures)
    (rw c.empty.ensures at c.list_below.ensures)
