-- `nodes::root` meets its contract. Assumes nothing.
use borrow.Author.Rules.{rules}
use Rattle.signed_graph.proofs.Soundness.{to_sound}
use Rattle.nodes.proofs.Roots.{root_of}
use Rattle.nodes.proofs.root.Goals as goal

pub returns : goal.returns
returns c any so is =
    let p = c.partners-joined in
    root_of _ (to_sound _ so) _ p.result (search rules) is p.ensures
