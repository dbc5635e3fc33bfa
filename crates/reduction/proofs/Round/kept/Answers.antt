-- `reduction::Round::kept` meets its contract. Its tables are those of the definition's round. Assumes nothing.
use Rattle.reduction.proofs.RoundTables.{positive_due, negative_due, round_made}
use Rattle.reduction.proofs.Round.kept.Goals as goal

pub drop_edges-requires : goal.drop_edges-requires
drop_edges-requires c =
    let at = c.args.self.now in positive_due at.graph c.args.k _ _ at.is_sound c.saturating_sub.ensures _ c.able_table-positive.ensures

pub drop_edges-requires-2 : goal.drop_edges-requires-2
drop_edges-requires-2 c =
    let at = c.args.self.now in negative_due at.graph c.args.k _ _ at.is_sound c.saturating_sub-few.ensures _ c.able_table-negative.ensures

pub returns : goal.returns
returns c =
    let at = c.args.self.now in
    round_made at.graph c.args.k at.look _ at.is_sound _ _ c.able-able.ensures c.saturating_sub-few.ensures c.saturating_sub.ensures
    _ _ _ _ c.able_table-positive.ensures c.able_table-negative.ensures c.drop_edges.ensures c.drop_edges-2.ensures
