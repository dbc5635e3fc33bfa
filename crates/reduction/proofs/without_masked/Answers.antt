-- `reduction::without_masked` meets its contract. Each table keeps its able vertices, those that are not masked. Assumes nothing.
use mathlib.Core.Path.{sym}
use Rattle.signed_graph.proofs.Soundness.{to_sound}
use Rattle.reduction.proofs.Masking.{unmasked_none, unmasked_made}
use Rattle.reduction.proofs.without_masked.Goals as goal

pub returns-then-g-eq0 : goal.returns-then-g-eq0
returns-then-g-eq0 c = sym (unmasked_none c.args.g.graph.now (to_sound _ c.args.g.is_sound) c.if-g-eq0.true)

pub returns : goal.returns
returns c =
    unmasked_made c.args.g.graph.now (to_sound _ c.args.g.is_sound) _ _ c.able_table.ensures c.able_table-2.ensures
