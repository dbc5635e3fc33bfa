-- `look_ahead::stays_short` meets its contract. Assumes nothing.
use mathlib.Core.Path.{sym, ◌∙◌}
use Rattle.look_ahead.proofs.Lacking.{lacks_have}
use Rattle.look_ahead.proofs.stays_short.Goals as goal

pub returns : goal.returns
returns c e =
    let a = c.args in
    lacks_have a.g.now.positive a.g.now.negative a.side a.k c.size-have.result c.size-have.ensures
    c.if-k-have.false (c.at_most.ensures (sym c.is_some.ensures ∙ e))
