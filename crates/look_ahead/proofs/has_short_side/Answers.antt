-- `look_ahead::has_short_side` meets its contract. Assumes nothing.
use mathlib.Core.Path.{refl}
use Rattle.look_ahead.proofs.Lacking.{lacks_left, lacks_right}
use Rattle.look_ahead.proofs.has_short_side.Goals as goal

pub returns-then-stays_short : goal.returns-then-stays_short
returns-then-stays_short c e = lacks_left _ _ _ _ (c.stays_short.ensures e) refl

pub returns-else-stays_short : goal.returns-else-stays_short
returns-else-stays_short c e = lacks_right _ _ _ _ (c.stays_short-else-stays_short.ensures e) refl
