-- `vertex_set::comes_before` meets its contract. Assumes nothing.
use Prim.Native.Nat.{ℕ}
use mathlib.Core.Path.{ap, ◌∙◌}
use Rattle.vertex_set.specs.Sets.{mem}
use Rattle.vertex_set.specs.Order.{difference}
use Rattle.vertex_set.proofs.Order.{first_holds}
use Rattle.vertex_set.proofs.comes_before.Goals as goal

pub returns : goal.returns
unfolding difference
returns c =
    let a = c.args in
    c.contains.ensures ∙ ap (λ (p : ℕ). mem p a.a) c.lowest.ensures ∙ first_holds a.a a.b c.ranges.a.fits
