-- `reduction::sift_both` meets its contract. One test after the other is both. Assumes nothing.
use mathlib.Core.Path.{ap, ◌∙◌}
use Prim.Native.Nat.{ℕ}
use Rattle.reduction.specs.RoundTables.{reaches, sifted}
use Rattle.reduction.proofs.Striking.{sifted_twice}
use Rattle.reduction.proofs.sift_both.Goals as goal

pub returns : goal.returns
returns c =
    let a = c.args in
    c.sift-2.ensures
    ∙ ap (λ (z : ℕ). sifted z a.look (reaches a.g.now.positive a.positive.set a.positive.least)) c.sift.ensures
    ∙ sifted_twice a.s a.look (reaches a.g.now.positive a.positive.set a.positive.least) (reaches a.g.now.negative a.negative.set a.negative.least)
