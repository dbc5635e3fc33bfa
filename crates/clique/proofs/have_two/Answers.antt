-- `clique::have_two` meets its contract. Assumes nothing.
use Prim.Native.Nat.{◌+◌}
use mathlib.Core.Path.{◌≡◌, sym, ap, ◌∙◌}
use native.Mathlib.Nat.{pos_of_ne-zero}
use native.Mathlib.Omega.{arith}
use borrow.Author.Tests.{le-leb}
use lib.Dec.{leb}
use Rattle.vertex_set.specs.Sets.{size}
use Rattle.vertex_set.proofs.Sizes.{size_nothing, pos_size}
use Rattle.clique.proofs.have_two.Goals as goal

pub returns-then-one-eq0 : goal.returns-then-one-eq0
returns-then-one-eq0 c =
    let a = c.args in
    let same : size a.other ≡ size a.one + size a.other = omega (arith, ap size c.if-one-eq0.true, size_nothing) in
    c.has_two.ensures ∙ ap (leb 2) same

pub returns-then-other-eq0 : goal.returns-then-other-eq0
returns-then-other-eq0 c =
    let a = c.args in
    let same : size a.one ≡ size a.one + size a.other = omega (arith, ap size c.if-other-eq0.true, size_nothing) in
    c.has_two-then-other-eq0.ensures ∙ ap (leb 2) same

pub returns : goal.returns
returns c =
    let one = pos_size c.args.one (pos_of_ne-zero c.if-one-eq0.false) c.ranges.one.fits in
    let other = pos_size c.args.other (pos_of_ne-zero c.if-other-eq0.false) c.ranges.other.fits in
    sym (le-leb 2 (size c.args.one + size c.args.other) (omega (arith, one, other)))
