-- `vertex_set::has_two` meets its contract. Assumes nothing.
use mathlib.Core.Path.{sym, ap}
use native.Mathlib.Omega.{arith}
use borrow.Author.Rules.{rules}
use borrow.Author.Tests.{lt-leb}
use Rattle.vertex_set.specs.Sets.{size}
use Rattle.vertex_set.proofs.Sizes.{size_nothing}
use Rattle.vertex_set.proofs.SizeBounds.{two_rest}
use Rattle.vertex_set.proofs.has_two.Goals as goal

pub returns-then-s-eq0 : goal.returns-then-s-eq0
returns-then-s-eq0 c = sym (lt-leb 2 (size c.args.s) (omega (arith, ap size c.if-s-eq0.true, size_nothing)))

pub returns : goal.returns
returns c = two_rest _ (search rules) (search rules)
