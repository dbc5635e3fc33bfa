-- `vertex_set::below` meets its contract. By `below_pow`; from 64 up by `below_all`. Assumes nothing.
use mathlib.Core.Path.{sym, ap, ◌∙◌}
use Prim.Native.Nat.{ℕ, ◌-◌}
use native.Mathlib.Omega.{arith}
use borrow.Author.Rules.{rules}
use lib.Pow.{pow_pos}
use Rattle.vertex_set.proofs.Collections.{shifted, below_pow, below_all}
use Rattle.vertex_set.proofs.below.Goals as goal

pub overflow_sub-result : goal.overflow_sub-result
overflow_sub-result c = omega (arith, pow_pos c.args.n, shifted 64 c.args.n c.if-n-lt64.true)

pub returns-then-n-lt64 : goal.returns-then-n-lt64
returns-then-n-lt64 c =
    ap (λ (x : ℕ). x - 1) (shifted 64 c.args.n c.if-n-lt64.true) ∙ sym (below_pow c.args.n (search rules))

pub returns-else-n-lt64 : goal.returns-else-n-lt64
returns-else-n-lt64 c = sym (below_all c.args.n c.if-n-lt64.false)
