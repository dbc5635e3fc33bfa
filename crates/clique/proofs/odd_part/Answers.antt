-- `clique::odd_part` meets its contract. By membership in the exclusive or. Assumes nothing.
use Prim.Native.Nat.{ℕ}
use native.Mathlib.Nat.{lt_of_le_of_lt}
use mathlib.Core.Path.{◌≡◌, sym, ap, ◌∙◌}
use mathlib.Core.Bool.{Bool, true, false, not, ◌&&◌, beq, not-not}
use lib.Bits.{bit_xor, and_le_l, xor_lt}
use Rattle.vertex_set.specs.Sets.{mem}
use Rattle.vertex_set.proofs.Booleans.{beq_true, beq_false, beq_not}
use Rattle.vertex_set.proofs.Membership.{mem_and, mem_minus, mem_xor}
use Rattle.vertex_set.proofs.Collections.{collect_is}
use Rattle.clique.specs.Verdicts.{one_or_three}
use Rattle.clique.specs.Stages.{odd_part}
use Rattle.clique.proofs.Verdicts.{odd_parity}
use Rattle.clique.proofs.odd_part.Goals as goal

-- with q in a, both or neither of the other two hold; with q not in a, one of them does
both : (x y z : Bool) → x ≡ true → not (not (beq y z)) ≡ one_or_three x y z
both x y z e =
    not-not (beq y z) ∙ ap (λ (b : Bool). beq b z) (sym (ap (λ (b : Bool). beq b y) e ∙ beq_true y)) ∙ sym (odd_parity x y z)

one : (x y z : Bool) → x ≡ false → not (beq y z) ≡ one_or_three x y z
one x y z e =
    sym (beq_not y z) ∙ ap (λ (b : Bool). beq b z) (sym (ap (λ (b : Bool). beq b y) e ∙ beq_false y)) ∙ sym (odd_parity x y z)

pub returns-then-contains : goal.returns-then-contains
unfolding odd_part
returns-then-contains c =
    let v = c.args in
    let x = bit_xor v.a v.b in
    let x64 = xor_lt 64 v.a v.b c.ranges.a.fits c.ranges.b.fits in
    collect_is 64 _ (λ (r : ℕ). mem r v.s && one_or_three (mem v.q v.a) (mem r v.a) (mem r v.b))
    (lt_of_le_of_lt (and_le_l v.s _) c.ranges.s.fits)
    (λ r _. mem_minus 64 r v.s x c.ranges.s.fits x64 ∙ ap (λ (t : Bool). mem r v.s && not t) (mem_xor r v.a v.b)
    ∙ ap (λ (t : Bool). mem r v.s && t)
    (both (mem v.q v.a) (mem r v.a) (mem r v.b) (sym c.contains.ensures ∙ c.if-contains.true)))

pub returns-else-contains : goal.returns-else-contains
unfolding odd_part
returns-else-contains c =
    let v = c.args in
    collect_is 64 _ (λ (r : ℕ). mem r v.s && one_or_three (mem v.q v.a) (mem r v.a) (mem r v.b))
    (lt_of_le_of_lt (and_le_l v.s _) c.ranges.s.fits)
    (λ r _. mem_and r v.s (bit_xor v.a v.b) ∙ ap (λ (t : Bool). mem r v.s && t) (mem_xor r v.a v.b
    ∙ one (mem v.q v.a) (mem r v.a) (mem r v.b) (sym c.contains.ensures ∙ c.if-contains.false)))
