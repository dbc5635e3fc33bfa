-- Which sets are due at a bookmark, and which are past. Assumes nothing.
use Prim.Native.Nat.{ℕ, ◌^◌, ◌<◌}
use native.Mathlib.Omega.{arith}
use mathlib.Core.Path.{◌≡◌, refl, sym, ap, ◌∙◌}
use mathlib.Core.Bool.{true, false, ◌&&◌, beq}
use mathlib.Core.List.{List, [], ◌∷◌}
use lib.Dec.{ltb}
use lib.Bits.{bit_and, bit_xor}
use borrow.Author.Tests.{ltb-true, lt-ltb, not-true, not-false}
use Rattle.vertex_set.specs.Lists.{select}
use Rattle.vertex_set.specs.Sets.{mem, lowest, below}
use Rattle.vertex_set.proofs.Booleans.{and_intro, and_left, and_right, and_other, beq_eq, beq_ne}
use Rattle.vertex_set.proofs.Membership.{mem_lt, mem_and, mem_xor}
use Rattle.vertex_set.proofs.Collections.{in_below}
use Rattle.vertex_set.proofs.LowestVertex.{lowest_hit, lowest_least}
use Rattle.vertex_set.proofs.Order.{from_before, asymmetric}
use Rattle.pages.specs.declared.Bookmark.{Bookmark}
use Rattle.pages.specs.declared.Bookmark.TheVariants.{Start, After}
use Rattle.pages.specs.Pages.{due_at, due}
use Rattle.pages.specs.Filling.{Past}

-- the items due are those whose sets are
module _ {X : Type 0} (set : X → ℕ) where
  pub due_select : (m : Bookmark) (l : List X) → due set m l ≡ select (λ x. due_at m (set x)) l
  unfolding due select
  due_select Start [] = refl
  due_select Start (x ∷ l) = ap {B = List X} (λ r. x ∷ r) (due_select Start l)
  due_select (After t) l = refl

-- where c holds the lowest vertex below v that only c or t holds, a set with the vertices of c below v comes before t
pub past_after : (t c v : ℕ) → c < 2 ^ 64 → mem (lowest (bit_and (below v) (bit_xor c t))) c ≡ true → Past (After t) c v
past_after t c v small held s same =
    asymmetric s t
    (from_before s t d (record {
      small = low;
      same = λ j l. same j (omega (arith, under)) ∙ agree j l;
      held = same d under ∙ held;
      lacked = not-true (mem d t) (sym (beq_ne (mem d c) (mem d t) differ) ∙ held);
    }))
  where
    d : ℕ
    d = lowest (bit_and (below v) (bit_xor c t))

    low : d < 64
    low = mem_lt 64 d c small held

    hit : (mem d (below v) && mem d (bit_xor c t)) ≡ true
    hit = sym (mem_and d (below v) (bit_xor c t)) ∙ lowest_hit (bit_and (below v) (bit_xor c t)) low

    under : d < v
    under = ltb-true d v (and_right (ltb d 64) (ltb d v) (sym (in_below v d) ∙ and_left (mem d (below v)) (mem d (bit_xor c t)) hit))

    differ : beq (mem d c) (mem d t) ≡ false
    differ = not-true (beq (mem d c) (mem d t)) (sym (mem_xor d c t) ∙ and_right (mem d (below v)) (mem d (bit_xor c t)) hit)

    agree : (j : ℕ) → j < d → mem j c ≡ mem j t
    agree j l =
        beq_eq (mem j c) (mem j t) (not-false (beq (mem j c) (mem j t)) (sym (mem_xor j c t)
        ∙ and_other (mem j (below v)) (mem j (bit_xor c t))
        (sym (mem_and j (below v) (bit_xor c t)) ∙ lowest_least (bit_and (below v) (bit_xor c t)) j l)
        (in_below v j ∙ and_intro (ltb j 64) (ltb j v) (lt-ltb j 64 (omega (arith, low))) (lt-ltb j v (omega (arith, under))))))
