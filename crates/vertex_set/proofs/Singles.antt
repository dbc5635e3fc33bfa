-- Sets with one vertex more or less. Assumes nothing.
use Prim.Native.Nat.{ℕ, ◌^◌, ◌<◌}
use mathlib.Core.Path.{◌≡◌, refl, sym, ap, ◌∙◌}
use mathlib.Core.Logic.{◌≢◌}
use mathlib.Core.Bool.{true, false, not}
use lib.Dec.{eqb}
use lib.Bits.{bit_and, bit_or}
use borrow.Author.Tests.{eqb-true, eq-eqb}
use Rattle.vertex_set.specs.Sets.{mem, single, others, lowest, SoleMember}
use Rattle.vertex_set.proofs.Booleans.{clash, refute, and_intro, cases}
use Rattle.vertex_set.proofs.Membership.{none_in, mem_not, mem_minus, meet_right, union_right, union_cases, mem_none}
use Rattle.vertex_set.proofs.Collections.{mem_pow, collect_lt, mem_single, single_pow}
use Rattle.vertex_set.proofs.LowestVertex.{rest, mem_rest}

-- ---- sets with one vertex more or less

module _ (v : ℕ) (small : v < 64) where
  single_lt : single v < 2 ^ 64
  unfolding single
  single_lt = collect_lt (λ q. eqb q v) 64

  pub single_in : mem v (single v) ≡ true
  single_in = mem_single v v small ∙ eq-eqb v v refl

  pub single_is : (p : ℕ) → mem p (single v) ≡ true → p ≡ v
  single_is p m = eqb-true p v (sym (mem_pow v p) ∙ ap (mem p) (sym (single_pow v small)) ∙ m)

  pub joined_in : (s : ℕ) → mem v (bit_or s (single v)) ≡ true
  joined_in s = union_right v s (single v) single_in

  pub joined_cases : (A : Type 0) (p s : ℕ) → mem p (bit_or s (single v)) ≡ true → (mem p s ≡ true → A) → (p ≡ v → A) → A
  joined_cases A p s m f h = union_cases A p s (single v) m f (λ i. h (single_is p i))

  pub others_keep : (p s : ℕ) → s < 2 ^ 64 → mem p s ≡ true → p ≢ v → mem p (bit_and s (others v)) ≡ true
  others_keep p s h m d =
      mem_minus 64 p s (single v) h single_lt
      ∙ and_intro (mem p s) (not (mem p (single v))) m (ap not (refute (mem p (single v)) (λ i. d (single_is p i))))

  pub others_lack : (s : ℕ) → mem v (bit_and s (others v)) ≡ false
  others_lack s =
      refute (mem v (bit_and s (others v))) (λ m.
      clash (mem v (others v)) (meet_right v s (others v) m) (mem_not 64 v (single v) small single_lt ∙ ap not single_in))

-- a set without its lowest member is empty
module _ (s : ℕ) (pos : 0 < s) (fits : s < 2 ^ 64) (alone : rest s ≡ 0) where
  pub is_lowest : (w : ℕ) → mem w s ≡ true → w ≡ lowest s
  is_lowest w m =
      cases (w ≡ lowest s) (eqb w (lowest s)) (eqb-true w (lowest s)) (λ e.
      clash (mem w (rest s)) (mem_rest s pos fits w ∙ and_intro (mem w s) (not (eqb w (lowest s))) m (ap not e))
      (ap (mem w) alone ∙ mem_none w))

  pub sole_one : SoleMember s s
  sole_one u w i m = is_lowest w m ∙ sym (is_lowest u i)

pub sole_none : (s : ℕ) → SoleMember s 0
sole_none s u w i m = none_in u i
