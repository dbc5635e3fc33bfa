-- Sums over ranges: where they agree, where nothing is added, and what passes a test of two numbers, counted by either of them.
-- Assumes nothing.
use Prim.Native.Nat.{ℕ, zero, suc, ◌+◌, ◌-◌, ◌≤◌, ◌<◌}
use native.Mathlib.Nat.{add-zero}
use native.Mathlib.Omega.{arith}
use native.Mathlib.Decide.{ℕ_discrete}
use mathlib.Core.Path.{◌≡◌, refl, ap, ap₂, ◌∙◌}
use mathlib.Core.Logic.{◌≢◌}
use mathlib.Core.Bool.{Bool, ◌&&◌}
use mathlib.Core.List.{List, append-nil}
use lib.Dec.{ltb}
use lib.ListN.{length, length-append}
use borrow.Author.Tests.{lt-ltb, le-ltb}
use Rattle.vertex_set.specs.Ranges.{bit, count, sum, gather}
use Rattle.vertex_set.proofs.Booleans.{fails_left}
use Rattle.vertex_set.proofs.Ranges.{count_cong}
use Rattle.vertex_set.proofs.Gathering.{gather_split}

-- ---- sums that agree

pub sum_cong : (f h : ℕ → ℕ) (n : ℕ) → ((p : ℕ) → p < n → f p ≡ h p) → sum n f ≡ sum n h
unfolding sum
sum_cong f h zero e = refl
sum_cong f h (suc n) e = ap₂ (λ (a b : ℕ). a + b) (sum_cong f h n (λ p k. e p (omega arith))) (e n (omega arith))

module _ (f : ℕ → ℕ) (n : ℕ) (none : (p : ℕ) → n ≤ p → f p ≡ 0) where
  past : (d : ℕ) → sum (n + d) f ≡ sum n f
  unfolding sum
  past zero = ap (λ (k : ℕ). sum k f) (add-zero n)
  past (suc d) =
      let k : n + suc d ≡ suc (n + d) = omega arith in
      ap (λ (j : ℕ). sum j f) k ∙ omega (arith, past d, none (n + d) (omega arith))

  -- nothing is added from n on
  pub sum_past : (m : ℕ) → n ≤ m → sum m f ≡ sum n f
  sum_past m h =
      let e : m ≡ n + (m - n) = omega arith in
      ap (λ (k : ℕ). sum k f) e ∙ past (m - n)

-- where nothing is added up, there is nothing
pub sum_zero : (f : ℕ → ℕ) (n : ℕ) → sum n f ≡ 0 → (p : ℕ) → p < n → f p ≡ 0
unfolding sum
sum_zero f zero e p l = absurd (omega arith)
sum_zero f (suc n) e p l = go (ℕ_discrete p n) (λ (k : p < n). sum_zero f n (omega arith) p k)
  where
    go : Dec (p ≡ n) → (p < n → f p ≡ 0) → f p ≡ 0
    go (yes x) r = omega (arith, ap f x, e)
    go (no x) r = r (omega arith)

-- where h gives nothing at q, and else what f gives
pub sum_without : (f h : ℕ → ℕ) (n q : ℕ) → q < n → h q ≡ 0 → ((p : ℕ) → p ≢ q → f p ≡ h p) → sum n f ≡ sum n h + f q
unfolding sum
sum_without f h zero q l z e = absurd (omega arith)
sum_without f h (suc n) q l z e = go (ℕ_discrete n q) (λ (k : q < n). sum_without f h n q k z e)
  where
    go : Dec (n ≡ q) → (q < n → sum n f ≡ sum n h + f q) → sum n f + f n ≡ sum n h + h n + f q
    go (yes x) r = omega (arith, sum_cong f h n (λ p k. e p (omega arith)), ap f x, ap h x)
    go (no x) r = omega (arith, r (omega arith), e n x)

-- ---- a test of two numbers

pub sum_add : (f h : ℕ → ℕ) (n : ℕ) → sum n (λ p. f p + h p) ≡ sum n f + sum n h
unfolding sum
sum_add f h zero = refl
sum_add f h (suc n) = omega (arith, sum_add f h n)

pub sum_none : (n : ℕ) → sum n (λ p. 0) ≡ 0
unfolding sum
sum_none zero = refl
sum_none (suc n) = omega (arith, sum_none n)

sum_bits : (f : ℕ → Bool) (n : ℕ) → sum n (λ p. bit (f p)) ≡ count n f
unfolding sum count
sum_bits f zero = refl
sum_bits f (suc n) = ap (λ (k : ℕ). k + bit (f n)) (sum_bits f n)

-- what passes is counted by the first number or by the second
pub sum_turned : (f : ℕ → ℕ → Bool) (m n : ℕ) → sum n (λ p. count m (λ q. f p q)) ≡ sum m (λ q. count n (λ p. f p q))
unfolding sum count
sum_turned f zero n = sum_none n
sum_turned f (suc m) n =
    sum_add (λ p. count m (λ q. f p q)) (λ p. bit (f p m)) n
    ∙ ap₂ (λ (a b : ℕ). a + b) (sum_turned f m n) (sum_bits (λ p. f p m) n)

-- ---- a test that only numbers below q may pass

module _ (f : ℕ → Bool) (q : ℕ) where
  none_above : (d : ℕ) → count (q + d) (λ p. ltb p q && f p) ≡ count q f
  unfolding count
  none_above zero =
      ap (λ (n : ℕ). count n (λ p. ltb p q && f p)) (add-zero q)
      ∙ count_cong (λ p. ltb p q && f p) f q (λ p l. ap (λ (b : Bool). b && f p) (lt-ltb p q l))
  none_above (suc d) =
      let e : q + suc d ≡ suc (q + d) = omega arith in
      let out : bit (ltb (q + d) q && f (q + d)) ≡ 0 = ap bit (fails_left (ltb (q + d) q) (f (q + d)) (le-ltb (q + d) q (omega arith))) in
      ap (λ (n : ℕ). count n (λ p. ltb p q && f p)) e ∙ omega (arith, none_above d)

  pub count_part : (n : ℕ) → q ≤ n → count n (λ p. ltb p q && f p) ≡ count q f
  count_part n h =
      let e : n ≡ q + (n - q) = omega arith in
      ap (λ (m : ℕ). count m (λ p. ltb p q && f p)) e ∙ none_above (n - q)

-- ---- the length of what is gathered

pub length_sum : {A : Type 0} (f : ℕ → List A) (n : ℕ) → length (gather n 0 f) ≡ sum n (λ p. length (f p))
unfolding sum gather
length_sum f zero = refl
length_sum f (suc n) =
    let k : suc n ≡ n + 1 = omega arith in
    let z : 0 + n ≡ n = omega arith in
    ap (λ (j : ℕ). length (gather j 0 f)) k ∙ ap length (gather_split f n 1 0) ∙ length-append (gather n 0 f) (gather 1 (0 + n) f)
    ∙ ap₂ (λ (a b : ℕ). a + b) (length_sum f n)
    (ap length (append-nil (f (0 + n))) ∙ ap (λ (j : ℕ). length (f j)) z)
