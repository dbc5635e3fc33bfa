-- The six binary digits of the numbers below 64. Assumes nothing.
use Prim.Native.Nat.{ℕ, zero, suc, ◌+◌, ◌*◌, ◌/◌, ◌%◌, ◌^◌, ◌≤◌, ◌<◌}
use native.Mathlib.Nat.{add-mul, mul_assoc, mul_comm, pow-suc, div-div-eq-div-mul, mod-lt, zero-lt-suc}
use native.Mathlib.Numerals.{one-add}
use native.Mathlib.Omega.{arith}
use mathlib.Core.Path.{◌≡◌, refl, sym, ap, ap₂, ◌∙◌}
use lib.Pow.{pow_pos, split, high, low, mod-pow-add}
use Rattle.bit_matrix.specs.Transposition.{digit, with_digit}

-- a fact of each of six numbers
each : (P : ℕ → Type 0) → P 0 → P 1 → P 2 → P 3 → P 4 → P 5 → (k : ℕ) → k < 6 → P k
each P a b c d e f zero h = a
each P a b c d e f (suc zero) h = b
each P a b c d e f (suc (suc zero)) h = c
each P a b c d e f (suc (suc (suc zero))) h = d
each P a b c d e f (suc (suc (suc (suc zero)))) h = e
each P a b c d e f (suc (suc (suc (suc (suc zero))))) h = f
each P a b c d e f (suc (suc (suc (suc (suc (suc k)))))) h = absurd (omega arith)

-- ---- one digit

pub digit_cases : (A : Type 0) (k p : ℕ) → (digit k p ≡ 0 → A) → (digit k p ≡ 1 → A) → A
digit_cases A k p f g = go (digit k p) (mod-lt (p / 2 ^ k) (zero-lt-suc 1)) refl
  where
    go : (x : ℕ) → x < 2 → digit k p ≡ x → A
    go zero h e = f e
    go (suc zero) h e = g e
    go (suc (suc x)) h e = absurd (omega arith)

-- a number as its higher digits, the digit, and its lower digits
parts : (k p : ℕ) → with_digit k p p ≡ p
unfolding with_digit
parts k p =
    let half : p / 2 ^ suc k ≡ p / 2 ^ k / 2 = ap (λ (x : ℕ). p / x) (pow-suc 2 k) ∙ sym (div-div-eq-div-mul p (2 ^ k) 2) in
    let whole : p / 2 ^ suc k * 2 + digit k p ≡ p / 2 ^ k = omega arith in
    ap (λ (x : ℕ). x * 2 ^ k + p % 2 ^ k) whole ∙ split p k

module _ (k p q : ℕ) where
  -- p with the digit x
  abbrev by : ℕ → ℕ
  by x = (p / 2 ^ suc k * 2 + x) * 2 ^ k + p % 2 ^ k

  pub with_same : digit k p ≡ digit k q → with_digit k p q ≡ p
  unfolding with_digit
  with_same e = ap by (sym e) ∙ parts k p

  one_more_law : by 1 ≡ by 0 + 2 ^ k
  one_more_law = omega (arith, add-mul (p / 2 ^ suc k * 2) 1 (2 ^ k), add-mul (p / 2 ^ suc k * 2) 0 (2 ^ k))

  pub with_more_law : digit k p ≡ 0 → digit k q ≡ 1 → with_digit k p q ≡ p + 2 ^ k
  unfolding with_digit
  with_more_law a b = ap by b ∙ one_more_law ∙ ap (λ (x : ℕ). x + 2 ^ k) (ap by (sym a) ∙ parts k p)

  pub with_less : digit k p ≡ 1 → digit k q ≡ 0 → p ≡ with_digit k p q + 2 ^ k
  unfolding with_digit
  with_less a b = sym (parts k p) ∙ ap by a ∙ one_more_law ∙ ap (λ (x : ℕ). x + 2 ^ k) (ap by (sym b))

pub with_lt : (p q k : ℕ) → p < 64 → k < 6 → with_digit k p q < 64
unfolding with_digit
with_lt p q k h =
    each (λ k. (p / 2 ^ suc k * 2 + digit k q) * 2 ^ k + p % 2 ^ k < 64) (omega arith) (omega arith) (omega arith) (omega arith) (omega arith) (omega arith) k

-- ---- the k lowest digits

-- p with the k lowest digits of q
unfoldable pub with_digits : ℕ → ℕ → ℕ → ℕ
with_digits k p q = p / 2 ^ k * 2 ^ k + q % 2 ^ k

pub with_none : (p q : ℕ) → with_digits 0 p q ≡ p
unfolding with_digits
with_none p q = omega arith

pub with_all : (p q : ℕ) → p < 64 → q < 64 → with_digits 6 p q ≡ q
unfolding with_digits
with_all p q h l = omega arith

-- one more
pub with_next : (k p q : ℕ) → with_digits k (with_digit k p q) (with_digit k q p) ≡ with_digits (suc k) p q
unfolding with_digits with_digit
with_next k p q =
    let high-p = high (p / 2 ^ suc k * 2 + digit k q) k (mod-lt p (pow_pos k)) in
    let low-q = low (q / 2 ^ suc k * 2 + digit k p) k (mod-lt q (pow_pos k)) in
    ap₂ (λ (x y : ℕ). x * 2 ^ k + y) high-p low-q
    ∙ omega (
      arith,
      add-mul (p / 2 ^ suc k * 2) (digit k q) (2 ^ k),
      mul_assoc (p / 2 ^ suc k) 2 (2 ^ k),
      ap (λ (x : ℕ). p / 2 ^ suc k * x) (mul_comm 2 (2 ^ k) ∙ sym (pow-suc 2 k)),
      mod-pow-add q 1 k,
      ap (λ (x : ℕ). q % 2 ^ x) (one-add k),
    )

-- ---- blocks of numbers: `at` is where a block of twice 2 ^ k begins

module _ (at p k : ℕ) (small : k < 6) (e : at % (2 * 2 ^ k) ≡ 0) where
  pub first_half : at ≤ p → p < at + 2 ^ k → digit k p ≡ 0
  first_half a b =
      each (λ k. at % (2 * 2 ^ k) ≡ 0 → p < at + 2 ^ k → digit k p ≡ 0)
      (λ e b. omega arith) (λ e b. omega arith) (λ e b. omega arith) (λ e b. omega arith) (λ e b. omega arith) (λ e b. omega arith)
      k small e b

  pub second_half : at + 2 ^ k ≤ p → p < at + 2 * 2 ^ k → digit k p ≡ 1
  second_half a b =
      each (λ k. at % (2 * 2 ^ k) ≡ 0 → at + 2 ^ k ≤ p → p < at + 2 * 2 ^ k → digit k p ≡ 1)
      (λ e a b. omega arith) (λ e a b. omega arith) (λ e a b. omega arith) (λ e a b. omega arith) (λ e a b. omega arith) (λ e a b. omega arith)
      k small e a b

module _ (at k : ℕ) (small : k < 6) (e : at % (2 * 2 ^ k) ≡ 0) where
  pub block_fits : at < 64 → at + 2 * 2 ^ k ≤ 64
  block_fits h =
      each (λ k. at % (2 * 2 ^ k) ≡ 0 → at + 2 * 2 ^ k ≤ 64)
      (λ e. omega arith) (λ e. omega arith) (λ e. omega arith) (λ e. omega arith) (λ e. omega arith) (λ e. omega arith) k small e

  pub block_next : (at + 2 * 2 ^ k) % (2 * 2 ^ k) ≡ 0
  block_next =
      each (λ k. at % (2 * 2 ^ k) ≡ 0 → (at + 2 * 2 ^ k) % (2 * 2 ^ k) ≡ 0)
      (λ e. omega arith) (λ e. omega arith) (λ e. omega arith) (λ e. omega arith) (λ e. omega arith) (λ e. omega arith) k small e
