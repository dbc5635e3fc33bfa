-- A number's decimal digits say the number, no zero stands in front, and how many there are. Assumes nothing.
use Rattle.std.specs.Prelude.{if◌then◌else◌, ◌==◌}
use Rattle.std.specs.Fmt.{digit_glyph, digits_onto, digits, decimal}
use Rattle.std.proofs.Common.{◌≡◌, ℕ, zero, suc, ◌+◌, ◌-◌, ◌*◌, ◌/◌, ◌%◌, ◌^◌, ◌≤◌, ◌<◌, Bool, true, false, List, [], ◌∷◌, ◌++◌, length, get_or, refl, arith}
use Rattle.std.proofs.lemmas.Fmt.{decimal_by_steps, first_decimal, length-decimal-le}

-- the number that decimal digits say, behind those that said m
abbrev pub reads_from : ℕ → List ℕ → ℕ
reads_from m [] = m
reads_from m (c ∷ l) = reads_from (10 * m + (c - 48)) l

reads_last : (m c : ℕ) (l : List ℕ) → reads_from m (l ++ c ∷ []) ≡ 10 * reads_from m l + (c - 48)
reads_last m c [] = refl
reads_last m c (d ∷ l) = reads_last (10 * m + (d - 48)) c l

pub decimal_reads : (n : ℕ) → n < 2 ^ 64 → reads_from 0 (decimal n) ≡ n
decimal_reads n h =
    decimal_by_steps (λ (k : ℕ) (l : List ℕ). reads_from 0 l ≡ k) (λ k d. omega arith) (λ k l d e. omega (arith, e, reads_last 0 (48 + k % 10) l)) n h

pub decimal_first : (n : ℕ) → 0 < n → n < 2 ^ 64 → 48 < get_or (decimal n) 0 0
decimal_first n pos h = first_decimal n pos h

-- ---- how many digits there are

length_onto : (k n : ℕ) (acc : List ℕ) → length (digits_onto k 10 false n acc) ≤ k + length acc
length_onto zero n acc = omega arith
length_onto (suc k) n acc = by (n / 10 == 0) (length_onto k (n / 10) (digit_glyph false (n % 10) ∷ acc))
  where
    by : (b : Bool) → length (digits_onto k 10 false (n / 10) (digit_glyph false (n % 10) ∷ acc)) ≤ k + suc (length acc)
        → length (if b then digit_glyph false (n % 10) ∷ acc else digits_onto k 10 false (n / 10) (digit_glyph false (n % 10) ∷ acc)) ≤ suc k + length acc
    by true h = omega arith
    by false h = omega arith

pub length_decimal : (n : ℕ) → length (decimal n) ≤ 64
unfolding digits
length_decimal n = length_onto 64 n []

-- vertices have at most two digits
pub length_vertex : (p : ℕ) → p < 64 → length (decimal p) ≤ 2
length_vertex p h = length-decimal-le 2 p (omega arith) (omega arith) (omega arith)
