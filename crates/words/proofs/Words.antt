-- Words: the bytes of a number say it, and are the only ones that do; std writes and reads the same 8 bytes. Assumes nothing.
use Prim.Native.Nat.{ℕ, zero, suc, ◌+◌, ◌*◌, ◌/◌, ◌%◌, ◌^◌, ◌<◌}
use native.Mathlib.Nat.{div-div-eq-div-mul, pow-suc}
use native.Mathlib.Omega.{arith}
use mathlib.Core.Path.{◌≡◌, refl, sym, ap, ap₂, ◌∙◌}
use mathlib.Core.List.{List, [], ◌∷◌}
use lib.ListN.{length, get_or, drop, drop_of_length-le}
use lib.Seq.{drop-cons}
use Rattle.std.specs.Int.{w64, to_le_bytes, from_le_bytes}
use Rattle.vertex_set.specs.Lists.{All}
use Rattle.words.specs.Words.{word_bytes, word_value}

-- ---- there and back

pub value_bytes : (d x : ℕ) → x < 256 ^ d → word_value (word_bytes d x) ≡ x
unfolding word_bytes word_value
value_bytes zero x h = omega arith
value_bytes (suc d) x h = omega (arith, value_bytes d (x / 256) (omega (arith, pow-suc 256 d)))

pub bytes_value : (l : List ℕ) → All (λ b. b < 256) l → word_bytes (length l) (word_value l) ≡ l
unfolding word_bytes word_value
bytes_value [] h = refl
bytes_value (b ∷ l) h =
    let low : (b + 256 * word_value l) % 256 ≡ b = omega (arith, h.0) in
    let rest : (b + 256 * word_value l) / 256 ≡ word_value l = omega (arith, h.0) in
    ap₂ ◌∷◌ low (ap (word_bytes (length l)) rest ∙ bytes_value l h.1)

-- d bytes tell all numbers below 256 ^ d apart
pub one_number : (d x y : ℕ) → x < 256 ^ d → y < 256 ^ d → word_bytes d x ≡ word_bytes d y → x ≡ y
one_number d x y hx hy e = sym (value_bytes d x hx) ∙ ap word_value e ∙ value_bytes d y hy

-- ---- as std writes and reads 8 bytes

pub word_written : (x : ℕ) → to_le_bytes w64 x ≡ word_bytes 8 x
unfolding word_bytes
word_written x = simp div-div-eq-div-mul

module _ (l : List ℕ) (e : length l ≡ 8) where
  value_from : (i : ℕ) → i < 8 → word_value (drop i l) ≡ get_or l i 0 + 256 * word_value (drop (suc i) l)
  unfolding word_value
  value_from i h = ap word_value (drop-cons l i 0 (omega arith))

  value_none : word_value (drop 8 l) ≡ 0
  unfolding word_value
  value_none = ap word_value (drop_of_length-le l {i = 8} (omega arith))

  pub word_read : from_le_bytes w64 l ≡ word_value l
  word_read =
      omega (
        arith,
        value_none,
        value_from 0 (omega arith),
        value_from 1 (omega arith),
        value_from 2 (omega arith),
        value_from 3 (omega arith),
        value_from 4 (omega arith),
        value_from 5 (omega arith),
        value_from 6 (omega arith),
        value_from 7 (omega arith),
      )
