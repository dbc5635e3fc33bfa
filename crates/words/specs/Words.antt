-- Words: a number as bytes, and the number that bytes say. Assumes nothing.
use Rattle.std.specs.Prelude.{ℕ, zero, suc, ◌+◌, ◌*◌, ◌/◌, ◌%◌, List, [], ◌∷◌}

-- the d low bytes of a number, low byte first
unfoldable pub word_bytes : ℕ → ℕ → List ℕ
word_bytes zero x = []
word_bytes (suc d) x = x % 256 ∷ word_bytes d (x / 256)

-- the number whose bytes these are, low byte first
unfoldable pub word_value : List ℕ → ℕ
word_value [] = 0
word_value (b ∷ l) = b + 256 * word_value l
