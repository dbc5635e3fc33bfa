-- For proofs: the binary digits of row and column numbers exchanged one after the other, by which a table is transposed. Assumes nothing.
use Rattle.std.specs.Prelude.{◌≡◌, Bool, List, ℕ, suc, ◌+◌, ◌-◌, ◌*◌, ◌/◌, ◌%◌, ◌^◌, ◌≤◌, ◌<◌, eqb, get_or, length}
use Rattle.std.specs.Int.Bits.{bit_and, bit_or}
use Rattle.vertex_set.specs.Sets.{mem, collect}
use Rattle.bit_matrix.specs.Matrices.{table_of}

-- ---- a digit of all row and column numbers

-- the binary digit of p that is worth 2 ^ k
abbrev pub digit : ℕ → ℕ → ℕ
digit k p = p / 2 ^ k % 2

-- p with that digit of q
unfoldable pub with_digit : ℕ → ℕ → ℕ → ℕ
with_digit k p q = (p / 2 ^ suc k * 2 + digit k q) * 2 ^ k + p % 2 ^ k

-- digit k of row and column numbers exchanged: what row p then has at column q, and the table
abbrev pub exchanged_at : ℕ → List ℕ → ℕ → ℕ → Bool
exchanged_at k rows p q = mem (with_digit k q p) (get_or rows (with_digit k p q) 0)

unfoldable pub digit_exchanged : ℕ → List ℕ → List ℕ
digit_exchanged k rows = table_of (exchanged_at k rows)

-- the columns whose digit k is 0
unfoldable pub zero_columns : ℕ → ℕ
zero_columns k = collect 64 (λ q. eqb (digit k q) 0)

-- ---- two rows, p and p + j

-- what they become where the columns outside m of the first change places with the columns in m, j lower, of the second
unfoldable pub first_row : ℕ → ℕ → ℕ → ℕ → ℕ
first_row j m a b = bit_or (bit_and a m) (bit_and ((b * 2 ^ j) % 2 ^ 64) ((2 ^ 64 - 1) - m))

unfoldable pub second_row : ℕ → ℕ → ℕ → ℕ → ℕ
second_row j m a b = bit_or (bit_and (a / 2 ^ j) m) (bit_and b ((2 ^ 64 - 1) - m))

-- this is done with the rows p from `at` to `end` and p + j; the other rows are as they were
pub record RowsExchanged (j m at end : ℕ) (before rows : List ℕ) : Type 0 where
  pub long : length rows ≡ length before
  pub first : (p : ℕ) → at ≤ p → p < end → get_or rows p 0 ≡ first_row j m (get_or before p 0) (get_or before (p + j) 0)
  pub second : (p : ℕ) → at ≤ p → p < end → get_or rows (p + j) 0 ≡ second_row j m (get_or before p 0) (get_or before (p + j) 0)
  pub kept : (p : ℕ) → (at ≤ p → p < end → ⊥) → (at + j ≤ p → p < end + j → ⊥) → get_or rows p 0 ≡ get_or before p 0
