-- Sets of vertices as 64-bit numbers: bit p stands for vertex p (document 01: path p). Assumes nothing.
use Rattle.std.specs.Prelude.{◌≡◌, Bool, true, false, List, [], ℕ, zero, suc, ◌+◌, ◌-◌, ◌*◌, ◌/◌, ◌%◌, ◌^◌, eqb, ltb}
use Rattle.std.specs.Int.Bits.{bit_and, bit_or}
use Rattle.vertex_set.specs.Ranges.{bit, count, seek, gather}

-- vertex p is in the set s
unfoldable pub mem : ℕ → ℕ → Bool
mem p s = eqb (s / 2 ^ p % 2) 1

-- every member of a is one of b
abbrev pub Subset : ℕ → ℕ → Type 0
Subset a b = (p : ℕ) → mem p a ≡ true → mem p b ≡ true

-- and the test
abbrev pub within : ℕ → ℕ → Bool
within a b = eqb (bit_and a b) a

-- the set of those p below n that pass the test f
unfoldable pub collect : ℕ → (ℕ → Bool) → ℕ
collect zero f = 0
collect (suc n) f = collect n f + bit (f n) * 2 ^ n

-- s and the vertex p
abbrev pub insert : ℕ → ℕ → ℕ
insert p s = bit_or s (2 ^ p)

-- how many vertices s has
unfoldable pub size : ℕ → ℕ
size s = count 64 (λ p. mem p s)

-- the lowest vertex of s; 64 where it has none
unfoldable pub lowest : ℕ → ℕ
lowest s = seek 64 0 (λ p. mem p s)

-- the set of p alone; empty for p over 63
unfoldable pub single : ℕ → ℕ
single p = collect 64 (λ q. eqb q p)

-- the n lowest vertices; all 64 for n over 64
unfoldable pub below : ℕ → ℕ
below n = collect 64 (λ q. ltb q n)

-- what f gives of the vertices of s, ascending, joined
module _ {A : Type 0} where
  unfoldable pub over_members : ℕ → (ℕ → List A) → List A
  over_members s f = gather 64 0 (λ p. elim (mem p s) [ true ↦ f p | false ↦ [] ])

-- all vertices but v
abbrev pub others : ℕ → ℕ
others v = 2 ^ 64 - 1 - single v

-- r has no member but the only one of s
abbrev pub SoleMember : ℕ → ℕ → Type 0
SoleMember s r = (u w : ℕ) → mem u r ≡ true → mem w s ≡ true → w ≡ u
