-- For proofs: what the tables of a graph say of earlier commands, and how they take an edge. Assumes nothing.
use Rattle.std.specs.Prelude.{ℕ, Bool, true, false, ◌||◌, List, get_or, set}
use Rattle.std.specs.Int.Bits.{bit_and}
use Rattle.vertex_set.specs.Sets.{mem, insert, others}
use Rattle.commands.specs.Entries.{Earlier}

-- q is a partner of p in one of two tables
abbrev pub partners : List ℕ → List ℕ → ℕ → ℕ → Bool
partners positive negative p q = mem q (get_or positive p 0) || mem q (get_or negative p 0)

-- p is in a set of masked vertices
abbrev pub masked_in : ℕ → ℕ → Bool
masked_in masked p = mem p masked

-- what the commands before one say, as two tables and a set of masked vertices have it
abbrev pub earlier_in : List ℕ → List ℕ → ℕ → Earlier
earlier_in positive negative masked = record { joined = partners positive negative; masked = masked_in masked }

-- s with the vertex q, or without it
abbrev pub put_vertex : Bool → ℕ → ℕ → ℕ
put_vertex true q s = insert q s
put_vertex false q s = bit_and s (others q)

-- q is a partner of p, or is not
abbrev pub put_partner : Bool → List ℕ → ℕ → ℕ → List ℕ
put_partner b rows p q = set rows p (put_vertex b q (get_or rows p 0))

-- p and q are partners of each other, or are not
unfoldable pub put_edge : Bool → List ℕ → ℕ → ℕ → List ℕ
put_edge b rows p q = put_partner b (put_partner b rows p q) q p
