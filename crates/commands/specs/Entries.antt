-- What the commands of an edge list (document 01: a pair book) give, and the graph that they make. Assumes nothing.
use Rattle.std.specs.Prelude.{ℕ, Bool, true, false, not, ◌&&◌, ◌||◌, List, [], ◌∷◌, ◌++◌, ltb, eqb, get_or, drop}
use Rattle.vertex_set.specs.Lists.{any}
use Rattle.vertex_set.specs.Sets.{collect}
use Rattle.signed_graph.specs.declared.SignedGraph.{SignedGraph}
use Rattle.bit_matrix.specs.Matrices.{table_of}
use Rattle.commands.specs.declared.Sign.{Sign}
use Rattle.commands.specs.declared.Sign.TheVariants.{Positive, Negative}

-- what a command gives: an edge, with its sign and its vertices in the order of the operands; or a mask (document 02, S-4: parking)
pub data Entry : Type 0 where
  link : Sign → ℕ → ℕ → Entry
  mask : ℕ → Entry

-- ---- which vertices are joined, and which are masked

abbrev pub same_sign : Sign → Sign → Bool
same_sign Positive Positive = true
same_sign Positive Negative = false
same_sign Negative Positive = false
same_sign Negative Negative = true

-- the entry joins p and q, either way round; it does so with the sign s
abbrev pub joins : ℕ → ℕ → Entry → Bool
joins p q (link s a b) = eqb a p && eqb b q || eqb a q && eqb b p
joins p q (mask a) = false

abbrev pub joins_as : Sign → ℕ → ℕ → Entry → Bool
joins_as t p q (link s a b) = same_sign t s && joins p q (link s a b)
joins_as t p q (mask a) = false

-- the entry masks p
abbrev pub masks : ℕ → Entry → Bool
masks p (link s a b) = false
masks p (mask a) = eqb a p

-- one of the entries joins p and q (document 01: the pair is given); one of the sign s does
abbrev pub given : List Entry → ℕ → ℕ → Bool
given es p q = any (joins p q) es

abbrev pub given_as : Sign → List Entry → ℕ → ℕ → Bool
given_as s es p q = any (joins_as s p q) es

-- one of the entries masks p (document 02, S-4: p is parked)
abbrev pub masked : List Entry → ℕ → Bool
masked es p = any (masks p) es

-- what the commands before one say: which vertices they join, and which they mask
pub record Earlier : Type 0 where
  pub joined : ℕ → ℕ → Bool
  pub masked : ℕ → Bool

abbrev pub earlier_of : List Entry → Earlier
earlier_of es = record { joined = given es; masked = masked es }

-- each edge joins two different vertices below n, and no two edges join the same two; each masked vertex is below n, and none
-- is masked twice
unfoldable pub proper : ℕ → List Entry → Bool
proper n [] = true
proper n (link s a b ∷ es) = ltb a n && ltb b n && not (eqb a b) && not (given es a b) && proper n es
proper n (mask a ∷ es) = ltb a n && not (masked es a) && proper n es

-- ---- the graph of n vertices with exactly these edges and exactly these masked

abbrev pub graph_of_entries : ℕ → List Entry → SignedGraph
graph_of_entries n es =
    record {
      n = n;
      positive = table_of (given_as Positive es);
      negative = table_of (given_as Negative es);
      masked = collect 64 (masked es);
    }

-- ---- the bytes

-- 21 a b: a positive edge (a and b track). 22 a b: a negative one (they oppose)
abbrev pub command_byte : Sign → ℕ
command_byte Positive = 0x21
command_byte Negative = 0x22

-- the command of an entry. 23 a: a is masked (parked)
abbrev pub bytes_of : Entry → List ℕ
bytes_of (link s a b) = command_byte s ∷ a ∷ b ∷ []
bytes_of (mask a) = 0x23 ∷ a ∷ []

-- how many operands follow the command byte of an entry
abbrev pub operands_of : Entry → ℕ
operands_of (link s a b) = 2
operands_of (mask a) = 1

-- of a part that begins with a command byte, the bytes that follow it; the operands are read from these
abbrev pub behind_byte : List ℕ → List ℕ
behind_byte part = drop 1 part

abbrev pub first_operand : List ℕ → ℕ
first_operand part = get_or (behind_byte part) 0 0

abbrev pub second_operand : List ℕ → ℕ
second_operand part = get_or (behind_byte part) 1 0

unfoldable pub entry_bytes : List Entry → List ℕ
entry_bytes [] = []
entry_bytes (e ∷ es) = bytes_of e ++ entry_bytes es

-- 10 n opens, the entries follow, FF closes
abbrev pub list_of : ℕ → List Entry → List ℕ
list_of n es = 0x10 ∷ n ∷ (entry_bytes es ++ 0xff ∷ [])
