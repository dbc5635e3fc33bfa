-- What the commands of an amendment list (document 02, S-5: a correction book) say, and the graph that they make. Assumes nothing.
use Rattle.std.specs.Prelude.{ℕ, ◌<◌, ◌≡◌, ◌≢◌, Bool, true, false, ◌&&◌, ◌||◌, List, [], ◌∷◌, ◌++◌, eqb}
use Rattle.vertex_set.specs.Alternatives.{provided, ◌or_else◌}
use Rattle.vertex_set.specs.Lists.{any}
use Rattle.vertex_set.specs.Sets.{collect}
use Rattle.bit_matrix.specs.Matrices.{table_of}
use Rattle.signed_graph.specs.declared.SignedGraph.{SignedGraph}
use Rattle.signed_graph.specs.Graphs.{positive_edge, negative_edge}
use Rattle.commands.specs.declared.Sign.{Sign}
use Rattle.commands.specs.declared.Sign.TheVariants.{Positive, Negative}
use Rattle.commands.specs.Entries.{same_sign, command_byte}

-- what is said of two vertices: an edge of a sign, or that it is not given
pub data EdgeState : Type 0 where
  present : Sign → EdgeState
  absent : EdgeState

-- what a command says: the state of the edge between two vertices, in the order of the operands; or that a vertex is masked
pub data Amendment : Type 0 where
  amend_edge : EdgeState → ℕ → ℕ → Amendment
  amend_mask : ℕ → Amendment

-- the command names p and q, either way round
abbrev pub names : ℕ → ℕ → Amendment → Bool
names p q (amend_edge v a b) = eqb a p && eqb b q || eqb a q && eqb b p
names p q (amend_mask a) = false

-- the command masks p
abbrev pub masking : ℕ → Amendment → Bool
masking p (amend_edge v a b) = false
masking p (amend_mask a) = eqb a p

-- ---- in words

-- of p and q the commands say v: the last of them that names p and q says so; or none names them, and then the edge is not given
pub data LastSays (p q : ℕ) (cs : List Amendment) : EdgeState → Type 0 where
  said : (before after : List Amendment) (v : EdgeState) (a b : ℕ) → cs ≡ before ++ amend_edge v a b ∷ after
      → names p q (amend_edge v a b) ≡ true → any (names p q) after ≡ false → LastSays p q cs v
  unsaid : any (names p q) cs ≡ false → LastSays p q cs absent

-- what a graph says of p and q
abbrev pub state_by : Bool → Bool → EdgeState
state_by true negative = present Positive
state_by false true = present Negative
state_by false false = absent

abbrev pub state_in : SignedGraph → ℕ → ℕ → EdgeState
state_in g p q = state_by (positive_edge g p q) (negative_edge g p q)

-- ---- from left to right

-- what is said of p and q behind a command, where w was said before it: a later state stands
abbrev pub state_after : EdgeState → ℕ → ℕ → Amendment → EdgeState
state_after w p q (amend_edge v a b) = provided (names p q (amend_edge v a b)) v or_else w
state_after w p q (amend_mask a) = w

unfoldable pub state_from : EdgeState → ℕ → ℕ → List Amendment → EdgeState
state_from w p q [] = w
state_from w p q (c ∷ cs) = state_from (state_after w p q c) p q cs

abbrev pub state_of : List Amendment → ℕ → ℕ → EdgeState
state_of cs p q = state_from absent p q cs

-- the edge is there, with the sign s
abbrev pub is_present : Sign → EdgeState → Bool
is_present s (present t) = same_sign s t
is_present s absent = false

abbrev pub amended_as : Sign → List Amendment → ℕ → ℕ → Bool
amended_as s cs p q = is_present s (state_of cs p q)

-- one of the commands masks p: nothing unmasks
abbrev pub amended_mask : List Amendment → ℕ → Bool
amended_mask cs p = any (masking p) cs

-- the graph of n vertices with exactly the edges that stand, and exactly these masked
abbrev pub graph_of_amendments : ℕ → List Amendment → SignedGraph
graph_of_amendments n cs =
    record {
      n = n;
      positive = table_of (amended_as Positive cs);
      negative = table_of (amended_as Negative cs);
      masked = collect 64 (amended_mask cs);
    }

-- ---- the bytes

-- a command may name vertices below n, two different ones where it speaks of an edge
abbrev pub Permitted : ℕ → Amendment → Type 0
Permitted n (amend_edge v a b) = (a < n) × (b < n) × (a ≢ b)
Permitted n (amend_mask a) = a < n

-- 21 a b and 22 a b: the edge is positive, negative. 24 a b: it is not given
abbrev pub state_byte : EdgeState → ℕ
state_byte (present s) = command_byte s
state_byte absent = 0x24

-- the command of an amendment. 23 a: a is masked
abbrev pub bytes_of_amendment : Amendment → List ℕ
bytes_of_amendment (amend_edge v a b) = state_byte v ∷ a ∷ b ∷ []
bytes_of_amendment (amend_mask a) = 0x23 ∷ a ∷ []

-- how many operands follow the command byte
abbrev pub operands_of_amendment : Amendment → ℕ
operands_of_amendment (amend_edge v a b) = 2
operands_of_amendment (amend_mask a) = 1

unfoldable pub amendment_bytes : List Amendment → List ℕ
amendment_bytes [] = []
amendment_bytes (c ∷ cs) = bytes_of_amendment c ++ amendment_bytes cs

-- 11 n opens, the commands follow, FF closes
abbrev pub amendment_list : ℕ → List Amendment → List ℕ
amendment_list n cs = 0x11 ∷ n ∷ (amendment_bytes cs ++ 0xff ∷ [])
