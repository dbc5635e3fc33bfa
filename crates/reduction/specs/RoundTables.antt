-- For proofs: what the code does in a round; `Reductions` says what a round is. Assumes nothing.
use Rattle.std.specs.Prelude.{ℕ, ◌^◌, ◌≤◌, ◌<◌, ◌≡◌, ◌≢◌, Bool, not, ◌&&◌, ◌||◌, List, leb, eqb, get_or, length}
use Rattle.std.specs.Int.Bits.{bit_and}
use Rattle.vertex_set.specs.Sets.{mem, collect, size}
use Rattle.bit_matrix.specs.Matrices.{table_of}
use Rattle.signed_graph.specs.declared.SignedGraph.{SignedGraph}
use Rattle.reduction.specs.Reductions.{round, fallen}

-- q's row in a table shares at least x vertices with a
unfoldable pub reaches : List ℕ → ℕ → ℕ → ℕ → Bool
reaches rows a x q = leb x (size (bit_and a (get_or rows q 0)))

-- q's rows in two tables share at least x vertices with a, and at least y with b
abbrev pub shares : List ℕ → List ℕ → ℕ → ℕ → ℕ → ℕ → ℕ → Bool
shares positive negative a x b y q = reaches positive a x q && reaches negative b y q

-- s without those of look that fail the test f
unfoldable pub sifted : ℕ → ℕ → (ℕ → Bool) → ℕ
sifted s look f = collect 64 (λ q. mem q s && (not (mem q look) || f q))

-- the table own with the vertices of able alone
unfoldable pub able_table : ℕ → List ℕ → List ℕ
able_table able own = table_of (λ p q. mem q (get_or own p 0) && (mem p able && mem q able))

-- the members q of a that stay at the vertex p: if one of them is of look, q passes the test f
abbrev pub stays : ℕ → (ℕ → Bool) → ℕ → ℕ → ℕ → Bool
stays look f a p q = mem q a && (not (mem p look || mem q look) || f q)

-- the table rows with those that stay, where the test of q at p is that q's rows share enough vertices with those of p
unfoldable pub kept_table : ℕ → ℕ → ℕ → List ℕ → List ℕ → List ℕ → List ℕ → List ℕ → List ℕ
kept_table look x y rows own other positive negative =
    table_of (λ p. stays look (shares positive negative (get_or own p 0) x (get_or other p 0) y) (get_or rows p 0) p)

-- the rows in which one of two tables differs from what it was
unfoldable pub differing : List ℕ → List ℕ → List ℕ → List ℕ → ℕ
differing a b c d = collect 64 (λ p. not (eqb (get_or a p 0) (get_or b p 0) && eqb (get_or c p 0) (get_or d p 0)))

-- the edges of one sign that rows has, where test judges them, may be judged once, from either vertex
pub record JudgedOnce (rows : List ℕ) (test : ℕ → ℕ → Bool) : Type 0 where
  pub whole : length rows ≡ 64
  pub fits : (p : ℕ) → get_or rows p 0 < 2 ^ 64
  pub joined : (p q : ℕ) → mem q (get_or rows p 0) ≡ mem p (get_or rows q 0)
  pub alike : (p q : ℕ) → test p q ≡ test q p

-- rows that lost what joins p and the vertices of out
pub record Parted (before : List ℕ) (p out : ℕ) (after : List ℕ) : Type 0 where
  pub long : length after ≡ 64
  pub less : (a : ℕ) → get_or after a 0 ≤ get_or before a 0
  pub has : (a b : ℕ) → a < 64 → b < 64
      → mem b (get_or after a 0) ≡ (mem b (get_or before a 0) && not (eqb a p && mem b out || eqb b p && mem a out))

-- the round that looks at look drops an edge, keeps the graph next, and its dropped edges have the vertices of fell
pub record Follows (g : SignedGraph) (k look : ℕ) (next : SignedGraph) (fell : ℕ) : Type 0 where
  pub graph_is : next ≡ round g k look
  pub look_is : fell ≡ fallen g k look
  pub drops : fallen g k look ≢ 0
