-- For proofs: bounds on the size of the balanced sets that keep their sides within given vertices. Assumes nothing.
use Rattle.std.specs.Prelude.{ℕ, ◌+◌, ◌-◌, ◌≤◌, ◌≡◌, ◌≢◌, true, false, ◌&&◌, List, get_or}
use Rattle.std.specs.Int.Bits.{bit_and, bit_or}
use Rattle.vertex_set.specs.Sets.{mem, Subset, size}
use Rattle.signed_graph.specs.declared.SignedGraph.{SignedGraph}
use Rattle.signed_graph.specs.Graphs.{vertices}
use Rattle.vertex_set.specs.declared.Sides.{Sides}
use Rattle.clique.specs.Balance.{Parts}
use Rattle.signed_graph.specs.Tables.{ForSound}

-- every balanced set with its sides within these has at most m vertices
abbrev pub AtMost : SignedGraph → ℕ → ℕ → ℕ → Type 0
AtMost g left right m = (l r : ℕ) → Parts g l r → Subset l left → Subset r right → size l + size r ≤ m

-- the sides, as far as they are in these
abbrev pub meet : Sides → ℕ → ℕ → Sides
meet s left right = record { left = bit_and s.left left; right = bit_and s.right right }

-- ---- colours

-- no two of s are joined, by a table of partners; no vertex of s is joined to one of t
abbrev pub Independent : List ℕ → ℕ → Type 0
Independent table s =
    (u w : ℕ) → u ≢ w → mem u s ≡ true → mem w s ≡ true → (mem w (get_or table u 0) && mem u (get_or table w 0)) ≡ false

abbrev pub Unjoined : List ℕ → ℕ → ℕ → Type 0
Unjoined table s t = (u w : ℕ) → mem u s ≡ true → mem w t ≡ true → mem w (get_or table u 0) ≡ false

-- vertices of `near` that are independent by positive edges; those on the right are joined to none of them by a negative edge
pub record Picked (positive negative : List ℕ) (near : ℕ) (r : Sides) : Type 0 where
  pub near_of : Subset r.left near
  pub inside : Independent positive r.left
  pub across : Unjoined negative r.left r.right

-- no two of the vertices for the left and for the right are together in a balanced set with those sides
pub record ColourClass (positive negative : List ℕ) (r : Sides) : Type 0 where
  pub inside_l : Independent positive r.left
  pub inside_r : Independent positive r.right
  pub across : Unjoined negative r.left r.right

-- ---- tables of bounds

-- every balanced set among the vertices from v up has at most m vertices; a table has such an m for each vertex of s
abbrev pub AtMostFrom : SignedGraph → ℕ → ℕ → Type 0
AtMostFrom g v m =
    (l r : ℕ) → Parts g l r → ((p : ℕ) → mem p l ≡ true → v ≤ p) → ((p : ℕ) → mem p r ≡ true → v ≤ p) → size l + size r ≤ m

abbrev pub Tabled : SignedGraph → List ℕ → ℕ → Type 0
Tabled g table s = (v : ℕ) → mem v s ≡ true → AtMostFrom g v (get_or table v 0)

-- every balanced set with its sides within these has at most m vertices, where the table has bounds for those vertices
abbrev pub AtMostBy : List ℕ → List ℕ → List ℕ → ℕ → ℕ → ℕ → Type 0
AtMostBy table positive negative left right m =
    ForSound positive negative (λ g. Tabled g table (bit_or left right) → AtMost g left right m)

-- `above` has the vertices from v up that a balanced set may hold, the table has bounds for those in it, and every balanced set
-- among them has at most m vertices
pub record TabledFrom (g : SignedGraph) (table : List ℕ) (v above m : ℕ) : Type 0 where
  pub has : (p : ℕ) → v ≤ p → mem p (vertices g) ≡ true → mem p above ≡ true
  pub tabled : Tabled g table above
  pub most : AtMostFrom g v m

-- bounds for all vertices that a balanced set may hold in a sound graph with these tables, n being its n and `all` those vertices
abbrev pub SizeTable : ℕ → ℕ → List ℕ → List ℕ → List ℕ → Type 0
SizeTable n all positive negative table =
    ForSound positive negative (λ g. g.n ≡ n → vertices g ≡ all → Tabled g table (vertices g))

-- ---- what is below a node

-- the chosen vertices and those of a balanced set with its sides within left and right are at most m
abbrev pub NoneLarger : SignedGraph → ℕ → ℕ → ℕ → ℕ → Type 0
NoneLarger g chosen left right m = (size chosen ≤ m) × AtMost g left right (m - size chosen)
