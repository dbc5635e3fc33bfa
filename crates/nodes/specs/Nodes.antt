-- For proofs: a node of the search for groups: sides so far, how they grow, what holds of them, and the groups below. Assumes nothing.
use Rattle.std.specs.Prelude.{ℕ, ◌≤◌, ◌<◌, ◌≡◌, ◌≢◌, Bool, true, false, not, ◌&&◌, ◌||◌, List, eqb, get_or}
use Rattle.std.specs.Int.Bits.{bit_and, bit_or}
use Rattle.vertex_set.specs.Lists.{select}
use Rattle.vertex_set.specs.Sets.{mem, Subset, within, size, single, others}
use Rattle.signed_graph.specs.declared.SignedGraph.{SignedGraph}
use Rattle.signed_graph.specs.Graphs.{positive_edge, negative_edge, vertices}
use Rattle.clique.specs.Groups.{floor}
use Rattle.nodes.specs.declared.Side.{Side}
use Rattle.nodes.specs.declared.Node.{Node}
use Rattle.clique.specs.Listing.{Item, Listed}
use Rattle.signed_graph.specs.Tables.{positives, negatives}
use Rattle.signed_graph.specs.Thresholds.{Threshold}
use Rattle.clique.specs.Balance.{Parts}

-- ---- moving on

-- the vertices that a side has or may still get
abbrev pub reach : Side → ℕ
reach s = bit_or s.chosen s.candidates

-- the vertices chosen so far, those still undecided, both, and those left out that would still fit
abbrev pub chosen : Node → ℕ
chosen d = bit_or d.left.chosen d.right.chosen

abbrev pub undecided : Node → ℕ
undecided d = bit_or d.left.candidates d.right.candidates

abbrev pub reachable : Node → ℕ
reachable d = bit_or (chosen d) (undecided d)

abbrev pub excluded : Node → ℕ
excluded d = bit_or d.left.excluded d.right.excluded

-- a side once v is chosen, `row` being the partners of v that may be on it; and with v itself
abbrev pub narrowed : Side → ℕ → ℕ → Side
narrowed s v row =
    record { chosen = s.chosen; candidates = bit_and (bit_and s.candidates row) (others v); excluded = bit_and s.excluded row }

abbrev pub side_with : Side → ℕ → Side
side_with s v = record { chosen = bit_or s.chosen (single v); candidates = s.candidates; excluded = s.excluded }

-- a side once v is left out
abbrev pub passed_over : Side → ℕ → Side
passed_over s v =
    record {
      chosen = s.chosen;
      candidates = bit_and s.candidates (others v);
      excluded = bit_or s.excluded (bit_and s.candidates (single v));
    }

-- v, which has these positive and negative partners, goes to the left; to the right; where it may
abbrev pub put_left : Node → ℕ → ℕ → ℕ → Node
put_left d v positive negative =
    record { left = side_with (narrowed d.left v positive) v; right = narrowed d.right v negative }

abbrev pub put_right : Node → ℕ → ℕ → ℕ → Node
put_right d v positive negative =
    record { left = narrowed d.left v negative; right = side_with (narrowed d.right v positive) v }

unfoldable pub put_in : Node → ℕ → ℕ → ℕ → Node
put_in d v positive negative =
    elim (mem v d.left.candidates) [ true ↦ put_left d v positive negative | false ↦ put_right d v positive negative ]

-- v goes in where it is undecided
unfoldable pub put_in_if_open : Node → ℕ → ℕ → ℕ → Node
put_in_if_open d v positive negative = elim (mem v (undecided d)) [ true ↦ put_in d v positive negative | false ↦ d ]

-- v is left out
abbrev pub leave_out : Node → ℕ → Node
leave_out d v = record { left = passed_over d.left v; right = passed_over d.right v }

abbrev pub with_vertex : SignedGraph → Node → ℕ → Node
with_vertex g d v = put_in d v (positives g v) (negatives g v)

-- ---- what holds of a node

-- p could join the side `near`, `far` being the other side
pub record CanJoin (g : SignedGraph) (near far p : ℕ) : Type 0 where
  pub usable : mem p (vertices g) ≡ true
  pub same : (q : ℕ) → mem q near ≡ true → positive_edge g q p ≡ true
  pub cross : (q : ℕ) → mem q far ≡ true → negative_edge g q p ≡ true

-- the candidates and the excluded of a side are together the vertices that could join it, and none is both
pub record Half (g : SignedGraph) (near : Side) (far : ℕ) : Type 0 where
  pub candidate : (p : ℕ) → mem p near.candidates ≡ true → CanJoin g near.chosen far p
  pub out : (p : ℕ) → mem p near.excluded ≡ true → CanJoin g near.chosen far p
  pub every : (p : ℕ) → CanJoin g near.chosen far p → (mem p near.candidates || mem p near.excluded) ≡ true
  pub apart : (p : ℕ) → mem p near.candidates ≡ true → mem p near.excluded ≡ false

-- nothing is chosen, and both sides are open to the same vertices; or the left has the lowest of all vertices of the node
pub data Stage (d : Node) : Type 0 where
  untouched : d.left.chosen ≡ 0 → d.right.chosen ≡ 0 → d.left.candidates ≡ d.right.candidates → Stage d
  led : (a : ℕ) → mem a d.left.chosen ≡ true → ((p : ℕ) → mem p (reachable d) ≡ true → a ≤ p) → Stage d

pub record Valid (g : SignedGraph) (d : Node) : Type 0 where
  pub parts : Parts g d.left.chosen d.right.chosen
  pub left : Half g d.left d.right.chosen
  pub right : Half g d.right d.left.chosen
  pub stage : Stage d

-- u fits on its side beside every candidate, `near` being those of its side and `far` those of the other, by the tables of partners
pub record Free (positive negative : List ℕ) (near far u : ℕ) : Type 0 where
  pub same : (w : ℕ) → mem w near ≡ true → w ≢ u → mem u (get_or positive w 0) ≡ true
  pub cross : (w : ℕ) → mem w far ≡ true → mem u (get_or negative w 0) ≡ true

-- on the side `near` of a node, `far` being the other
abbrev pub FreeOn : List ℕ → List ℕ → Side → Side → ℕ → Type 0
FreeOn positive negative near far u = Free positive negative near.candidates far.candidates u

-- a candidate that is free on its side
pub data Universal (positive negative : List ℕ) (d : Node) (u : ℕ) : Type 0 where
  on_left : mem u d.left.candidates ≡ true → FreeOn positive negative d.left d.right u → Universal positive negative d u
  on_right : mem u d.right.candidates ≡ true → FreeOn positive negative d.right d.left u → Universal positive negative d u

-- a vertex of `excluded` fits on its side beside every candidate but u, by its own rows; `near` and `far` as above
pub record Sole (positive negative : List ℕ) (excluded near far u : ℕ) : Type 0 where
  pub by : ℕ
  pub out : mem by excluded ≡ true
  pub same : (w : ℕ) → mem w near ≡ true → w ≢ u → mem w (get_or positive by 0) ≡ true
  pub cross : (w : ℕ) → mem w far ≡ true → w ≢ u → mem w (get_or negative by 0) ≡ true

-- the candidates that a vertex with these partners does not fit beside: all others are its partners
pub record Conflicts (near far positive negative r : ℕ) : Type 0 where
  pub same : (w : ℕ) → mem w near ≡ true → mem w r ≡ false → mem w positive ≡ true
  pub cross : (w : ℕ) → mem w far ≡ true → mem w r ≡ false → mem w negative ≡ true

-- ---- the groups below a node

-- s has what the side has, and beyond that only candidates of it
pub record Between (side : Side) (s : ℕ) : Type 0 where
  pub holds : Subset side.chosen s
  pub only : Subset s (reach side)

pub record Below (d : Node) (x : Item) : Type 0 where
  pub left : Between d.left x.left
  pub right : Between d.right x.right

-- every group below d holds u
abbrev pub Held : SignedGraph → Threshold → Node → ℕ → Type 0
Held g k d u = (x : Item) → Listed g k x → Below d x → mem u x.vertices ≡ true

-- the search may start at d: it is valid, and below it are all groups
pub record Root (g : SignedGraph) (d : Node) : Type 0 where
  pub valid : Valid g d
  pub below : (k : Threshold) (x : Item) → Listed g k x → Below d x

-- r has the partners of the vertices of s, by the tables
abbrev pub HasPartners : List ℕ → List ℕ → ℕ → ℕ → Type 0
HasPartners positive negative s r =
    (p q : ℕ) → mem p s ≡ true → (mem q (get_or positive p 0) || mem q (get_or negative p 0)) ≡ true → mem q r ≡ true

-- no group is below d; the node e stands for the same groups as d
abbrev pub Barren : SignedGraph → Threshold → Node → Type 0
Barren g k d = (x : Item) → Listed g k x → Below d x → ⊥

pub record Same (g : SignedGraph) (k : Threshold) (d e : Node) : Type 0 where
  pub valid : Valid g e
  pub to : (x : Item) → Listed g k x → Below d x → Below e x
  pub from : (x : Item) → Listed g k x → Below e x → Below d x

-- the test of the groups below; those of a list
abbrev pub is_between : Side → ℕ → Bool
is_between side s = within side.chosen s && within s (reach side)

unfoldable pub is_below : Node → Item → Bool
is_below d x = is_between d.left x.left && is_between d.right x.right

unfoldable pub items_below : Node → List Item → List Item
items_below d l = select (is_below d) l

-- the sides are too small, even with all their candidates
unfoldable pub short : Threshold → Node → Bool
short k d = not (floor k (size (reach d.left)) (size (reach d.right)))

-- the chosen set with its sides; where nothing is undecided, whether it is a group
abbrev pub leaf_item : Node → Item
leaf_item d = record { vertices = chosen d; left = d.left.chosen; right = d.right.chosen }

unfoldable pub group_at : Threshold → Node → Bool
group_at k d = eqb (excluded d) 0 && floor k (size d.left.chosen) (size d.right.chosen)

-- the side cannot get k vertices: a balanced set whose left has what the side has, and beyond that only candidates, has fewer there
abbrev pub StaysShort : SignedGraph → ℕ → Side → Type 0
StaysShort g k side = (l r : ℕ) → Parts g l r → Between side l → size l < k
