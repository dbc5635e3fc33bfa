-- The canonical form (document 01: the plain form): each edge once, lower vertex first, edges ascending; then the masked vertices,
-- ascending (document 02, S-4). Assumes nothing.
use Rattle.std.specs.Prelude.{ℕ, suc, ◌-◌, ◌≡◌, Bool, true, false, ◌&&◌, ◌||◌, List, [], ◌∷◌, ◌++◌, ltb, eqb}
use Rattle.vertex_set.specs.Lists.{All, Sorted}
use Rattle.vertex_set.specs.Ranges.{gather}
use Rattle.vertex_set.specs.Sets.{over_members}
use Rattle.signed_graph.specs.declared.SignedGraph.{SignedGraph}
use Rattle.signed_graph.specs.Graphs.{positive_edge, negative_edge}
use Rattle.commands.specs.declared.Sign.{Sign}
use Rattle.commands.specs.declared.Sign.TheVariants.{Positive, Negative}
use Rattle.commands.specs.Entries.{Entry, link, mask, given_as, masked, list_of}

-- ---- in words

abbrev pub lower_first : Entry → Bool
lower_first (link s a b) = ltb a b
lower_first (mask a) = true

-- one edge comes before another by its lower, then its higher vertex; edges come before masks, and these by their vertex
abbrev pub before : Entry → Entry → Bool
before (link s a b) (link t c d) = ltb a c || eqb a c && ltb b d
before (link s a b) (mask c) = true
before (mask a) (link t c d) = false
before (mask a) (mask c) = ltb a c

pub record Ordered (es : List Entry) : Type 0 where
  pub lower : All (λ e. lower_first e ≡ true) es
  pub ascending : Sorted before es

-- `form` is the canonical form (document 01: the plain form) of a list of n vertices that gives these edges of each sign and masks
-- these vertices: an edge list of the same in order
pub record CanonicalForm (n : ℕ) (given : Sign → ℕ → ℕ → Bool) (hidden : ℕ → Bool) (form : List ℕ) : Type 0 where
  pub entries : List Entry
  pub ordered : Ordered entries
  pub spelled : form ≡ list_of n entries
  pub same : (s : Sign) (p q : ℕ) → given_as s entries p q ≡ given s p q
  pub same_masks : (p : ℕ) → masked entries p ≡ hidden p

-- ---- of a graph, computed

-- the edge between p and q, by whether it is positive and whether it is negative
abbrev pub edge_by : Bool → Bool → ℕ → ℕ → List Entry
edge_by true negative p q = link Positive p q ∷ []
edge_by false true p q = link Negative p q ∷ []
edge_by false false p q = []

abbrev pub edge_between : SignedGraph → ℕ → ℕ → List Entry
edge_between g p q = edge_by (positive_edge g p q) (negative_edge g p q) p q

-- the edges whose lower vertex is p
abbrev pub edges_above : SignedGraph → ℕ → List Entry
edges_above g p = gather (g.n - suc p) (suc p) (edge_between g p)

unfoldable pub ordered_edges : SignedGraph → List Entry
ordered_edges g = gather g.n 0 (edges_above g)

-- the masks of the vertices of a set, ascending
unfoldable pub masks_of : ℕ → List Entry
masks_of s = over_members s (λ p. mask p ∷ [])

abbrev pub ordered_masks : SignedGraph → List Entry
ordered_masks g = masks_of g.masked

abbrev pub ordered_entries : SignedGraph → List Entry
ordered_entries g = ordered_edges g ++ ordered_masks g

abbrev pub canonical : SignedGraph → List ℕ
canonical g = list_of g.n (ordered_entries g)
