-- For proofs: what propagation promises of a node, over the tables of a sound graph. Assumes nothing.
use Rattle.std.specs.Prelude.{ℕ, ◌≡◌, ◌≢◌, true, List, get_or, Option, Some, None}
use Rattle.std.specs.Int.Bits.{bit_and, bit_or}
use Rattle.vertex_set.specs.Sets.{mem, Subset}
use Rattle.nodes.specs.declared.Node.{Node}
use Rattle.nodes.specs.Nodes.{FreeOn, Sole, Held, Barren, Same}
use Rattle.nodes.specs.Below.{InSound}
use Rattle.propagation.specs.declared.Fit.{Fit}
use Rattle.propagation.specs.declared.Fitting.{Fitting}
use Rattle.signed_graph.specs.Thresholds.{Threshold}

-- the vertices that fit beside one candidate more, next to which the vertices of `row` may be
abbrev pub beside_one : Fit → ℕ → Fit
beside_one f row = record { all = bit_and f.all row; but_one = bit_and f.but_one (bit_or f.all row) }

-- those of `from` that fit beside every candidate: on its side positive to all others, on the other side negative to all
pub record Beside (positive negative : List ℕ) (candidates : ℕ) (from r : Fitting) : Type 0 where
  pub near_of : Subset r.near.all from.near.all
  pub far_of : Subset r.far.all from.far.all
  pub same : (u w : ℕ) → mem u r.near.all ≡ true → mem w candidates ≡ true → w ≢ u → mem u (get_or positive w 0) ≡ true
  pub cross : (u w : ℕ) → mem u r.far.all ≡ true → mem w candidates ≡ true → mem u (get_or negative w 0) ≡ true

-- the vertices that are free on the left, and on the right
pub record FreeSides (positive negative : List ℕ) (d : Node) (r : Fitting) : Type 0 where
  pub left : (u : ℕ) → mem u r.near.all ≡ true → FreeOn positive negative d.left d.right u
  pub right : (u : ℕ) → mem u r.far.all ≡ true → FreeOn positive negative d.right d.left u

-- with the sides exchanged
abbrev pub other_way : Fitting → Fitting
other_way f = record { near = f.far; far = f.near }

-- each of the vertices r alone keeps a vertex of `excluded` from joining
abbrev pub Requires : List ℕ → List ℕ → ℕ → ℕ → ℕ → ℕ → Type 0
Requires positive negative excluded near far r = (u : ℕ) → mem u r ≡ true → Sole positive negative excluded near far u

-- every group below the node holds the vertices r
abbrev pub HeldByAll : List ℕ → List ℕ → Node → ℕ → Type 0
HeldByAll positive negative d r =
    InSound positive negative d (λ g. (k : Threshold) (u : ℕ) → mem u r ≡ true → Held g k d u)

-- where something is chosen and every group below holds the vertices `held`, e stands for the same groups
abbrev pub Settles : List ℕ → List ℕ → Node → ℕ → Node → Type 0
Settles positive negative d held e =
    InSound positive negative d (λ g.
    (k : Threshold) → (d.left.chosen ≡ 0 → ⊥) → ((u : ℕ) → mem u held ≡ true → Held g k d u) → Same g k d e)

-- no group is below the node, or the new one stands for the same groups
abbrev pub Advances : List ℕ → List ℕ → Threshold → Node → Option Node → Type 0
Advances positive negative k d a =
    InSound positive negative d (λ g. (a ≡ None → Barren g k d) × ((e : Node) → a ≡ Some e → Same g k d e))
