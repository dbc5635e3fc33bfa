-- For proofs: what a test of a branch promises of its node, over the tables of a sound graph. Assumes nothing.
use Rattle.std.specs.Prelude.{ℕ, ◌≡◌, ◌⊎◌, Bool, true, List}
use Rattle.nodes.specs.declared.Side.{Side}
use Rattle.nodes.specs.declared.Node.{Node}
use Rattle.nodes.specs.Nodes.{Sole, Barren}
use Rattle.nodes.specs.Below.{InSound}
use Rattle.look_ahead.specs.declared.Fewest.{Fewest}
use Rattle.signed_graph.specs.Thresholds.{Threshold}

-- the smaller of what was found and a set of candidates is empty only where one of them is
abbrev pub SmallerOf : Fewest → ℕ → Fewest → Type 0
SmallerOf found candidates r = r.count ≡ 0 → (found.count ≡ 0) ⊎ (candidates ≡ 0)

-- a vertex that was left out of the side `near` fits there beside every candidate, `far` being the other side
abbrev pub FitsBesideAll : List ℕ → List ℕ → Side → Side → Type 0
FitsBesideAll positive negative near far = (u : ℕ) → Sole positive negative near.excluded near.candidates far.candidates u

abbrev pub FewestConflicts : List ℕ → List ℕ → Side → Side → Fewest → Fewest → Type 0
FewestConflicts positive negative near far found r = r.count ≡ 0 → (found.count ≡ 0) ⊎ FitsBesideAll positive negative near far

abbrev pub Narrowest : List ℕ → List ℕ → Node → Fewest → Type 0
Narrowest positive negative d r =
    r.count ≡ 0 → FitsBesideAll positive negative d.left d.right ⊎ FitsBesideAll positive negative d.right d.left

-- a test holds only of a node with no group below
abbrev pub FindsBarren : List ℕ → List ℕ → Threshold → Node → Bool → Type 0
FindsBarren positive negative k d holds = holds ≡ true → InSound positive negative d (λ g. Barren g k d)
