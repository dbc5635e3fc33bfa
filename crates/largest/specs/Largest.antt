-- The largest group (document 01: the biggest), and what the call for it answers. Assumes nothing.
use Rattle.std.specs.Prelude.{ℕ, ◌<◌, ◌≡◌, ◌≢◌, ◌⊎◌, Bool, true, false, leb, ltb, Result, Ok, Err}
use mathlib.Core.List.{List, [], ◌∷◌, Memᴰ}
use Rattle.std.proofs.Math.Option.{Option, none, some}
use Rattle.signed_graph.specs.declared.SignedGraph.{SignedGraph}
use Rattle.signed_graph.specs.declared.Refusal.{Refusal}
use Rattle.signed_graph.specs.declared.Refusal.TheVariants.{NoGroup}
use Rattle.signed_graph.specs.Soundness.{sound}
use Rattle.signed_graph.specs.Calls.{Check, check_of}
use Rattle.signed_graph.specs.Thresholds.{Threshold}
use Rattle.vertex_set.specs.declared.Sides.{Sides}
use Rattle.clique.specs.Listing.{Item, comes_before, listing, size_of}

-- x is the largest of a list of groups: every other has fewer vertices, or as many and comes later in listing order
pub record IsLargest (l : List Item) (x : Item) : Type 0 where
  pub listed : Memᴰ x l
  pub most : (y : Item) → Memᴰ y l → y ≢ x → (size_of y < size_of x) ⊎ ((size_of y ≡ size_of x) × (comes_before x y ≡ true))

-- the larger of a group and of one that comes later, if there is one: the first where they have as many vertices
abbrev pub larger : Item → Option Item → Item
larger x none = x
larger x (some y) = elim (ltb (size_of x) (size_of y)) [ true ↦ y | false ↦ x ]

-- the largest of a list in listing order
unfoldable pub largest_of : List Item → Option Item
largest_of [] = none
largest_of (x ∷ l) = some (larger x (largest_of l))

-- the answer: the sides of the largest group; refusal 12 where there is none
abbrev pub largest_or_none : Option Item → Result Sides Refusal
largest_or_none none = Err NoGroup
largest_or_none (some x) = Ok (record { left = x.left; right = x.right })

-- the check of the call comes first
abbrev pub largest_group_by : Check → Option Item → Result Sides Refusal
largest_group_by (Ok passed) x = largest_or_none x
largest_group_by (Err why) x = Err why

abbrev pub largest_group : SignedGraph → Threshold → Result Sides Refusal
largest_group g k = largest_group_by (check_of g k) (largest_of (listing g k))

-- the sides in an answer; both are empty where the call is refused
abbrev pub sides_left : Result Sides Refusal → Sides
sides_left (Ok sides) = sides
sides_left (Err why) = record { left = 0; right = 0 }

-- the number that the call returns: 10 where the graph is not sound, 11 where k is over 32, 12 where there is no group
abbrev pub none_number : List Item → ℕ
none_number [] = 12
none_number (x ∷ l) = 0

abbrev pub largest_number_by : Bool → Bool → List Item → ℕ
largest_number_by false small l = 10
largest_number_by true false l = 11
largest_number_by true true l = none_number l

abbrev pub largest_number : SignedGraph → Threshold → ℕ
largest_number g k = largest_number_by (sound g) (leb k 32) (listing g k)
