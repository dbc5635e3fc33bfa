-- The listing holds exactly the groups, with their sides, strictly in listing order. Assumes nothing.
use Prim.Native.Nat.{ℕ, ◌^◌, ◌<◌}
use mathlib.Core.Path.{◌≡◌, sym, ap, ap₂, ◌∙◌, subst}
use mathlib.Core.Logic.{◌↔◌}
use mathlib.Core.Bool.{true}
use mathlib.Core.List.Memᴰ
use mathlib.Core.List.{List, [], ◌∷◌, map, Memᴰ}
use Rattle.vertex_set.specs.Lists.{All, Sorted}
use Rattle.vertex_set.specs.Sets.{mem, size}
use Rattle.vertex_set.proofs.Booleans.{or_left, or_right, or_cases}
use Rattle.signed_graph.specs.declared.SignedGraph.{SignedGraph}
use Rattle.signed_graph.proofs.Soundness.{Sound}
use Rattle.signed_graph.specs.Thresholds.{Threshold}
use Rattle.clique.specs.Groups.{floor, Group, groups}
use Rattle.vertex_set.specs.Order.{precedes}
use Rattle.clique.proofs.Balance.{usable_64, words_balanced, balanced_sides, is_left, is_right}
use Rattle.clique.proofs.Groups.{groups_sorted, groups_exact}
use Rattle.clique.specs.Listing.{Item, item_of, Listed, comes_before, listing}

sorted_map : (g : SignedGraph) (l : List ℕ) → Sorted precedes l → Sorted comes_before (map (item_of g) l)
sorted_map g [] h = tt
sorted_map g (s ∷ l) h = (all_map l h.0, sorted_map g l h.1)
  where
    all_map : (l : List ℕ) → All (λ t. precedes s t ≡ true) l
        → All (λ y. comes_before (item_of g s) y ≡ true) (map (item_of g) l)
    all_map [] k = tt
    all_map (t ∷ l) k = (k.0, all_map l k.1)

-- the vertices of a group are those of its sides
module _ {g : SignedGraph} {k : Threshold} {x : Item} (h : Listed g k x) (p : ℕ) where
  pub listed_left : mem p x.left ≡ true → mem p x.vertices ≡ true
  listed_left m = h.sides.split.either p ∙ or_left (mem p x.left) (mem p x.right) m

  pub listed_right : mem p x.right ≡ true → mem p x.vertices ≡ true
  listed_right m = h.sides.split.either p ∙ or_right (mem p x.left) (mem p x.right) m

  pub listed_cases : (A : Type 0) → mem p x.vertices ≡ true → (mem p x.left ≡ true → A) → (mem p x.right ≡ true → A) → A
  listed_cases A m = or_cases A (mem p x.left) (mem p x.right) (sym (h.sides.split.either p) ∙ m)

module _ (g : SignedGraph) (so : Sound g) (k : Threshold) where
  pub listing_sorted : Sorted comes_before (listing g k)
  unfolding listing
  listing_sorted = sorted_map g (groups g k) (groups_sorted g so k)

  -- its sides are those of its vertices, and large enough
  pub listed_is : (x : Item) → Listed g k x → item_of g x.vertices ≡ x
  listed_is x h =
      let s : ℕ = x.vertices in
      let s64 : s < 2 ^ 64 = usable_64 g so s h.group.balanced.usable in
      ap₂ (λ (l r : ℕ). record { vertices = s; left = l; right = r })
      (sym (is_left g so s x.left x.right s64 h.sides)) (sym (is_right g so s x.left x.right s64 h.sides))

  pub listed_enough : (x : Item) → Listed g k x → floor k (size x.left) (size x.right) ≡ true
  listed_enough x h =
      let o : Group g k x.vertices = h.group in
      let y : Item = record { vertices = x.vertices; left = o.left_side; right = o.right_side } in
      let e : x ≡ y = sym (listed_is x h) ∙ listed_is y (record { group = o; sides = o.sides }) in
      ap (λ (z : Item). floor k (size z.left) (size z.right)) e ∙ o.enough

  -- ---- the listing

  is_listed : (x : Item) → Memᴰ x (listing g k) → Listed g k x
  unfolding listing
  is_listed x m =
      let r : (s : ℕ) × Memᴰ s (groups g k) × (item_of g s ≡ x) = Memᴰ.of_map (item_of g) (groups g k) m in
      let h : Group g k r.0 = (groups_exact g so k r.0).0 r.1 in
      subst (Listed g k) r.2
      (record { group = h; sides = balanced_sides g so r.0 (words_balanced g so r.0 h.balanced) })

  in_listing : (x : Item) → Listed g k x → Memᴰ x (listing g k)
  unfolding listing
  in_listing x h =
      subst (λ (y : Item). Memᴰ y (map (item_of g) (groups g k))) (listed_is x h)
      (Memᴰ.map (item_of g) ((groups_exact g so k x.vertices).1 h.group))

  pub listing_exact : (x : Item) → Memᴰ x (listing g k) ↔ Listed g k x
  listing_exact x = (is_listed x, in_listing x)
