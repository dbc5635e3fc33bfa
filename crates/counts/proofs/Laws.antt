-- What a count means: which groups are counted, and document 02's words on the empty set, on vertices outside the graph and on
-- equal sets. Assumes nothing.
use Prim.Native.Nat.{ℕ, zero, suc, ◌<◌}
use native.Mathlib.Omega.{arith}
use mathlib.Core.Path.{◌≡◌, refl, sym, ap, ◌∙◌, subst}
use mathlib.Core.Logic.{◌↔◌}
use mathlib.Core.Bool.{true, false}
use mathlib.Core.List.{List, [], ◌∷◌, map, Memᴰ}
use lib.ListN.{length, get_or, drop, length-map, get_or-append}
use Rattle.vertex_set.specs.Lists.{select, Sorted}
use Rattle.vertex_set.specs.Sets.{mem}
use Rattle.vertex_set.specs.Buffers.{overwritten}
use Rattle.vertex_set.proofs.Booleans.{clash}
use Rattle.vertex_set.proofs.Lists.{mem_all, selected, select_from, select_keeps, sorted_select, sorted_unique}
use Rattle.vertex_set.proofs.Order.{asymmetric}
use Rattle.vertex_set.proofs.Membership.{set_ext, none_in, within_subset, subset_within}
use Rattle.signed_graph.specs.declared.SignedGraph.{SignedGraph}
use Rattle.signed_graph.specs.Graphs.{vertices}
use Rattle.signed_graph.specs.Thresholds.{Threshold}
use Rattle.signed_graph.proofs.Soundness.{Sound}
use Rattle.clique.specs.Listing.{Item, Listed, comes_before, listing}
use Rattle.clique.proofs.Listing.{listing_sorted, listing_exact}
use Rattle.pages.proofs.Pages.{selects_all}
use Rattle.counts.specs.Counts.{Contains, contains, IsCount, containing}

-- the test is the words
pub contains_words : (s : ℕ) (x : Item) → (contains s x ≡ true) ↔ Contains x s
contains_words s x = (within_subset s x.vertices, subset_within s x.vertices)

module _ (g : SignedGraph) (so : Sound g) (k : Threshold) (s : ℕ) where
  abbrev kept : List Item
  kept = select (contains s) (listing g k)

  kept_sorted : Sorted comes_before kept
  kept_sorted = sorted_select comes_before (contains s) (listing g k) (listing_sorted g so k)

  kept_exact : (x : Item) → Memᴰ x kept ↔ (Listed g k x × Contains x s)
  kept_exact x = (
    (λ m. (
      (listing_exact g so k x).0 (select_from (contains s) x (listing g k) m),
      (contains_words s x).0 (selected (contains s) x (listing g k) m),
    )),
    (λ h. select_keeps (contains s) x (listing g k) ((contains_words s x).1 h.1) ((listing_exact g so k x).1 h.0)),
  )

  -- the number computed is the count, and no other number is
  pub containing_words : (n : ℕ) → (containing g k s ≡ n) ↔ IsCount g k s n
  containing_words n = (
    (λ e.
        record {
          counted = kept;
          exact = kept_exact;
          once = kept_sorted;
          number = e;
        }),
    (λ c.
        ap length
        (sorted_unique comes_before (λ x y. asymmetric x.vertices y.vertices) kept c.counted kept_sorted c.once
        (λ x m. (c.exact x).1 ((kept_exact x).0 m)) (λ x m. (kept_exact x).1 ((c.exact x).0 m)))
        ∙ c.number),
  )

  -- no group contains a vertex that the graph does not have
  pub outside_counts_none : (p : ℕ) → mem p s ≡ true → mem p (vertices g) ≡ false → containing g k s ≡ 0
  outside_counts_none p e h = go kept refl
    where
      go : (l : List Item) → kept ≡ l → containing g k s ≡ 0
      go [] q = ap length q
      go (x ∷ l) q =
          let c = (kept_exact x).0 (subst (Memᴰ x) (sym q) (Memᴰ.head refl)) in
          clash (mem p (vertices g)) (c.0.group.balanced.usable p (c.1 p e)) h

-- the empty set counts all groups
pub empty_counts_all : (g : SignedGraph) (k : Threshold) → containing g k 0 ≡ length (listing g k)
empty_counts_all g k =
    ap length (selects_all (contains 0) (listing g k) (mem_all (λ x. contains 0 x ≡ true) (listing g k) (λ x m.
    (contains_words 0 x).1 (λ p e. none_in p e))))

-- sets with the same vertices count alike
pub equal_count_alike : (g : SignedGraph) (k : Threshold) (s t : ℕ) → ((p : ℕ) → mem p s ≡ mem p t) → containing g k s ≡ containing g k t
equal_count_alike g k s t h = ap (containing g k) (set_ext s t h)

-- place i of the counts has the count of set i
pub count_at : (f : ℕ → ℕ) (sets buffer : List ℕ) (i : ℕ) → i < length sets → get_or (overwritten (map f sets) buffer) i 0 ≡ f (get_or sets i 0)
count_at f sets buffer i h =
    get_or-append (map f sets) (drop (length (map f sets)) buffer) 0 i (omega (arith, length-map sets f)) ∙ at sets i h
  where
    at : (l : List ℕ) (j : ℕ) → j < length l → get_or (map f l) j 0 ≡ f (get_or l j 0)
    at [] j k = absurd (omega arith)
    at (x ∷ l) zero k = refl
    at (x ∷ l) (suc j) k = at l j (omega arith)
