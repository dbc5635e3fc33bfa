-- Groups in 64 bits: fewer than 2 to the 64 of them, and their sides; and a page's records are within its buffer. Assumes nothing.
use Prim.Native.Nat.{ℕ, zero, suc, ◌*◌, ◌^◌, ◌≤◌, ◌<◌}
use native.Mathlib.Nat.{pow-le-pow_right, two-pow-succ}
use native.Mathlib.Omega.{arith}
use mathlib.Core.Path.{◌≡◌, refl, sym, ap, ◌∙◌, subst}
use mathlib.Core.Bool.{Bool, true, false}
use mathlib.Core.List.{List, [], ◌∷◌, map, Memᴰ}
use lib.ListN.{length, length-append, length-map}
use Rattle.vertex_set.specs.Lists.{All, select}
use Rattle.vertex_set.specs.Sets.{insert}
use Rattle.vertex_set.proofs.Booleans.{refute}
use Rattle.vertex_set.proofs.Lists.{all_select}
use Rattle.signed_graph.specs.declared.SignedGraph.{SignedGraph}
use Rattle.std.specs.Prelude.{Ok, Err}
use Rattle.signed_graph.specs.Calls.{Check, check_of}
use Rattle.signed_graph.proofs.Soundness.{Sound}
use Rattle.signed_graph.specs.Thresholds.{Threshold}
use Rattle.clique.specs.Groups.{is_group, groups}
use Rattle.vertex_set.specs.Order.{precedes, choices, subsets}
use Rattle.clique.proofs.Balance.{left_lt, right_lt}
use Rattle.vertex_set.proofs.Order.{subsets_all}
use Rattle.clique.proofs.Groups.{group_pos, group_words_law}
use Rattle.pages.specs.declared.Bookmark.{Bookmark}
use Rattle.pages.specs.declared.Bookmark.TheVariants.{Start, After}
use Rattle.pages.specs.declared.Page.{Page}
use Rattle.clique.specs.Listing.{Item, item_set, item_of, listing}
use Rattle.pages.specs.Pages.{due, answer, page_by}
use Rattle.group_pages.specs.Calls.{due_groups, page_of}
use Rattle.group_pages.specs.Records.{record_width}

-- ---- fewer than 2 to the 64

module _ {A : Type 0} (f : A → Bool) where
  pub select_le : (l : List A) → length (select f l) ≤ length l
  unfolding select
  select_le [] = omega arith
  select_le (x ∷ l) = go (f x) refl (select_le l)
    where
      go : (b : Bool) → f x ≡ b → length (select f l) ≤ length l → length (select f (x ∷ l)) ≤ suc (length l)
      go true e h = rw (e, select) (omega arith)
      go false e h = rw (e, select) (omega arith)

  -- where one of a list fails, fewer are selected
  select_less : (x : A) (l : List A) → f x ≡ false → Memᴰ x l → length (select f l) < length l
  unfolding select
  select_less x l e (Memᴰ.head {x = y} {xs = t} q) = rw (ap f (sym q) ∙ e, select) (omega (arith, select_le t))
  select_less x l e (Memᴰ.tail {x = y} {xs = t} m) = go (f y) refl (select_less x t e m)
    where
      go : (b : Bool) → f y ≡ b → length (select f t) < length t → length (select f (y ∷ t)) < suc (length t)
      go true i h = rw (i, select) (omega arith)
      go false i h = rw (i, select) (omega arith)

length_choices : (d i s : ℕ) → length (choices d i s) ≡ 2 ^ d
unfolding choices
length_choices zero i s = refl
length_choices (suc d) i s =
    omega (
      arith,
      length-append (choices d (suc i) (insert i s)) (choices d (suc i) s),
      length_choices d (suc i) (insert i s),
      length_choices d (suc i) s,
      two-pow-succ d,
    )

-- there are 2 to the n sets of vertices, and the empty one is no group
pub listing_few : (g : SignedGraph) → Sound g → (k : Threshold) → length (listing g k) < 2 ^ 64
unfolding listing groups subsets
listing_few g so k =
    let n = g.n in
    let some : 2 ^ 0 ≤ 2 ^ n = pow-le-pow_right {n = 2} (omega arith) {i = 0} {j = n} (omega arith) in
    let most : 2 ^ n ≤ 2 ^ 64 = pow-le-pow_right {n = 2} (omega arith) {i = n} {j = 64} so.small in
    let none : is_group g k 0 ≡ false = refute (is_group g k 0) (λ e. omega (arith, group_pos (group_words_law g so k 0 e))) in
    omega (
      arith,
      length-map (groups g k) (item_of g),
      select_less (is_group g k) 0 (subsets n) none (subsets_all n 0 (omega arith)),
      length_choices n 0 0,
    )

-- ---- the sides are 64-bit sets

-- both sides of a group are 64-bit sets
abbrev pub Narrow : Item → Type 0
Narrow x = (x.left < 2 ^ 64) × (x.right < 2 ^ 64)

module _ (g : SignedGraph) (k : Threshold) where
  pub listing_sides : All Narrow (listing g k)
  unfolding listing
  listing_sides = go (groups g k)
    where
      go : (l : List ℕ) → All Narrow (map (item_of g) l)
      go [] = tt
      go (s ∷ l) = ((left_lt g s, right_lt g s), go l)

  -- what holds of all groups holds of those that are due
  pub due_all : (P : Item → Type 0) → All P (listing g k) → (m : Bookmark) → All P (due_groups g k m)
  unfolding due
  due_all P h Start = h
  due_all P h (After s) = all_select (λ x. precedes s x.vertices) P (listing g k) h

-- ---- pages

module _ (g : SignedGraph) (k : Threshold) (m : Bookmark) (room : ℕ) where
  abbrev ds : List Item
  ds = due_groups g k m

  pub page_fits : (page : Page) → page ≡ page_of g k m room → record_width * page.count ≤ room
  unfolding answer
  page_fits page is = subst (λ (p : Page). record_width * p.count ≤ room) (sym is) (go (check_of g k))
    where
      go : (c : Check) → record_width * (page_by item_set record_width c m room ds).count ≤ room
      go (Ok x) = omega arith
      go (Err why) = omega arith
