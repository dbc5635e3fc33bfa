-- The largest group, found by keeping the largest so far. Assumes nothing.
use Prim.Native.Nat.{ℕ, ◌≤◌, ◌<◌}
use native.Mathlib.Omega.{arith}
use mathlib.Core.Path.{◌≡◌, refl, sym, ap, ◌∙◌, subst}
use mathlib.Core.Bool.{Bool, true, false}
use mathlib.Core.List.{List, [], ◌∷◌, ◌++◌}
use mathlib.Core.Option as Found
use mathlib.Core.Option.{none, some}
use lib.Dec.{leb, ltb}
use lib.ListN.{get_or}
use borrow.Author.Tests.{ltb-true, ltb-false, lt-ltb, le-ltb}
use Rattle.vertex_set.specs.Lists.{All}
use Rattle.vertex_set.specs.Sets.{size, lowest}
use Rattle.vertex_set.proofs.Lists.{mem_all}
use Rattle.signed_graph.specs.declared.SignedGraph.{SignedGraph}
use Rattle.signed_graph.specs.Graphs.{vertices, with_tables}
use Rattle.signed_graph.specs.Soundness.{sound}
use Rattle.signed_graph.specs.Calls.{check_by, answer_number}
use Rattle.signed_graph.proofs.Soundness.{to_sound}
use Rattle.clique.proofs.Groups.{group_two}
use Rattle.pages.specs.declared.Bookmark.TheVariants.{Start}
use Rattle.std.specs.Prelude.{Ok, Err, Option, None, Some}
use Rattle.signed_graph.specs.declared.Partners.{Partners}
use Rattle.signed_graph.specs.declared.Refusal.TheVariants.{NoGroup}
use Rattle.nodes.specs.declared.Node.{Node}
use Rattle.largest.specs.declared.Best.{Best}
use Rattle.clique.specs.Listing.{Item, listing, size_of}
use Rattle.pages.specs.Pages.{due}
use Rattle.group_pages.specs.Calls.{due_groups}
use Rattle.largest.specs.Largest.{larger, largest_of, largest_or_none, largest_group_by, largest_group, largest_number_by, largest_number}
use Rattle.nodes.specs.Nodes.{chosen, undecided, put_in, leave_out, with_vertex, Root, Same, leaf_item, group_at}
use Rattle.signed_graph.specs.Tables.{ForSound}
use Rattle.signed_graph.specs.Thresholds.{Threshold}
use Rattle.nodes.specs.Below.{due_below, leaf_items}
use Rattle.look_ahead.specs.LookAhead.{FindsBarren}
use Rattle.bounds.specs.Bounds.{Tabled, SizeTable, NoneLarger}
use Rattle.largest.specs.Bests.{most, best_item, better, best_of, Finds}
use Rattle.clique.proofs.Listing.{listing_sorted, listing_exact}
use Rattle.largest.proofs.LargestOf.{largest_found}
use Rattle.nodes.proofs.Below.{of_below}
use Rattle.nodes.proofs.Nodes.{undecided_usable, same_self}
use Rattle.largest.proofs.SizesBelow.{none_larger_below}
use Rattle.nodes.proofs.DueGroups.{leaf_there, leaf_other, due_listed, none_due, leaf_due, step_in, step_out, step_due, all_due}

-- ---- lists

best_append : (b : Option Best) (xs ys : List Item) → best_of b (xs ++ ys) ≡ best_of (best_of b xs) ys
unfolding best_of
best_append b [] ys = refl
best_append b (x ∷ xs) ys = best_append (better b x) xs ys

better_not : (b : Option Best) (x : Item) → size_of x ≤ most b → better b x ≡ b
better_not b x h = ap (λ (t : Bool). elim t [ true ↦ Some (best_item x) | false ↦ b ]) (le-ltb (most b) (size_of x) h)

better_so : (b : Option Best) (x : Item) → most b < size_of x → better b x ≡ Some (best_item x)
better_so b x h = ap (λ (t : Bool). elim t [ true ↦ Some (best_item x) | false ↦ b ]) (lt-ltb (most b) (size_of x) h)

best_stays : (b : Option Best) (l : List Item) → All (λ x. size_of x ≤ most b) l → best_of b l ≡ b
unfolding best_of
best_stays b [] h = refl
best_stays b (x ∷ l) h = ap (λ (c : Option Best). best_of c l) (better_not b x h.0) ∙ best_stays b l h.1

-- the largest so far against the largest of a list
abbrev against : Option Best → Found.Option Item → Option Best
against b none = b
against b (some y) = better b y

best_largest : (b : Option Best) (l : List Item) → best_of b l ≡ against b (largest_of l)
unfolding best_of largest_of
best_largest b [] = refl
best_largest b (x ∷ l) = best_largest (better b x) l ∙ step (largest_of l)
  where
    two : (y : Item) → (p : Bool) → ltb (most b) (size_of x) ≡ p → (q : Bool) → ltb (size_of x) (size_of y) ≡ q
        → better (elim p [ true ↦ Some (best_item x) | false ↦ b ]) y ≡ better b (elim q [ true ↦ y | false ↦ x ])
    two y true e true f =
        better_so (Some (best_item x)) y (ltb-true (size_of x) (size_of y) f)
        ∙ sym (better_so b y (omega (arith, ltb-true (most b) (size_of x) e, ltb-true (size_of x) (size_of y) f)))
    two y true e false f =
        better_not (Some (best_item x)) y (ltb-false (size_of x) (size_of y) f) ∙ sym (better_so b x (ltb-true (most b) (size_of x) e))
    two y false e true f = refl
    two y false e false f =
        better_not b y (omega (arith, ltb-false (most b) (size_of x) e, ltb-false (size_of x) (size_of y) f))
        ∙ sym (better_not b x (ltb-false (most b) (size_of x) e))

    step : (o : Found.Option Item) → against (better b x) o ≡ better b (larger x o)
    step none = refl
    step (some y) = two y (ltb (most b) (size_of x)) refl (ltb (size_of x) (size_of y)) refl

-- ---- a leaf

module _ (k : Threshold) (d : Node) (b : Option Best) where
  pub finds_other : group_at k d ≡ false → b ≡ best_of b (leaf_items k Start d)
  unfolding best_of
  finds_other e = sym (ap (best_of b) (leaf_other k Start d e))

  pub finds_smaller : group_at k d ≡ true → size (chosen d) ≤ most b → b ≡ best_of b (leaf_items k Start d)
  unfolding best_of
  finds_smaller e h = sym (ap (best_of b) (leaf_there k Start d e refl) ∙ better_not b (leaf_item d) h)

  pub finds_larger : (s : ℕ) → s ≡ size (chosen d) → group_at k d ≡ true → most b < s
      → Some (record { size = s; sides = record { left = d.left.chosen; right = d.right.chosen } }) ≡ best_of b (leaf_items k Start d)
  unfolding best_of
  finds_larger s is e h =
      (λ i. Some (record { size = is i; sides = record { left = d.left.chosen; right = d.right.chosen } }))
      ∙ sym (ap (best_of b) (leaf_there k Start d e refl) ∙ better_so b (leaf_item d) (omega arith))

-- ---- a node

module _ (table positive negative : List ℕ) (k : Threshold) (d : Node) (b : Option Best) where
  -- no group below has more vertices than the largest so far
  pub finds_none : ForSound positive negative (λ g.
      Tabled g table (undecided d) → NoneLarger g (chosen d) d.left.candidates d.right.candidates (most b))
      → Finds table positive negative k d b b
  finds_none h any so va bounds =
      let g = with_tables any positive negative in
      sym (best_stays b (due_below g k Start d) (mem_all (λ x. size_of x ≤ most b) (due_below g k Start d) (λ x i.
      let r = of_below d (due_groups g k Start) x i in
      none_larger_below d (most b) (h any so (λ v m. bounds v (undecided_usable d va v m))) (due_listed g (to_sound g so) k Start x r.0) r.1)))

  -- no group is below
  pub finds_barren : FindsBarren positive negative k d true → Finds table positive negative k d b b
  unfolding best_of
  finds_barren barren any so va _ = sym (ap (best_of b) (none_due _ (to_sound _ so) k Start d (barren refl any so va)))

  pub finds_leaf : (after : Option Best) (u : ℕ) → u ≡ undecided d → u ≡ 0 → after ≡ best_of b (leaf_items k Start d)
      → Finds table positive negative k d b after
  finds_leaf after u is-u done is any so va _ =
      is ∙ ap (best_of b) (sym (leaf_due _ (to_sound _ so) k Start (same_self _ _ d va) (sym is-u ∙ done)))

  pub finds_both : (u v : ℕ) → u ≡ undecided d → (u ≡ 0 → ⊥) → v ≡ lowest u
      → (of : Partners) → of ≡ record { positive = get_or positive v 0; negative = get_or negative v 0 }
      → (in-child : Node) → in-child ≡ put_in d v of.positive of.negative
      → (first : Option Best) → Finds table positive negative k in-child b first
      → (out-child : Node) → out-child ≡ leave_out d v
      → (after : Option Best) → Finds table positive negative k out-child first after → Finds table positive negative k d b after
  finds_both u v is-u some-u is_v of is-of in-child in_is first one out-child out_is after two any so va bounds =
      let g = with_tables any positive negative in
      let gs = to_sound g so in
      let s : Same g k d d = same_self _ _ d va in
      let is = is_v ∙ ap lowest is-u in
      let pos : 0 < undecided d = omega (arith, some-u) in
      let A = due_below g k Start (with_vertex g d v) in
      let B = due_below g k Start (leave_out d v) in
      let first_is : first ≡ best_of b A =
      subst (λ (x : Node). Finds table positive negative k x b first)
      (in_is ∙ ap (λ (p : Partners). put_in d v p.positive p.negative) is-of) one any so (step_in g gs k Start s v is pos) bounds in
      let after_is : after ≡ best_of first B =
      subst (λ (x : Node). Finds table positive negative k x first after) out_is two any so (step_out g gs k Start s v is pos) bounds in
      after_is ∙ ap (λ (x : Option Best). best_of x B) first_is ∙ sym (best_append b A B)
      ∙ ap (best_of b) (sym (step_due g gs k Start s v is pos))

-- ---- the root

module _ (g : SignedGraph) (k : Threshold) (so : sound g ≡ true) where
  some_size : (y : Item) → largest_of (listing g k) ≡ some y → 1 < size_of y
  some_size y e =
      let gs = to_sound g so in
      let lx = (listing_exact g gs k y).0 (largest_found (listing g k) (listing_sorted g gs k) y e).listed in
      omega (arith, group_two lx.group)

  module _ (d : Node) (all : ℕ) (is : all ≡ vertices g) (table : List ℕ) (best : Option Best) (root : Root g d)
      (bounds : SizeTable g.n all g.positive g.negative table) (went : Finds table g.positive g.negative k d None best) where
    best_is : best ≡ against None (largest_of (listing g k))
    unfolding due
    best_is =
        went g so root.valid (bounds g so refl (sym is))
        ∙ ap (best_of None) (all_due g (to_sound g so) k Start d root) ∙ best_largest None (listing g k)

    some_best : (y : Item) → largest_of (listing g k) ≡ some y → best ≡ Some (best_item y)
    some_best y e = best_is ∙ ap (against None) e ∙ better_so None y (some_size y e)

    pub largest_none : best ≡ None → Err NoGroup ≡ largest_or_none (largest_of (listing g k))
    largest_none z = go (largest_of (listing g k)) refl
      where
        go : (o : Found.Option Item) → largest_of (listing g k) ≡ o → Err NoGroup ≡ largest_or_none o
        go none e = refl
        go (some y) e = let s = some_best y e in cc

    pub largest_some : (found : Best) → best ≡ Some found → Ok found.sides ≡ largest_or_none (largest_of (listing g k))
    largest_some found z = go (largest_of (listing g k)) refl
      where
        go : (o : Found.Option Item) → largest_of (listing g k) ≡ o → Ok found.sides ≡ largest_or_none o
        go none e = let s : best ≡ None = best_is ∙ ap (against None) e in cc
        go (some y) e = let s : found ≡ best_item y = let b = some_best y e in cc in ap (λ (b : Best). Ok b.sides) s

-- ---- the number of the answer

pub largest_number_law : (g : SignedGraph) (k : Threshold) → answer_number (largest_group g k) ≡ largest_number g k
unfolding largest_of
largest_number_law g k = go (sound g) (leb k 32) (listing g k)
  where
    go : (s small : Bool) (l : List Item)
        → answer_number (largest_group_by (check_by s small) (largest_of l)) ≡ largest_number_by s small l
    go false small l = refl
    go true false l = refl
    go true true [] = refl
    go true true (x ∷ l) = refl
