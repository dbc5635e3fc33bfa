-- The groups that are due below a node. Assumes nothing.
use Prim.Native.Nat.{ℕ, ◌^◌, ◌≤◌, ◌<◌}
use mathlib.Core.Path.{◌≡◌, sym, ap, ◌∙◌, subst}
use mathlib.Core.Bool.{Bool, true, false, ◌&&◌}
use mathlib.Core.List.{List, [], ◌∷◌, ◌++◌, Memᴰ}
use Rattle.vertex_set.specs.Lists.{select, Sorted}
use Rattle.vertex_set.specs.Sets.{mem, lowest}
use Rattle.vertex_set.proofs.Booleans.{clash, cases, and_intro, fails_left, fails_right}
use Rattle.vertex_set.proofs.Lists.{selected, select_from, select_keeps, sorted_select}
use Rattle.vertex_set.proofs.LowestVertex.{lowest_lt, lowest_in, lowest_le, lowest_least}
use Rattle.signed_graph.specs.declared.SignedGraph.{SignedGraph}
use Rattle.signed_graph.proofs.Soundness.{Sound}
use Rattle.signed_graph.specs.Thresholds.{Threshold}
use Rattle.clique.proofs.Balance.{usable_64}
use Rattle.pages.specs.declared.Bookmark.{Bookmark}
use Rattle.nodes.specs.declared.Node.{Node}
use Rattle.clique.specs.Listing.{Item, Listed, comes_before, listing, item_set}
use Rattle.pages.specs.Pages.{due_at}
use Rattle.group_pages.specs.Calls.{due_groups}
use Rattle.pages.specs.Filling.{Past}
use Rattle.nodes.specs.Nodes.{chosen, undecided, leave_out, with_vertex, Valid, Below, Root, Barren, Same, leaf_item, group_at}
use Rattle.nodes.specs.Below.{due_below, leaf_items}
use Rattle.clique.proofs.Listing.{listing_sorted, listing_exact}
use Rattle.pages.proofs.Bookmarks.{due_select}
use Rattle.nodes.proofs.Nodes.{put_valid, out_valid, undecided_usable}
use Rattle.nodes.proofs.Below.{of_below, in_below, below_sorted, below_is, none_below, below_agrees, below_step}
use Rattle.nodes.proofs.Leaves.{leaf_group, leaf_one, leaf_none, leaf_not_group}

-- ---- the set of a leaf, if it is a group and due

module _ (k : Threshold) (m : Bookmark) (d : Node) where
  pub leaf_there : group_at k d ≡ true → due_at m (chosen d) ≡ true → leaf_items k m d ≡ leaf_item d ∷ []
  leaf_there e f =
      ap (λ (b : Bool). elim b [ true ↦ leaf_item d ∷ [] | false ↦ [] ]) (and_intro (group_at k d) (due_at m (chosen d)) e f)

  leaf_missing : (group_at k d && due_at m (chosen d)) ≡ false → leaf_items k m d ≡ []
  leaf_missing e = ap (λ (b : Bool). elim b [ true ↦ leaf_item d ∷ [] | false ↦ [] ]) e

  pub leaf_other : group_at k d ≡ false → leaf_items k m d ≡ []
  leaf_other e = leaf_missing (fails_left (group_at k d) (due_at m (chosen d)) e)

  pub leaf_late : due_at m (chosen d) ≡ false → leaf_items k m d ≡ []
  leaf_late e = leaf_missing (fails_right (group_at k d) (due_at m (chosen d)) e)

module _ (g : SignedGraph) (so : Sound g) (k : Threshold) (m : Bookmark) where
  -- ---- the groups due

  abbrev is_due : Item → Bool
  is_due x = due_at m x.vertices

  due_is : due_groups g k m ≡ select is_due (listing g k)
  due_is = due_select item_set m (listing g k)

  due_sorted : Sorted comes_before (due_groups g k m)
  due_sorted =
      subst (Sorted comes_before) (sym due_is) (sorted_select comes_before is_due (listing g k) (listing_sorted g so k))

  pub due_listed : (x : Item) → Memᴰ x (due_groups g k m) → Listed g k x
  due_listed x i = (listing_exact g so k x).0 (select_from is_due x (listing g k) (subst (Memᴰ x) due_is i))

  is_due_law : (x : Item) → Memᴰ x (due_groups g k m) → due_at m x.vertices ≡ true
  is_due_law x i = selected is_due x (listing g k) (subst (Memᴰ x) due_is i)

  in_due : (x : Item) → Listed g k x → due_at m x.vertices ≡ true → Memᴰ x (due_groups g k m)
  in_due x h e = subst (Memᴰ x) (sym due_is) (select_keeps is_due x (listing g k) e ((listing_exact g so k x).1 h))

  -- ---- those below a node

  module _ (d : Node) where
    pub none_due : Barren g k d → due_below g k m d ≡ []
    none_due none = none_below d (due_groups g k m) due_sorted (λ x i b. none x (due_listed x i) b)

    pub past_due : Valid g d → Past m (chosen d) (lowest (undecided d)) → due_below g k m d ≡ []
    past_due h past =
        none_below d (due_groups g k m) due_sorted (λ x i b.
        clash (due_at m x.vertices) (is_due_law x i)
        (past x.vertices (λ q l. below_agrees g so k d h x (due_listed x i) b q (lowest_least (undecided d) q l))))

  -- e stands for the same groups as d
  module _ {d e : Node} (s : Same g k d e) where
    same_due : due_below g k m d ≡ due_below g k m e
    same_due =
        below_is d (due_groups g k m) due_sorted (due_below g k m e) (below_sorted e (due_groups g k m) due_sorted)
        (λ x i. let r : Memᴰ x (due_groups g k m) × Below e x = of_below e (due_groups g k m) x i in
        (r.0, s.from x (due_listed x r.0) r.1))
        (λ x i b. in_below e (due_groups g k m) x i (s.to x (due_listed x i) b))

    -- nothing is undecided
    pub leaf_due : undecided e ≡ 0 → due_below g k m d ≡ leaf_items k m e
    leaf_due done =
        let l : List Item = due_groups g k m in
        same_due
        ∙ cases (due_below g k m e ≡ leaf_items k m e) (group_at k e)
        (λ t. let x : Listed g k (leaf_item e) = leaf_group g so k e s.valid done t in
        cases (due_below g k m e ≡ leaf_items k m e) (due_at m (chosen e))
        (λ u. leaf_one g so k e s.valid done l due_sorted due_listed (in_due (leaf_item e) x u) ∙ sym (leaf_there k m e t u))
        (λ u. leaf_none g so k e s.valid done l due_sorted due_listed
        (λ i. clash (due_at m (chosen e)) (is_due_law (leaf_item e) i) u) ∙ sym (leaf_late k m e u)))
        (λ t. leaf_not_group g so k e s.valid done l due_sorted due_listed t ∙ sym (leaf_other k m e t))

    -- the lowest vertex that is undecided goes in, or is left out
    module _ (v : ℕ) (is : v ≡ lowest (undecided e)) (some : 0 < undecided e) where
      undecided_64 : undecided e < 2 ^ 64
      undecided_64 =
          usable_64 g so (undecided e) (undecided_usable e s.valid)

      small : v < 64
      small = subst (λ (z : ℕ). z < 64) (sym is) (lowest_lt (undecided e) some undecided_64)

      here : mem v (undecided e) ≡ true
      here = ap (λ (z : ℕ). mem z (undecided e)) is ∙ lowest_in (undecided e) some undecided_64

      first : (p : ℕ) → mem p (undecided e) ≡ true → v ≤ p
      first p i = subst (λ (z : ℕ). z ≤ p) (sym is) (lowest_le (undecided e) p i)

      pub step_in : Valid g (with_vertex g e v)
      step_in = put_valid g so v small e s.valid (λ z. first) here

      pub step_out : Valid g (leave_out e v)
      step_out = out_valid g so v small e s.valid

      pub step_due : due_below g k m d ≡ due_below g k m (with_vertex g e v) ++ due_below g k m (leave_out e v)
      step_due =
          same_due
          ∙ below_step g so k e s.valid v small here (λ z. first)
          (λ q l. lowest_least (undecided e) q (subst (λ (z : ℕ). q < z) is l)) (due_groups g k m) due_sorted due_listed

pub all_due : (g : SignedGraph) → Sound g → (k : Threshold) (m : Bookmark) (d : Node) → Root g d → due_below g k m d ≡ due_groups g k m
all_due g so k m d root =
    below_is d (due_groups g k m) (due_sorted g so k m) (due_groups g k m) (due_sorted g so k m)
    (λ x i. (i, root.below k x (due_listed g so k m x i))) (λ x i b. i)
