-- What a page holds after each way that the search takes from a node. Assumes nothing.
use Prim.Native.Nat.{ℕ, ◌<◌}
use native.Mathlib.Omega.{arith}
use mathlib.Core.Path.{◌≡◌, refl, subst}
use mathlib.Core.Bool.{true, false}
use Rattle.std.specs.Prelude.{Some, None}
use Rattle.pages.specs.declared.End.TheVariants.{More}
use mathlib.Core.List.{List, [], ◌∷◌}
use lib.ListN.{get_or}
use Rattle.vertex_set.specs.Sets.{lowest}
use Rattle.signed_graph.specs.declared.SignedGraph.{SignedGraph}
use Rattle.signed_graph.specs.Soundness.{sound}
use Rattle.signed_graph.proofs.Soundness.{to_sound}
use Rattle.signed_graph.specs.Thresholds.{Threshold}
use Rattle.pages.specs.declared.Bookmark.{Bookmark}
use Rattle.pages.specs.declared.Page.{Page}
use Rattle.nodes.specs.declared.Node.{Node}
use Rattle.clique.specs.Listing.{Item, item_set}
use Rattle.pages.specs.Pages.{due_at}
use Rattle.group_pages.specs.Calls.{due_groups}
use Rattle.pages.specs.Filling.{Past, empty}
use Rattle.group_pages.specs.Filling.{HoldsGroups, AddsGroups}
use Rattle.group_pages.specs.Records.{record_width, record_of}
use Rattle.group_pages.proofs.Records.{record_wide}
use Rattle.nodes.specs.Nodes.{chosen, undecided, put_in, leave_out, Root, leaf_item, group_at}
use Rattle.propagation.specs.Propagation.{Advances}
use Rattle.look_ahead.specs.LookAhead.{FindsBarren}
use Rattle.nodes.specs.Below.{leaf_items}
use Rattle.listing.specs.Lists.{Lists}
use Rattle.pages.proofs.Filling.{holds_none, adds_none, adds_full, adds_as, adds_both}
use Rattle.nodes.proofs.DueGroups.{leaf_there, leaf_other, leaf_late, none_due, past_due, leaf_due, step_in, step_out, step_due, all_due}

-- ---- a leaf

module _ (k : Threshold) (from : Bookmark) (d : Node) (page : Page) (entry : List ℕ) where
  pub lists_other : group_at k d ≡ false → AddsGroups from (leaf_items k from d) page entry page entry
  lists_other e = adds_none item_set record_of record_width (leaf_other k from d e)

  pub lists_late : due_at from (chosen d) ≡ false → AddsGroups from (leaf_items k from d) page entry page entry
  lists_late e = adds_none item_set record_of record_width (leaf_late k from d e)

  pub lists_put : group_at k d ≡ true → due_at from (chosen d) ≡ true → (after : Page) (exit : List ℕ)
      → ((m : Bookmark) → AddsGroups m (leaf_item d ∷ []) page entry after exit) → AddsGroups from (leaf_items k from d) page entry after exit
  lists_put e f after exit put = adds_as item_set record_of record_width (leaf_there k from d e f) (put from)

-- ---- a node

module _ (positive negative : List ℕ) (k : Threshold) (from : Bookmark) (d : Node) (page : Page) (entry : List ℕ) where
  pub lists_past : Past from (chosen d) (lowest (undecided d)) → Lists positive negative k from d page entry page entry
  lists_past past any so va = adds_none item_set record_of record_width (past_due _ (to_sound _ so) k from d va past)

  pub lists_barren : Advances positive negative k d None → Lists positive negative k from d page entry page entry
  lists_barren adv any so va = adds_none item_set record_of record_width (none_due _ (to_sound _ so) k from d ((adv any so va).0 refl))

  module _ (node : Node) (adv : Advances positive negative k d (Some node)) where
    pub lists_leaf : (after : Page) (exit : List ℕ) → undecided node ≡ 0
        → AddsGroups from (leaf_items k from node) page entry after exit → Lists positive negative k from d page entry after exit
    lists_leaf after exit done leaf any so va =
        adds_as item_set record_of record_width (leaf_due _ (to_sound _ so) k from ((adv any so va).1 node refl) done) leaf

    -- the page after the branch with v is `first`
    module _ (v : ℕ) (some : 0 < undecided node) (is_v : v ≡ lowest (undecided node)) (in-child : Node)
        (in_is : in-child ≡ put_in node v (get_or positive v 0) (get_or negative v 0)) (first : Page) (mid : List ℕ)
        (went : Lists positive negative k from in-child page entry first mid) where
      in_lists : Lists positive negative k from (put_in node v (get_or positive v 0) (get_or negative v 0)) page entry first mid
      in_lists = subst (λ (x : Node). Lists positive negative k from x page entry first mid) in_is went

      pub lists_full : first.end ≡ More → Lists positive negative k from d page entry first mid
      lists_full more any so va =
          let s = (adv any so va).1 node refl in
          adds_as item_set record_of record_width (step_due _ (to_sound _ so) k from s v is_v some)
          (adds_both item_set record_of record_width (in_lists any so (step_in _ (to_sound _ so) k from s v is_v some))
          (adds_full item_set record_of record_width (omega arith) record_wide _ more))

      module _ (out-child : Node) (out_is : out-child ≡ leave_out node v) where
        pub lists_both : (after : Page) (exit : List ℕ) → Lists positive negative k from out-child first mid after exit
            → Lists positive negative k from d page entry after exit
        lists_both after exit went-out any so va =
            let s = (adv any so va).1 node refl in
            let out-lists = subst (λ (x : Node). Lists positive negative k from x first mid after exit) out_is went-out in
            adds_as item_set record_of record_width (step_due _ (to_sound _ so) k from s v is_v some)
            (adds_both item_set record_of record_width (in_lists any so (step_in _ (to_sound _ so) k from s v is_v some))
            (out-lists any so (step_out _ (to_sound _ so) k from s v is_v some)))

        -- it was seen to have none
        pub lists_in : FindsBarren positive negative k out-child true → Lists positive negative k from d page entry first mid
        lists_in barren =
            lists_both first mid
            (λ any so va. adds_none item_set record_of record_width (none_due _ (to_sound _ so) k from out-child (barren refl any so va)))

-- ---- the root

pub lists_all : (g : SignedGraph) (k : Threshold) (from : Bookmark) (buffer : List ℕ) (d : Node) (after : Page) (exit : List ℕ)
    → sound g ≡ true → Root g d → Lists g.positive g.negative k from d (empty from) buffer after exit
    → HoldsGroups from buffer (due_groups g k from) after exit
lists_all g k from buffer d after exit so root went =
    subst (λ (x : List Item). HoldsGroups from buffer x after exit) (all_due g (to_sound g so) k from d root)
    ((went g so root.valid).adds buffer [] (holds_none item_set record_of record_width (omega arith) record_wide from buffer))
