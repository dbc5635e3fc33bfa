-- A walk of the groups page by page, by accepted calls: what a page has, what is due behind it, and what is folded over all groups.
-- Assumes nothing.
use Prim.Native.Nat.{ℕ, ◌/◌, ◌≤◌, ◌<◌}
use native.Mathlib.Omega.{arith}
use mathlib.Core.Path.{◌≡◌, sym, ap, ◌∙◌, subst}
use mathlib.Core.List.{List, ◌++◌, foldl}
use lib.ListN.{length, take, length-take}
use Rattle.vertex_set.specs.Lists.{Sorted}
use Rattle.signed_graph.specs.declared.SignedGraph.{SignedGraph}
use Rattle.signed_graph.specs.Calls.{Check, passed, check_of}
use Rattle.signed_graph.specs.Thresholds.{Threshold}
use Rattle.signed_graph.proofs.Soundness.{to_sound}
use Rattle.signed_graph.proofs.Calls.{accepted_sound}
use Rattle.clique.specs.Listing.{Item, item_set, comes_before, listing}
use Rattle.clique.proofs.Listing.{listing_sorted}
use Rattle.pages.specs.declared.Bookmark.{Bookmark}
use Rattle.pages.specs.declared.End.TheVariants.{Finished, More}
use Rattle.pages.specs.declared.Page.{Page}
use Rattle.pages.specs.Pages.{answer, page_by}
use Rattle.pages.proofs.Walks.{due_page, due_last, due_fewer, Walked, walked_next, walked_all}
use Rattle.group_pages.specs.Calls.{due_groups, page_of}
use Rattle.group_pages.specs.Records.{record_width}

-- at a bookmark the walk of the groups has come to b
module _ {B : Type 0} (g : SignedGraph) (k : Threshold) (f : B → Item → B) (first : B) where
  abbrev pub WalkedGroups : Bookmark → B → Type 0
  WalkedGroups m b = Walked item_set (listing g k) f first m b

module _ (g : SignedGraph) (k : Threshold) (accepted : check_of g k ≡ passed) (m : Bookmark) (room : ℕ) (page : Page)
    (is : page ≡ page_of g k m room) where
  abbrev ds : List Item
  ds = due_groups g k m

  answered : answer item_set record_width m room ds ≡ page
  answered = sym (is ∙ ap (λ (c : Check). page_by item_set record_width c m room ds) accepted)

  sorted : Sorted comes_before (listing g k)
  sorted = listing_sorted g (to_sound g (accepted_sound g k accepted)) k

  pub page_count : page.count ≡ length (take (room / record_width) (due_groups g k m))
  unfolding answer
  page_count = sym (ap (λ (p : Page). p.count) answered) ∙ sym (length-take (room / record_width) ds)

  pub page_due : due_groups g k m ≡ take (room / record_width) (due_groups g k m) ++ due_groups g k page.next
  page_due =
      subst (λ (p : Page). ds ≡ take (room / record_width) ds ++ due_groups g k p.next) answered
      (due_page item_set record_width (listing g k) m room sorted)

  pub page_last : page.end ≡ Finished → take (room / record_width) (due_groups g k m) ≡ due_groups g k m
  page_last =
      subst (λ (p : Page). p.end ≡ Finished → take (room / record_width) ds ≡ ds) answered
      (due_last item_set record_width (listing g k) m room)

  pub page_fewer : record_width ≤ room → page.end ≡ More → length (due_groups g k page.next) < length (due_groups g k m)
  page_fewer some =
      subst (λ (p : Page). p.end ≡ More → length (due_groups g k p.next) < length ds) answered
      (due_fewer item_set record_width (listing g k) m room sorted (omega arith))

  module _ {B : Type 0} (f : B → Item → B) (first b after : B) (walked : WalkedGroups g k f first m b)
      (folded : after ≡ foldl f b (take (room / record_width) (due_groups g k m))) where
    pub groups_next : WalkedGroups g k f first page.next after
    groups_next =
        subst (λ (p : Page). WalkedGroups g k f first p.next after) answered
        (subst (λ (x : B). WalkedGroups g k f first (answer item_set record_width m room ds).next x) (sym folded)
        (walked_next item_set (listing g k) f first record_width m room b walked sorted))

    pub groups_all : page.end ≡ Finished → after ≡ foldl f first (listing g k)
    groups_all e =
        folded
        ∙ walked_all item_set (listing g k) f first record_width m room b walked (ap (λ (p : Page). p.end) answered ∙ e)
