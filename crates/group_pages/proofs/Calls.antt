-- The number and the values of a page's answer. Assumes nothing.
use Prim.Native.Nat.{ℕ}
use lib.Dec.{leb}
use mathlib.Core.Path.{◌≡◌, refl, ap, ◌∙◌}
use mathlib.Core.List.{List}
use Rattle.std.specs.Prelude.{Ok, Err}
use Rattle.signed_graph.specs.declared.SignedGraph.{SignedGraph}
use Rattle.signed_graph.specs.Calls.{Check, check_of, graph_check, answer_number, refusal_number}
use Rattle.signed_graph.specs.Thresholds.{Threshold}
use Rattle.signed_graph.proofs.Calls.{call_check}
use Rattle.clique.specs.Listing.{Item, item_set}
use Rattle.pages.specs.declared.Bookmark.{Bookmark}
use Rattle.pages.specs.declared.Page.{Page}
use Rattle.pages.specs.Pages.{answer, page_by}
use Rattle.pages.specs.Answers.{page_values}
use Rattle.pages.proofs.Answers.{page_values_law}
use Rattle.group_pages.specs.Records.{record_width}
use Rattle.group_pages.specs.Calls.{due_groups, page_of, page_values_of}

module _ (g : SignedGraph) (k : Threshold) (m : Bookmark) (room : ℕ) {page : Page} (is : page ≡ page_of g k m room) where
  pub page_number : answer_number page.outcome ≡ refusal_number g k
  unfolding answer
  page_number =
      ap (λ (p : Page). answer_number p.outcome) is ∙ told (check_of g k) (due_groups g k m)
      ∙ (call_check g k (graph_check g) (leb k 32) refl refl).1
    where
      told : (c : Check) (l : List Item) → answer_number (page_by item_set record_width c m room l).outcome ≡ answer_number c
      told (Ok x) l = refl
      told (Err why) l = refl

  pub page_valued : page_values page ≡ page_values_of g k m room
  page_valued = ap page_values is ∙ page_values_law item_set record_width (check_of g k) m room (due_groups g k m)
