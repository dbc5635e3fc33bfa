-- The texts of all pages, one behind the other, are the lines of all groups: with the lines behind them, all that is to be printed.
-- Assumes nothing.
use Prim.Native.Nat.{ℕ, zero, suc, ◌<◌}
use native.Mathlib.Omega.{arith}
use mathlib.Core.Path.{◌≡◌, refl, sym, ap, ap₂, ◌∙◌}
use mathlib.Core.List.{List, [], ◌∷◌, ◌++◌, append_assoc, append-nil}
use lib.ListN.{length, take}
use Rattle.std.specs.Prelude.{Result, Ok}
use Rattle.report.specs.declared.Line.{Line}
use Rattle.signed_graph.specs.declared.SignedGraph.{SignedGraph}
use Rattle.signed_graph.specs.Calls.{Check, passed, check_of}
use Rattle.clique.specs.Listing.{Item, listing}
use Rattle.pages.specs.declared.Bookmark.{Bookmark}
use Rattle.pages.specs.declared.Bookmark.TheVariants.{Start}
use Rattle.pages.specs.declared.End.{End}
use Rattle.pages.specs.declared.End.TheVariants.{Finished, More}
use Rattle.pages.specs.declared.Page.{Page}
use Rattle.pages.specs.Pages.{due}
use Rattle.group_pages.specs.Calls.{due_groups, page_of}
use Rattle.group_pages.proofs.Walks.{page_due, page_last, page_fewer}
use Rattle.report.specs.Lines.{group_line}
use Rattle.output.specs.declared.Due.{Due}
use Rattle.output.specs.Output.{due_for, groups_text, closing_text, closing_of, closing_for, printed_of, printed}
use Rattle.output.proofs.Printed.{due_checked}
use Rattle.output_text.specs.PageTexts.{page_records, page_room, text_by, page_text}

groups_append : (a b : List Item) → groups_text (a ++ b) ≡ groups_text a ++ groups_text b
unfolding groups_text
groups_append [] b = refl
groups_append (x ∷ a) b =
    ap (λ (t : List ℕ). group_line x.left x.right ++ t) (groups_append a b)
    ∙ sym (append_assoc (group_line x.left x.right) (groups_text a) (groups_text b))

-- what follows a page: nothing where it says finished
abbrev following : End → List ℕ → List ℕ
following Finished t = []
following More t = t

module _ (g : SignedGraph) (k : ℕ) where
  -- the texts of the pages from a bookmark on, n of them at most
  unfoldable pub pages_text : ℕ → Bookmark → List ℕ
  pages_text zero m = []
  pages_text (suc n) m =
      page_text g k m ++ following (page_of g k m page_room).end (pages_text n (page_of g k m page_room).next)

  module _ (a : check_of g k ≡ passed) where
    -- with pages enough, they are the lines of all groups that are due
    pages_due : (n : ℕ) (m : Bookmark) → length (due_groups g k m) < n → pages_text n m ≡ groups_text (due_groups g k m)
    unfolding pages_text
    pages_due zero m h = absurd (omega arith)
    pages_due (suc n) m h = go (page_of g k m page_room).end refl (pages_due n (page_of g k m page_room).next)
      where
        page : Page
        page = page_of g k m page_room

        rest : List Item
        rest = due_groups g k page.next

        text : page_text g k m ≡ groups_text (take page_records (due_groups g k m))
        text = ap (λ (c : Check). text_by c (due_groups g k m)) a

        go : (e : End) → page.end ≡ e → (length rest < n → pages_text n page.next ≡ groups_text rest)
            → page_text g k m ++ following e (pages_text n page.next) ≡ groups_text (due_groups g k m)
        go Finished e ih = append-nil (page_text g k m) ∙ text ∙ ap groups_text (page_last g k a m page_room page refl e)
        go More e ih =
            ap₂ (λ (s t : List ℕ). s ++ t) text (ih (omega (arith, page_fewer g k a m page_room page refl (omega arith) e)))
            ∙ sym (groups_append (take page_records (due_groups g k m)) rest)
            ∙ ap groups_text (sym (page_due g k a m page_room page refl))

    pages_listing : (n : ℕ) → length (listing g k) < n → pages_text n Start ≡ groups_text (listing g k)
    unfolding due
    pages_listing n h = pages_due n Start h

-- where groups are due, the texts of the pages and then the lines behind them are printed
pub pages_printed : (input : List ℕ) (n : ℕ) (d : Due) → due_for input ≡ Ok d → length (listing d.graph d.threshold) < n
    → printed input ≡ pages_text d.graph d.threshold n Start ++ closing_text (closing_for input)
unfolding printed
pages_printed input n d e h =
    ap printed_of e
    ∙ ap₂ (λ (t : List ℕ) (x : Result Due Line). t ++ closing_text (closing_of x))
    (sym (pages_listing d.graph d.threshold (due_checked input d e) n h)) (sym e)
