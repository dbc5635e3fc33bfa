-- What is read of a page is what was written. Assumes nothing.
use Prim.Native.Nat.{ℕ}
use mathlib.Core.Path.{◌≡◌, refl}
use mathlib.Core.List.{List}
use Rattle.vertex_set.specs.Buffers.{overwritten}
use Rattle.std.specs.Prelude.{Ok, Err}
use Rattle.signed_graph.specs.declared.Refusal.TheVariants.{Unsound, ThresholdTooLarge, NoGroup, BufferTooShort, TooManySets}
use Rattle.signed_graph.specs.Calls.{Check, answer_number}
use Rattle.pages.specs.declared.Bookmark.{Bookmark}
use Rattle.pages.specs.declared.Bookmark.TheVariants.{Start, After}
use Rattle.pages.specs.declared.End.{End}
use Rattle.pages.specs.declared.End.TheVariants.{Finished, More}
use Rattle.pages.specs.declared.Page.{Page}
use Rattle.pages.specs.Answers.{end_number, mark_kind, mark_set, page_values}
use Rattle.c_pages.specs.Answers.{mark_at}
use Rattle.c_pages.specs.Reading.{check_told, end_told, page_told}

-- a bookmark, from its kind and its set
pub mark_read : (m : Bookmark) → mark_at (mark_kind m) (mark_set m) ≡ m
mark_read Start = refl
mark_read (After s) = refl

check_read : (c : Check) → check_told (answer_number c) ≡ c
check_read (Ok x) = refl
check_read (Err Unsound) = refl
check_read (Err ThresholdTooLarge) = refl
check_read (Err NoGroup) = refl
check_read (Err BufferTooShort) = refl
check_read (Err TooManySets) = refl

end_read : (e : End) → end_told (end_number e) ≡ e
end_read Finished = refl
end_read More = refl

-- a page, from its number and its words at the front of whatever array
pub page_read : (p : Page) (before : List ℕ) → page_told (answer_number p.outcome) (overwritten (page_values p) before) ≡ p
page_read p before j =
    record {
      outcome = check_read p.outcome j;
      count = p.count;
      next = mark_read p.next j;
      end = end_read p.end j;
    }
