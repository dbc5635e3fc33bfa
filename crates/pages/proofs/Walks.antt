-- A walk of a strictly sorted list page by page, each page from the bookmark that the one before gave: a page has the first of the
-- items that are due, the others are due behind it, and what is folded over the items of all pages is folded over the list.
-- Assumes nothing.
use Prim.Native.Nat.{ℕ, ◌+◌, ◌/◌, ◌<◌}
use native.Mathlib.Omega.{arith}
use mathlib.Core.Path.{◌≡◌, refl, sym, ap, ◌∙◌}
use mathlib.Core.List.{List, [], ◌∷◌, ◌++◌, foldl, foldl-append}
use lib.ListN.{length, take, length-drop, take-append-drop}
use lib.Seq.{take_all}
use Rattle.vertex_set.specs.Lists.{Sorted}
use Rattle.pages.specs.declared.Bookmark.{Bookmark}
use Rattle.pages.specs.declared.Bookmark.TheVariants.{Start}
use Rattle.pages.specs.declared.End.TheVariants.{Finished, More}
use Rattle.pages.specs.Pages.{due, fitting, answer}
use Rattle.pages.proofs.Pages.{before, finished_if_law, none_left, answer_next}

-- ---- one page

module _ {X : Type 0} (set : X → ℕ) (w : ℕ) (l : List X) (m : Bookmark) (room : ℕ) where
  pub due_page : Sorted (before set) l
      → due set m l ≡ take (room / w) (due set m l) ++ due set (answer set w m room (due set m l)).next l
  due_page sorted =
      sym (take-append-drop (room / w) (due set m l))
      ∙ ap (λ (t : List X). take (room / w) (due set m l) ++ t) (sym (answer_next set w l sorted m room))

  -- the last page has all that are due
  pub due_last : (answer set w m room (due set m l)).end ≡ Finished → take (room / w) (due set m l) ≡ due set m l
  unfolding answer
  due_last e =
      take_all (room / w) (due set m l) (omega (arith, none_left (length (due set m l)) (fitting w room (due set m l)) e))

  -- behind a page that has a place and says more, fewer are due
  pub due_fewer : Sorted (before set) l → 0 < room / w → (answer set w m room (due set m l)).end ≡ More
      → length (due set (answer set w m room (due set m l)).next l) < length (due set m l)
  unfolding answer
  due_fewer sorted some e =
      omega (
        arith,
        ap length (answer_next set w l sorted m room),
        length-drop (room / w) (due set m l),
        finished_if_law (length (due set m l)) (fitting w room (due set m l)) e,
      )

-- ---- folds

module _ {X B : Type 0} (set : X → ℕ) (l : List X) (f : B → X → B) (first : B) where
  -- at a bookmark the walk has come to b: with the items that are due there, it comes to what the whole list folds to
  abbrev pub Walked : Bookmark → B → Type 0
  Walked m b = foldl f b (due set m l) ≡ foldl f first l

  pub walked_start : Walked Start first
  unfolding due
  walked_start = refl

  -- b with the items of a page
  module _ (w : ℕ) (m : Bookmark) (room : ℕ) (b : B) (h : Walked m b) where
    abbrev after : B
    after = foldl f b (take (room / w) (due set m l))

    pub walked_next : Sorted (before set) l → Walked (answer set w m room (due set m l)).next after
    walked_next sorted =
        sym (foldl-append f b (take (room / w) (due set m l)) (due set (answer set w m room (due set m l)).next l))
        ∙ ap (foldl f b) (sym (due_page set w l m room sorted)) ∙ h

    pub walked_all : (answer set w m room (due set m l)).end ≡ Finished → after ≡ foldl f first l
    walked_all e = ap (foldl f b) (due_last set w l m room e) ∙ h

-- counting is a fold
module _ {X : Type 0} where
  abbrev pub one_more : ℕ → X → ℕ
  one_more n x = n + 1

  pub fold_count : (n : ℕ) (l : List X) → foldl one_more n l ≡ n + length l
  fold_count n [] = omega arith
  fold_count n (x ∷ l) = omega (arith, fold_count (n + 1) l)
