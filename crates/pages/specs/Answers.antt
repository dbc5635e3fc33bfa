-- The answer of a page as numbers, case by case. Assumes nothing.
use Rattle.std.specs.Prelude.{ℕ, List, [], ◌∷◌, leb, length, take, Ok, Err}
use Rattle.signed_graph.specs.Calls.{Check}
use Rattle.pages.specs.declared.Bookmark.{Bookmark}
use Rattle.pages.specs.declared.Bookmark.TheVariants.{Start, After}
use Rattle.pages.specs.declared.End.{End}
use Rattle.pages.specs.declared.End.TheVariants.{Finished, More}
use Rattle.pages.specs.declared.Page.{Page}
use Rattle.pages.specs.Pages.{finished_if, fitting, next_mark}

-- finished is 0, more is 1
abbrev pub end_number : End → ℕ
end_number Finished = 0
end_number More = 1

-- a bookmark is its kind, 0 for Start and 1 for After, and its set; Start has none, which is 0
abbrev pub mark_kind : Bookmark → ℕ
mark_kind Start = 0
mark_kind (After s) = 1

abbrev pub mark_set : Bookmark → ℕ
mark_set Start = 0
mark_set (After s) = s

-- a page: the count, finished or more, and the next bookmark
abbrev pub page_values : Page → List ℕ
page_values p = p.count ∷ end_number p.end ∷ mark_kind p.next ∷ mark_set p.next ∷ []

-- those that a call answers with, by its check: a refused one has count 0, more, and the bookmark that was given
module _ {X : Type 0} (set : X → ℕ) (width : ℕ) where
  abbrev pub page_values_by : Check → Bookmark → ℕ → List X → List ℕ
  page_values_by (Ok x) m room l =
      let count = fitting width room l in
      let next = next_mark set m (take count l) in
      count ∷ end_number (finished_if (leb (length l) count)) ∷ mark_kind next ∷ mark_set next ∷ []
  page_values_by (Err why) m room l = 0 ∷ end_number More ∷ mark_kind m ∷ mark_set m ∷ []
