-- The numbers of a page's answer are those of the definition. Assumes nothing.
use Prim.Native.Nat.{ℕ}
use mathlib.Core.Path.{◌≡◌, refl}
use mathlib.Core.List.{List}
use Rattle.std.specs.Prelude.{Ok, Err}
use Rattle.signed_graph.specs.Calls.{Check}
use Rattle.pages.specs.declared.Bookmark.{Bookmark}
use Rattle.pages.specs.Pages.{answer, page_by}
use Rattle.pages.specs.Answers.{page_values, page_values_by}

module _ {X : Type 0} (set : X → ℕ) (width : ℕ) where
  pub page_values_law : (c : Check) (m : Bookmark) (room : ℕ) (l : List X)
      → page_values (page_by set width c m room l) ≡ page_values_by set width c m room l
  unfolding answer
  page_values_law (Ok x) m room l = refl
  page_values_law (Err why) m room l = refl
