-- When a page is refused by the interface itself. Assumes nothing.
use Prim.Native.Nat.{ℕ, ◌≤◌}
use native.Mathlib.Omega.{arith}
use mathlib.Core.Path.{◌≡◌, refl}
use mathlib.Core.Logic.{◌≢◌}
use Rattle.std.proofs.lemmas.Bool.Decides.{nat_tests}
use Rattle.pages.specs.declared.Bookmark.{Bookmark}
use Rattle.pages.specs.declared.Bookmark.TheVariants.{Start, After}
use Rattle.pages.specs.Answers.{mark_kind}
use Rattle.c_words.specs.Graphs.{graph_words}
use Rattle.c_words.specs.Refusals.{own_refusal}
use Rattle.c_pages.specs.Refusals.{kind_refusal, page_refusal}

-- where it is a refusal of the interface itself, it is from 101 up
abbrev pub High : ℕ → Type 0
High own = own ≢ 0 → 101 ≤ own

module _ (graph answer : ℕ) where
  -- where its arrays are long enough, and the kind is 0 or 1, it is not
  pub page_taken : (kind : ℕ) → graph_words ≤ graph → 4 ≤ answer → kind ≤ 1 → page_refusal graph answer kind ≡ 0
  unfolding page_refusal
  page_taken kind = grind (arith, nat_tests)

  -- the kind of a bookmark that was written is never why
  pub mark_taken : (m : Bookmark) → page_refusal graph answer (mark_kind m) ≡ own_refusal graph answer 4
  unfolding page_refusal own_refusal
  mark_taken Start = refl
  mark_taken (After s) = refl

  -- its numbers
  pub page_high : (kind : ℕ) → High (page_refusal graph answer kind)
  unfolding page_refusal
  page_high kind = grind (arith, nat_tests)

-- both arrays are looked at before the kind
pub page_arrays : (graph answer kind : ℕ) → own_refusal graph answer 4 ≢ 0 → page_refusal graph answer kind ≡ own_refusal graph answer 4
unfolding own_refusal page_refusal
page_arrays graph answer kind = grind (arith, nat_tests)

pub page_mark : (graph answer kind : ℕ) → own_refusal graph answer 4 ≡ 0 → page_refusal graph answer kind ≡ kind_refusal kind
unfolding own_refusal page_refusal
page_mark graph answer kind = grind (arith, nat_tests)

pub ruleset page_refusals = (page_arrays, page_mark)
