-- What the caller of a page reads: the page that the number returned and the words of the answer tell. Assumes nothing.
use Rattle.std.specs.Prelude.{ℕ, zero, suc, List, eqb, get_or, Err}
use Rattle.vertex_set.specs.Alternatives.{provided, ◌or_else◌}
use Rattle.signed_graph.specs.declared.Refusal.TheVariants.{Unsound, ThresholdTooLarge, NoGroup, BufferTooShort, TooManySets}
use Rattle.signed_graph.specs.Calls.{Check, passed}
use Rattle.pages.specs.declared.End.{End}
use Rattle.pages.specs.declared.End.TheVariants.{Finished, More}
use Rattle.pages.specs.declared.Page.{Page}
use Rattle.c_pages.specs.Answers.{mark_at}

-- the outcome, by the number returned: those of calls on a graph; any other counts as the last of them, which no page call returns
abbrev pub check_told : ℕ → Check
check_told number =
    provided (eqb number 0) passed
    or_else provided (eqb number 10) (Err Unsound)
    or_else provided (eqb number 11) (Err ThresholdTooLarge)
    or_else provided (eqb number 12) (Err NoGroup)
    or_else provided (eqb number 13) (Err BufferTooShort)
    or_else Err TooManySets

-- finished, by word 1
abbrev pub end_told : ℕ → End
end_told zero = Finished
end_told (suc more) = More

-- the page: word 0 is its count, the words 2 and 3 are the kind and the set of the next bookmark
abbrev pub page_told : ℕ → List ℕ → Page
page_told number words =
    record {
      outcome = check_told number;
      count = get_or words 0 0;
      next = mark_at (get_or words 2 0) (get_or words 3 0);
      end = end_told (get_or words 1 0);
    }
