-- What each call about the listing returns and leaves in its arrays. Assumes nothing.
use Rattle.std.specs.Prelude.{ℕ, List, length}
use Rattle.signed_graph.specs.Calls.{refusal_number}
use Rattle.group_pages.specs.Calls.{page_values_of, page_bytes}
use Rattle.c_words.specs.Graphs.{graph_at}
use Rattle.c_words.specs.Refusals.{answer_refusal, unless_refused, number_after, words_after}
use Rattle.c_pages.specs.Refusals.{page_refusal}
use Rattle.c_pages.specs.Answers.{mark_at, record_words}

-- ---- pages

abbrev pub list_page_returns : List ℕ → ℕ → ℕ → List ℕ → ℕ
list_page_returns graph k kind answer =
    number_after (page_refusal (length graph) (length answer) kind) (refusal_number (graph_at graph) k)

abbrev pub list_page_buffer : List ℕ → ℕ → ℕ → ℕ → List ℕ → List ℕ → List ℕ
list_page_buffer graph k kind set out answer =
    unless_refused (page_refusal (length graph) (length answer) kind) out (page_bytes (graph_at graph) k (mark_at kind set) out)

abbrev pub list_page_answer : List ℕ → ℕ → ℕ → ℕ → List ℕ → List ℕ → List ℕ
list_page_answer graph k kind set out answer =
    words_after (page_refusal (length graph) (length answer) kind)
    (page_values_of (graph_at graph) k (mark_at kind set) (length out)) answer

-- ---- a record

abbrev pub record_at_returns : List ℕ → ℕ
record_at_returns answer = answer_refusal (length answer) 2

abbrev pub record_at_answer : List ℕ → ℕ → List ℕ → List ℕ
record_at_answer listing i answer = words_after (answer_refusal (length answer) 2) (record_words (length listing) i) answer
