-- What each call about groups returns and leaves in its arrays. Assumes nothing.
use Rattle.std.specs.Prelude.{ℕ, List, length}
use Rattle.signed_graph.specs.Calls.{refusal_number}
use Rattle.clique.specs.Verdicts.{classified}
use Rattle.largest.specs.Largest.{largest_group, sides_left, largest_number}
use Rattle.counts.specs.Calls.{counts_of, counts_number}
use Rattle.c_words.specs.Graphs.{graph_at}
use Rattle.c_words.specs.Refusals.{graph_refusal, own_refusal, unless_refused, number_after, words_after}
use Rattle.c_groups.specs.Answers.{classified_words, largest_words}

-- ---- classify

abbrev pub classify_returns : List ℕ → ℕ → List ℕ → ℕ
classify_returns graph k answer = number_after (own_refusal (length graph) (length answer) 4) (refusal_number (graph_at graph) k)

abbrev pub classify_answer : List ℕ → ℕ → ℕ → List ℕ → List ℕ
classify_answer graph k set answer =
    words_after (own_refusal (length graph) (length answer) 4) (classified_words (classified (graph_at graph) k set)) answer

-- ---- the largest group

abbrev pub largest_returns : List ℕ → ℕ → List ℕ → ℕ
largest_returns graph k answer =
    number_after (own_refusal (length graph) (length answer) 2) (largest_number (graph_at graph) k)

abbrev pub largest_answer : List ℕ → ℕ → List ℕ → List ℕ
largest_answer graph k answer =
    words_after (own_refusal (length graph) (length answer) 2) (largest_words (sides_left (largest_group (graph_at graph) k))) answer

-- ---- counts

abbrev pub count_returns : List ℕ → ℕ → List ℕ → List ℕ → ℕ
count_returns graph k sets counts =
    number_after (graph_refusal (length graph)) (counts_number (graph_at graph) k sets counts)

abbrev pub count_counts : List ℕ → ℕ → List ℕ → List ℕ → List ℕ
count_counts graph k sets counts =
    unless_refused (graph_refusal (length graph)) counts (counts_of (graph_at graph) k sets counts)
