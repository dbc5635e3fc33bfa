-- What each call about graphs returns and leaves in its arrays. Assumes nothing.
use Rattle.std.specs.Prelude.{ℕ, min, List, [], ◌∷◌, length}
use Rattle.signed_graph.specs.Graphs.{edgeless}
use Rattle.signed_graph.specs.Calls.{graph_number, refusal_number}
use Rattle.reduction.specs.Reductions.{reduced, reduced_left, looks_left}
use Rattle.commands.specs.Faults.{graph_given}
use Rattle.edge_list.specs.Decoding.{decoded, decoded_number, decoded_place}
use Rattle.canonical.specs.Encoding.{buffered, encoding_number, encoding_length}
use Rattle.c_words.specs.Graphs.{graph_at, words_of}
use Rattle.c_words.specs.Refusals.{graph_refusal, own_refusal, unless_refused, number_after, words_after}

-- ---- new

abbrev pub new_returns : List ℕ → ℕ
new_returns graph = graph_refusal (length graph)

abbrev pub new_graph : ℕ → List ℕ → List ℕ
new_graph n graph = words_after (graph_refusal (length graph)) (words_of (edgeless n)) graph

-- ---- soundness, and the check of a call

abbrev pub check_sound_returns : List ℕ → ℕ
check_sound_returns graph = number_after (graph_refusal (length graph)) (graph_number (graph_at graph))

abbrev pub check_call_returns : List ℕ → ℕ → ℕ
check_call_returns graph k = number_after (graph_refusal (length graph)) (refusal_number (graph_at graph) k)

-- ---- decode

abbrev pub decode_returns : List ℕ → List ℕ → List ℕ → ℕ
decode_returns bytes graph answer =
    number_after (own_refusal (length graph) (length answer) 1) (decoded_number bytes)

abbrev pub decode_graph : List ℕ → List ℕ → List ℕ → List ℕ
decode_graph bytes graph answer =
    words_after (own_refusal (length graph) (length answer) 1) (words_of (graph_given (decoded bytes))) graph

abbrev pub decode_answer : List ℕ → List ℕ → List ℕ → List ℕ
decode_answer bytes graph answer =
    words_after (own_refusal (length graph) (length answer) 1) (decoded_place bytes ∷ []) answer

-- ---- encode

abbrev pub encode_returns : List ℕ → List ℕ → List ℕ → ℕ
encode_returns graph out answer =
    number_after (own_refusal (length graph) (length answer) 1) (encoding_number (graph_at graph) (length out))

abbrev pub encode_buffer : List ℕ → List ℕ → List ℕ → List ℕ
encode_buffer graph out answer = unless_refused (own_refusal (length graph) (length answer) 1) out (buffered (graph_at graph) out)

abbrev pub encode_answer : List ℕ → List ℕ → List ℕ → List ℕ
encode_answer graph out answer =
    words_after (own_refusal (length graph) (length answer) 1) (encoding_length (graph_at graph) (length out) ∷ []) answer

-- ---- reduce

-- the interface's own refusal: both arrays for graphs are long enough where the shorter one is
abbrev pub reduce_refusal : List ℕ → List ℕ → List ℕ → ℕ
reduce_refusal graph to answer = own_refusal (min (length graph) (length to)) (length answer) 1

abbrev pub reduce_returns : List ℕ → ℕ → List ℕ → List ℕ → ℕ
reduce_returns graph k to answer = number_after (reduce_refusal graph to answer) (refusal_number (graph_at graph) k)

abbrev pub reduce_graph : List ℕ → ℕ → List ℕ → List ℕ → List ℕ
reduce_graph graph k to answer = words_after (reduce_refusal graph to answer) (words_of (reduced_left (reduced (graph_at graph) k))) to

abbrev pub reduce_answer : List ℕ → ℕ → List ℕ → List ℕ → List ℕ
reduce_answer graph k to answer = words_after (reduce_refusal graph to answer) (looks_left (reduced (graph_at graph) k) ∷ []) answer
