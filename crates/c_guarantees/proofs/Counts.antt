-- What `mastpickle_count` returns and leaves for an array with S, or with S reduced for k: the number and the counts of S.
-- S is the graph of an accepted edge list, k a threshold. Assumes nothing.
use Prim.Native.Nat.{ℕ, ◌≤◌}
use mathlib.Core.Path.{◌≡◌, ap, ◌∙◌}
use mathlib.Core.List.{List}
use lib.ListN.{length}
use Rattle.std.specs.Prelude.{Ok}
use Rattle.signed_graph.specs.declared.SignedGraph.{SignedGraph}
use Rattle.commands.specs.Faults.{graph_given}
use Rattle.edge_list.specs.Decoding.{decoded}
use Rattle.counts.specs.Calls.{counts_of, counts_number}
use Rattle.guarantees.proofs.Counts.{one_number, one_counts}
use Rattle.c_words.specs.Graphs.{graph_at}
use Rattle.c_words.specs.Refusals.{graph_refusal, unless_refused, number_after}
use Rattle.c_words.proofs.Refusals.{graph_taken}
use Rattle.c_graphs.specs.Calls.{decode_returns}
use Rattle.c_groups.specs.Calls.{count_returns, count_counts}
use Rattle.c_guarantees.specs.CDemand.{ArrayOf}
use Rattle.c_guarantees.proofs.Arrays.{decode_accepts, sound_S, array_reads}

module _ (bytes before answer : List ℕ) (returned : decode_returns bytes before answer ≡ 0) (k : ℕ) (small : k ≤ 32)
    (graph : List ℕ) (of : ArrayOf bytes k graph) (sets counts : List ℕ) where
  abbrev S : SignedGraph
  S = graph_given (decoded bytes)

  abbrev is_graph : decoded bytes ≡ Ok S
  is_graph = decode_accepts bytes before answer returned

  not_refused : graph_refusal (length graph) ≡ 0
  not_refused = graph_taken (length graph) (array_reads bytes is_graph k small graph of).1

  pub c_count_number : count_returns graph k sets counts ≡ counts_number (graph_given (decoded bytes)) k sets counts
  c_count_number =
      ap (λ (own : ℕ). number_after own (counts_number (graph_at graph) k sets counts)) not_refused
      ∙ one_number S k (sound_S bytes is_graph) small (graph_at graph) (array_reads bytes is_graph k small graph of).0 sets counts

  pub c_counts : count_counts graph k sets counts ≡ counts_of (graph_given (decoded bytes)) k sets counts
  c_counts =
      ap (λ (own : ℕ). unless_refused own counts (counts_of (graph_at graph) k sets counts)) not_refused
      ∙ one_counts S k (sound_S bytes is_graph) small (graph_at graph) (array_reads bytes is_graph k small graph of).0 sets counts
