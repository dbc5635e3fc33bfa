-- What the arrays for S hold. Assumes nothing.
use Prim.Native.Nat.{ℕ, ◌≤◌}
use native.Mathlib.Omega.{arith}
use mathlib.Core.Path.{◌≡◌, refl, sym, ap, ◌∙◌, subst}
use mathlib.Core.Logic.{inl, inr}
use mathlib.Core.Bool.{true}
use mathlib.Core.List.{List}
use lib.ListN.{length}
use Rattle.std.specs.Prelude.{Ok}
use Rattle.signed_graph.specs.declared.SignedGraph.{SignedGraph}
use Rattle.signed_graph.specs.Soundness.{sound}
use Rattle.commands.specs.Faults.{graph_given}
use Rattle.edge_list.specs.Decoding.{decoded}
use Rattle.edge_list.proofs.Answers.{accepted_words, accepted_sound, number_accepted}
use Rattle.reduction.specs.Reductions.{reduced, reduced_left}
use Rattle.reduction.proofs.Groups.{reduce_keeps}
use Rattle.guarantees.specs.Demand.{OneOf}
use Rattle.guarantees.proofs.Demand.{left_one}
use Rattle.c_words.specs.Graphs.{graph_words, words_of, graph_at}
use Rattle.c_words.specs.Refusals.{own_refusal, words_after}
use Rattle.c_words.proofs.Graphs.{sound_read, sound_long}
use Rattle.c_words.proofs.Refusals.{both_long, returns_0}
use Rattle.c_graphs.specs.Calls.{decode_returns, reduce_refusal}
use Rattle.c_guarantees.specs.CDemand.{LeftByDecode, LeftByReduce, ArrayOf}

-- ---- an edge list that is accepted

pub decode_accepts : (bytes before answer : List ℕ) → decode_returns bytes before answer ≡ 0
    → decoded bytes ≡ Ok (graph_given (decoded bytes))
decode_accepts bytes before answer z =
    let of = number_accepted (decoded bytes) (returns_0 (own_refusal (length before) (length answer) 1) _ z).1 in
    of.1 ∙ ap Ok (sym (ap graph_given of.1))

-- ---- what is read from an array

-- a call reads the graph g from the array
pub record Reads (g : SignedGraph) (array : List ℕ) : Type 0 where
  pub read : graph_at array ≡ g
  pub long : graph_words ≤ length array

-- a call wrote it there, not refused by the interface
written : (g : SignedGraph) → sound g ≡ true → (own : ℕ) (before array : List ℕ) → own ≡ 0 → graph_words ≤ length before
    → array ≡ words_after own (words_of g) before → Reads g array
written g e own before array z long is =
    let there = is ∙ ap (λ (o : ℕ). words_after o (words_of g) before) z in
    record { read = ap graph_at there ∙ sound_read g e before; long = omega (arith, ap length there, sound_long g e before long) }

module _ (bytes : List ℕ) (is_graph : decoded bytes ≡ Ok (graph_given (decoded bytes))) where
  abbrev S : SignedGraph
  S = graph_given (decoded bytes)

  pub sound_S : sound S ≡ true
  sound_S = accepted_sound (accepted_words bytes S is_graph)

  decode_left : (array : List ℕ) → LeftByDecode bytes array → Reads S array
  decode_left array d =
      let own = own_refusal (length d.before) (length d.answer) 1 in
      let z = (returns_0 own _ d.returned).0 in
      written S sound_S own d.before array z (both_long _ _ _ z).0 d.left

  module _ (k : ℕ) (small : k ≤ 32) where
    reduce_left : (array : List ℕ) → LeftByReduce bytes k array → Reads (reduced_left (reduced S k)) array
    reduce_left array d =
        let own = reduce_refusal d.graph d.before d.answer in
        let z = (returns_0 own _ d.returned).0 in
        let from = (decode_left d.graph d.by_decode).read in
        written (reduced_left (reduced S k)) (reduce_keeps S k sound_S small).0 own d.before array z (omega (arith, (both_long _ _ _ z).0))
        (d.left ∙ ap (λ (g : SignedGraph). words_after own (words_of (reduced_left (reduced g k))) d.before) from)

    -- S, or S reduced for k
    pub array_reads : (array : List ℕ) → ArrayOf bytes k array → OneOf S k (graph_at array) × (graph_words ≤ length array)
    array_reads array (inl d) = let r = decode_left array d in (inl r.read, r.long)
    array_reads array (inr d) =
        let r = reduce_left array d in (subst (OneOf S k) (sym r.read) (left_one S k sound_S small), r.long)
