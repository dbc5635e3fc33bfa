-- `reduction::reduce` meets its contract. The check decides, then the rounds of a sound graph come to its reduction. Assumes nothing.
use Prim.Native.Nat.{ℕ}
use mathlib.Core.Path.{◌≡◌, sym, ap, ◌∙◌, subst}
use Rattle.std.specs.Prelude.{Result, Ok}
use Rattle.signed_graph.specs.declared.SignedGraph.{SignedGraph}
use Rattle.signed_graph.specs.declared.Refusal.{Refusal}
use Rattle.signed_graph.specs.Calls.{checked}
use Rattle.signed_graph.proofs.Calls.{accepted_sound}
use Rattle.signed_graph.proofs.Soundness.{to_sound}
use Rattle.reduction.specs.declared.Reduced.{Reduced}
use Rattle.reduction.specs.Reductions.{Reduction, reduced_graph}
use Rattle.reduction.proofs.Reductions.{rounds_reduce}
use Rattle.reduction.proofs.reduce.Goals as goal

-- the graph of an answer
graph_of : (x r : Reduced) (graph : SignedGraph) (looks : ℕ) → ◌≡◌ {A = Result Reduced Refusal} (Ok x) (Ok r)
    → x ≡ record { graph = graph; looks = looks } → graph ≡ r.graph
graph_of x r graph looks e is = cc

pub returns-clause-words : goal.returns-clause-words
returns-clause-words c =
    let a = c.args in
    let so = to_sound a.g (accepted_sound a.g a.k (sym c.check_call.ensures.answer ∙ ap checked c.in_ok-sound.was)) in
    λ r e.
    let same = ap (λ g. reduced_graph g a.k) (sym c.in_ok-sound.ensures.graph) ∙ graph_of _ r _ _ e c.reduce_sound.ensures in
    subst (Reduction a.g a.k) same (rounds_reduce a.g a.k so)
