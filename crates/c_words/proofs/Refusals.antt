-- What the refusals of the interface mean for a call. Assumes nothing.
use Prim.Native.Nat.{ℕ, ◌≤◌, min}
use native.Mathlib.Omega.{arith}
use mathlib.Core.Path.{◌≡◌}
use mathlib.Core.Logic.{◌≢◌}
use Rattle.std.proofs.lemmas.Bool.Decides.{nat_tests}
use Rattle.c_words.specs.Graphs.{graph_words}
use Rattle.c_words.specs.Refusals.{graph_refusal, answer_refusal, own_refusal, number_after}

-- arrays that are not refused are long enough
pub both_long : (graph answer needed : ℕ) → own_refusal graph answer needed ≡ 0 → (graph_words ≤ graph) × (needed ≤ answer)
unfolding own_refusal
both_long graph answer needed = grind (arith, nat_tests)

-- a call that returns 0 is refused neither by the interface nor by itself
pub returns_0 : (own number : ℕ) → number_after own number ≡ 0 → (own ≡ 0) × (number ≡ 0)
returns_0 own number = grind (arith, nat_tests)

-- arrays that are long enough are not refused
pub graph_taken : (graph : ℕ) → graph_words ≤ graph → graph_refusal graph ≡ 0
unfolding graph_refusal
graph_taken graph = grind (arith, nat_tests)

pub none_refused : (graph answer needed : ℕ) → graph_words ≤ graph → needed ≤ answer → own_refusal graph answer needed ≡ 0
unfolding own_refusal
none_refused graph answer needed = grind (arith, nat_tests)

-- an array for a graph that is refused is looked at first, then the answer
pub graph_first : (graph answer needed : ℕ) → graph_refusal graph ≢ 0 → own_refusal graph answer needed ≡ graph_refusal graph
unfolding graph_refusal own_refusal
graph_first graph answer needed = grind (arith, nat_tests)

pub answer_next : (graph answer needed : ℕ) → graph_refusal graph ≡ 0 → own_refusal graph answer needed ≡ answer_refusal answer needed
unfolding graph_refusal answer_refusal own_refusal
answer_next graph answer needed = grind (arith, nat_tests)

-- the shorter of two arrays is refused where one of them is
pub shorter_first : (a b : ℕ) → graph_refusal a ≢ 0 → graph_refusal (min a b) ≡ graph_refusal a
unfolding graph_refusal
shorter_first a b = grind (arith, nat_tests)

pub shorter_second : (a b : ℕ) → graph_refusal b ≢ 0 → graph_refusal (min a b) ≡ graph_refusal b
unfolding graph_refusal
shorter_second a b = grind (arith, nat_tests)

-- of a call with a graph and an answer
pub ruleset refusals = (graph_first, answer_next)

-- of one with two graphs
pub ruleset shorter_refusals = (graph_first, answer_next, shorter_first, shorter_second)
