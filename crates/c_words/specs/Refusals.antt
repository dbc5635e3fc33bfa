-- The refusals of the interface itself, by the lengths of arrays: 101, then 102, before those of the calls. Assumes nothing.
use Rattle.std.specs.Prelude.{ℕ, true, false, List, ltb, eqb, Result, Ok, Err}
use Rattle.std.proofs.Math.Option.{Option}
use Rattle.vertex_set.specs.Alternatives.{provided, ◌or_else◌}
use Rattle.vertex_set.specs.Buffers.{overwritten}
use Rattle.signed_graph.specs.Calls.{refusal_of}
use Rattle.commands.specs.Faults.{fault_number}
use Rattle.c_words.specs.declared.InterfaceRefusal.{InterfaceRefusal}
use Rattle.c_words.specs.declared.InterfaceRefusal.TheVariants.{ShortGraph, ShortAnswer, NoBookmark}
use Rattle.c_words.specs.declared.CallRefusal.{CallRefusal}
use Rattle.c_words.specs.declared.CallRefusal.TheVariants.{Interface, Call, Faulty}
use Rattle.c_words.specs.Graphs.{graph_words}

-- 101: an array for a graph has fewer words than a graph
abbrev pub short_graph : ℕ → Option ℕ
short_graph graph = provided (ltb graph graph_words) 101

-- 102: the array for an answer has fewer words than the answer
abbrev pub short_answer : ℕ → ℕ → Option ℕ
short_answer answer needed = provided (ltb answer needed) 102

-- the refusal of a call, 0 where there is none: of one with a graph
unfoldable pub graph_refusal : ℕ → ℕ
graph_refusal graph = short_graph graph or_else 0

-- with an answer
unfoldable pub answer_refusal : ℕ → ℕ → ℕ
answer_refusal answer needed = short_answer answer needed or_else 0

-- and with both
unfoldable pub own_refusal : ℕ → ℕ → ℕ → ℕ
own_refusal graph answer needed = short_graph graph or_else short_answer answer needed or_else 0

-- what a call leaves: where the interface refuses, what there was; else what the call gives
module _ {X : Type 0} where
  abbrev pub unless_refused : ℕ → X → X → X
  unless_refused refusal before after = elim (eqb refusal 0) [ true ↦ after | false ↦ before ]

-- a call's own refusal, or else the number of the call
abbrev pub number_after : ℕ → ℕ → ℕ
number_after own number = unless_refused own own number

-- an array as a call leaves it that writes these words to its front
abbrev pub words_after : ℕ → List ℕ → List ℕ → List ℕ
words_after own words before = unless_refused own before (overwritten words before)

-- ---- the numbers of refusals

abbrev pub interface_number : InterfaceRefusal → ℕ
interface_number ShortGraph = 101
interface_number ShortAnswer = 102
interface_number NoBookmark = 103

-- of an answer that the interface gives by itself, 0 where there is no refusal
abbrev pub own_number : {X : Type 0} → Result X InterfaceRefusal → ℕ
own_number (Ok x) = 0
own_number (Err why) = interface_number why

-- of the answer of a call
abbrev pub call_number : Result (Unit {0}) CallRefusal → ℕ
call_number (Ok x) = 0
call_number (Err (Interface why)) = interface_number why
call_number (Err (Call why)) = refusal_of why
call_number (Err (Faulty fault)) = fault_number fault
