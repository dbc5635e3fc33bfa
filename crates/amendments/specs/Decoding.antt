-- Decoding an amendment list: left to right up to the first fault. Assumes nothing.
use Rattle.std.specs.Prelude.{ℕ, zero, suc, List, [], ◌∷◌, ◌++◌, ltb, eqb, length, get_or, drop, Result, Ok, Err}
use Rattle.signed_graph.specs.declared.SignedGraph.{SignedGraph}
use Rattle.vertex_set.specs.Alternatives.{provided, ◌or_else◌}
use Rattle.commands.specs.declared.Sign.TheVariants.{Positive, Negative}
use Rattle.commands.specs.declared.Fault.{Fault}
use Rattle.commands.specs.declared.Fault.TheVariants.{TooManyVertices, Truncated, Unclosed}
use Rattle.commands.specs.declared.Step.{Step}
use Rattle.commands.specs.declared.Step.TheVariants.{Edge, Mask, Close}
use Rattle.commands.specs.Entries.{earlier_of}
use Rattle.commands.specs.Steps.{command_step}
use Rattle.amendments.specs.Amendments.{EdgeState, present, absent, Amendment, amend_edge, amend_mask, graph_of_amendments, operands_of_amendment}
use Rattle.amendments.specs.Faults.{checked_part}

-- what the command at the front of `part` does, at the place `at` of a list of n vertices: it is checked as the first command of a
-- list is, 24 as 21
abbrev pub amendment_step : ℕ → List ℕ → ℕ → Result Step Fault
amendment_step n part at = command_step (earlier_of []) n (checked_part part) at

-- what a command byte says of an edge
abbrev pub byte_state : ℕ → EdgeState
byte_state c =
    provided (eqb c 0x21) (present Positive)
    or_else provided (eqb c 0x22) (present Negative)
    or_else absent

-- how decoding goes on after the step of the command byte c, with the amendments so far
abbrev pub follow_amendment : Result Step Fault → ℕ → ℕ → List Amendment → (Amendment → Result SignedGraph Fault) → Result SignedGraph Fault
follow_amendment (Ok (Edge s a b)) c n cs next = next (amend_edge (byte_state c) a b)
follow_amendment (Ok (Mask a)) c n cs next = next (amend_mask a)
follow_amendment (Ok Close) c n cs next = Ok (graph_of_amendments n cs)
follow_amendment (Err f) c n cs next = Err f

-- the rest of a list, from the place `at` on, behind the amendments cs: first come the operands of the last command that are still
-- to be passed over, then the next command is due; 8 where there is none
unfoldable pub amended_from : ℕ → List Amendment → ℕ → List ℕ → ℕ → Result SignedGraph Fault
amended_from n cs operands [] at = Err (Unclosed at)
amended_from n cs (suc operands) (x ∷ rest) at = amended_from n cs operands rest (suc at)
amended_from n cs zero (c ∷ rest) at =
    follow_amendment (amendment_step n (c ∷ rest) at) c n cs (λ a. amended_from n (cs ++ a ∷ []) (operands_of_amendment a) rest (suc at))

-- a list whose first byte is 11: at the opening the checks 4, 2
unfoldable pub decoded_amendments : List ℕ → Result SignedGraph Fault
decoded_amendments bytes =
    let n = get_or bytes 1 0 in
    provided (ltb (length bytes) 2) (Err (Truncated 0))
    or_else provided (ltb 64 n) (Err TooManyVertices)
    or_else amended_from n [] 0 (drop 2 bytes) 2
