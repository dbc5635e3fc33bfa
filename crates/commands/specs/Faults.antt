-- Why a command is refused: document 01's table, row by row, and the number and place of each refusal. Assumes nothing.
use Rattle.std.specs.Prelude.{ℕ, suc, ◌≤◌, ◌<◌, ◌≡◌, ◌≢◌, ◌⊎◌, true, List, length, get_or, Result, Ok, Err}
use Rattle.signed_graph.specs.declared.SignedGraph.{SignedGraph}
use Rattle.signed_graph.specs.Graphs.{edgeless}
use Rattle.commands.specs.declared.Fault.{Fault}
use Rattle.commands.specs.declared.Fault.TheVariants.{NoOpening, TooManyVertices, UnknownCommand, Truncated, OutOfRange, Loop, Repeated, MaskedTwice, Unclosed, TrailingBytes}
use Rattle.commands.specs.Entries.{Earlier, behind_byte, first_operand, second_operand}

-- ---- the rows

-- the command byte of an edge; 21 a b or 22 a b, whole
abbrev pub EdgeByte : List ℕ → Type 0
EdgeByte part = (get_or part 0 0 ≡ 0x21) ⊎ (get_or part 0 0 ≡ 0x22)

pub record GivesEdge (part : List ℕ) : Type 0 where
  pub byte : EdgeByte part
  pub whole : 2 ≤ length (behind_byte part)

-- the command byte of a mask; 23 a, whole
abbrev pub MaskByte : List ℕ → Type 0
MaskByte part = get_or part 0 0 ≡ 0x23

pub record GivesMask (part : List ℕ) : Type 0 where
  pub byte : MaskByte part
  pub whole : 1 ≤ length (behind_byte part)

-- `part` is what follows from the place `at` on, where a command is due, in a list of n vertices; `earlier` is what the commands
-- before this one say
abbrev pub FaultAt : Earlier → ℕ → List ℕ → ℕ → Fault → Type 0
-- 3: a command byte other than 21, 22, 23, FF
FaultAt earlier n part at (UnknownCommand i) =
    (i ≡ at) × (0 < length part) × (get_or part 0 0 ≢ 0x21) × (get_or part 0 0 ≢ 0x22) × (get_or part 0 0 ≢ 0x23) × (get_or part 0 0 ≢ 0xff)
-- 4: the list ends inside a command
FaultAt earlier n part at (Truncated i) =
    (i ≡ at) × ((EdgeByte part × (length (behind_byte part) < 2)) ⊎ (MaskByte part × (length (behind_byte part) < 1)))
-- 5: an operand is n or higher
FaultAt earlier n part at (OutOfRange i) =
    (i ≡ at)
    × ((GivesEdge part × ((n ≤ first_operand part) ⊎ (n ≤ second_operand part))) ⊎ (GivesMask part × (n ≤ first_operand part)))
-- 6: the operands are equal
FaultAt earlier n part at (Loop i) = (i ≡ at) × GivesEdge part × (first_operand part < n) × (first_operand part ≡ second_operand part)
-- 7: the pair was given before, either way round
FaultAt earlier n part at (Repeated i) =
    (i ≡ at) × GivesEdge part × (first_operand part < n) × (second_operand part < n) × (first_operand part ≢ second_operand part)
    × (earlier.joined (first_operand part) (second_operand part) ≡ true)
-- 15: the vertex was masked before
FaultAt earlier n part at (MaskedTwice i) =
    (i ≡ at) × GivesMask part × (first_operand part < n) × (earlier.masked (first_operand part) ≡ true)
-- 8: the list ends where a command is due
FaultAt earlier n part at (Unclosed i) = (i ≡ at) × (length part ≡ 0)
-- 9: bytes follow FF, the first of them at this place
FaultAt earlier n part at (TrailingBytes i) = (i ≡ suc at) × (get_or part 0 0 ≡ 0xff) × (1 < length part)
-- 1 and 2 are faults of the opening
FaultAt earlier n part at NoOpening = ⊥
FaultAt earlier n part at TooManyVertices = ⊥

-- ---- their numbers and places

abbrev pub fault_number : Fault → ℕ
fault_number NoOpening = 1
fault_number TooManyVertices = 2
fault_number (UnknownCommand at) = 3
fault_number (Truncated at) = 4
fault_number (OutOfRange at) = 5
fault_number (Loop at) = 6
fault_number (Repeated at) = 7
fault_number (MaskedTwice at) = 15
fault_number (Unclosed at) = 8
fault_number (TrailingBytes at) = 9

abbrev pub fault_place : Fault → ℕ
fault_place NoOpening = 0
fault_place TooManyVertices = 0
fault_place (UnknownCommand at) = at
fault_place (Truncated at) = at
fault_place (OutOfRange at) = at
fault_place (Loop at) = at
fault_place (Repeated at) = at
fault_place (MaskedTwice at) = at
fault_place (Unclosed at) = at
fault_place (TrailingBytes at) = at

-- those of an answer: 0 and no place, which is 0 too, where the list is accepted
abbrev pub outcome_number : {X : Type 0} → Result X Fault → ℕ
outcome_number (Ok x) = 0
outcome_number (Err f) = fault_number f

abbrev pub outcome_place : {X : Type 0} → Result X Fault → ℕ
outcome_place (Ok x) = 0
outcome_place (Err f) = fault_place f

-- the graph that an answer gives: that of no vertices where the list is refused
abbrev pub graph_given : Result SignedGraph Fault → SignedGraph
graph_given (Ok g) = g
graph_given (Err f) = edgeless 0
