-- Why a command of an amendment list is refused. Assumes nothing.
use Rattle.std.specs.Prelude.{ℕ, List, [], ◌∷◌, eqb}
use Rattle.vertex_set.specs.Alternatives.{provided, ◌or_else◌}
use Rattle.commands.specs.declared.Fault.{Fault}
use Rattle.commands.specs.Entries.{earlier_of}
use Rattle.commands.specs.Faults.{FaultAt}

-- 24 a b is checked as 21 a b is
abbrev pub checked_as : ℕ → ℕ
checked_as c = provided (eqb c 0x24) 0x21 or_else c

abbrev pub checked_part : List ℕ → List ℕ
checked_part [] = []
checked_part (c ∷ rest) = checked_as c ∷ rest

-- `part` is what follows from the place `at` on, where a command is due, in an amendment list of n vertices. The rows are those of
-- document 01's table for the first command of a list: nothing was given before it, so that what is given again is no fault
abbrev pub AmendmentFaultAt : ℕ → List ℕ → ℕ → Fault → Type 0
AmendmentFaultAt n part at f = FaultAt (earlier_of []) n (checked_part part) at f
