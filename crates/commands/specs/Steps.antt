-- What one command of a list does, with the checks in document 01's order. Assumes nothing.
use Rattle.std.specs.Prelude.{ℕ, suc, Bool, ◌||◌, List, leb, ltb, eqb, length, get_or, Result, Ok, Err}
use Rattle.vertex_set.specs.Alternatives.{provided, ◌or_else◌}
use Rattle.commands.specs.declared.Sign.{Sign}
use Rattle.commands.specs.declared.Sign.TheVariants.{Positive, Negative}
use Rattle.commands.specs.declared.Fault.{Fault}
use Rattle.commands.specs.declared.Fault.TheVariants.{UnknownCommand, Truncated, OutOfRange, Loop, Repeated, MaskedTwice, TrailingBytes}
use Rattle.commands.specs.declared.Step.{Step}
use Rattle.commands.specs.declared.Step.TheVariants.{Edge, Mask, Close}
use Rattle.commands.specs.Entries.{link, mask, Earlier, operands_of, behind_byte}

-- what a command byte stands for
pub data Command : Type 0 where
  gives : Sign → Command
  gives_mask : Command
  closes : Command
  unknown : Command

unfoldable pub command_of : ℕ → Command
command_of c =
    provided (eqb c 0x21) (gives Positive)
    or_else provided (eqb c 0x22) (gives Negative)
    or_else provided (eqb c 0x23) gives_mask
    or_else provided (eqb c 0xff) closes
    or_else unknown

-- 21 a b or 22 a b, at the place `at` of a list of n vertices, from the bytes behind the command byte: the checks 4, 5, 6, 7.
-- `earlier` tells of two vertices whether an edge before this one joins them
unfoldable pub edge_step : (ℕ → ℕ → Bool) → ℕ → Sign → List ℕ → ℕ → Result Step Fault
edge_step earlier n s behind at =
    let a = get_or behind 0 0 in
    let b = get_or behind 1 0 in
    provided (ltb (length behind) (operands_of (link s a b))) (Err (Truncated at))
    or_else provided (leb n a || leb n b) (Err (OutOfRange at))
    or_else provided (eqb a b) (Err (Loop at))
    or_else provided (earlier a b) (Err (Repeated at))
    or_else Ok (Edge s a b)

-- 23 a: the checks 4, 5, 15. `earlier` tells of a vertex whether a command before this one masks it
unfoldable pub mask_step : (ℕ → Bool) → ℕ → List ℕ → ℕ → Result Step Fault
mask_step earlier n behind at =
    let a = get_or behind 0 0 in
    provided (ltb (length behind) (operands_of (mask a))) (Err (Truncated at))
    or_else provided (leb n a) (Err (OutOfRange at))
    or_else provided (earlier a) (Err (MaskedTwice at))
    or_else Ok (Mask a)

-- any command, where `part` begins: check 3 before these, and 9 behind FF
unfoldable pub step_by : Command → Earlier → ℕ → List ℕ → ℕ → Result Step Fault
step_by unknown earlier n part at = Err (UnknownCommand at)
step_by (gives s) earlier n part at = edge_step earlier.joined n s (behind_byte part) at
step_by gives_mask earlier n part at = mask_step earlier.masked n (behind_byte part) at
step_by closes earlier n part at = provided (ltb 1 (length part)) (Err (TrailingBytes (suc at))) or_else Ok Close

unfoldable pub command_step : Earlier → ℕ → List ℕ → ℕ → Result Step Fault
command_step earlier n part at = step_by (command_of (get_or part 0 0)) earlier n part at
