-- For proofs: how a list of a kind is read, with the graph as it goes. Assumes nothing.
use Rattle.std.specs.Prelude.{ℕ, zero, suc, List, [], ◌∷◌, ltb, length, get_or, drop, Result, Ok, Err}
use Rattle.vertex_set.specs.Alternatives.{provided, ◌or_else◌}
use Rattle.vertex_set.specs.Sets.{insert}
use Rattle.signed_graph.specs.declared.SignedGraph.{SignedGraph}
use Rattle.signed_graph.specs.Graphs.{edgeless}
use Rattle.commands.specs.declared.Sign.{Sign}
use Rattle.commands.specs.declared.Fault.{Fault}
use Rattle.commands.specs.declared.Fault.TheVariants.{TooManyVertices, Truncated, Unclosed}
use Rattle.commands.specs.declared.Step.{Step}
use Rattle.commands.specs.declared.Step.TheVariants.{Edge, Mask, Close}
use Rattle.commands.specs.Entries.{Earlier}
use Rattle.commands.specs.Steps.{command_step}

-- a kind of list: as which byte a command is checked; what was given before it, as far as that counts; and the graph with the
-- edge of a command
pub record Kind : Type 0 where
  pub checked_as : ℕ → ℕ
  pub earlier : SignedGraph → Earlier
  pub with_edge : ℕ → Sign → ℕ → ℕ → SignedGraph → SignedGraph

-- a graph with a vertex masked
abbrev pub with_mask : ℕ → SignedGraph → SignedGraph
with_mask a g = record { n = g.n; positive = g.positive; negative = g.negative; masked = insert a g.masked }

-- what a command does, by its byte and the part behind that, at the place `at` of a list of n vertices
abbrev pub kind_step : Kind → ℕ → SignedGraph → ℕ → List ℕ → ℕ → Result Step Fault
kind_step k n g c behind at = command_step (k.earlier g) n (k.checked_as c ∷ behind) at

-- how reading goes on after the step of the command byte c: with which graph, and how many operands that are to be passed over
abbrev pub follow_step : Kind → Result Step Fault → ℕ → SignedGraph → (SignedGraph → ℕ → Result SignedGraph Fault) → Result SignedGraph Fault
follow_step k (Ok (Edge s a b)) c g next = next (k.with_edge c s a b g) 2
follow_step k (Ok (Mask a)) c g next = next (with_mask a g) 1
follow_step k (Ok Close) c g next = Ok g
follow_step k (Err f) c g next = Err f

-- the rest of a list, from the place `at` on, where g is the graph so far: first come the operands of the last command that are
-- still to be passed over, then the next command is due
unfoldable pub read_from : Kind → ℕ → SignedGraph → ℕ → List ℕ → ℕ → Result SignedGraph Fault
read_from k n g operands [] at = Err (Unclosed at)
read_from k n g (suc operands) (x ∷ rest) at = read_from k n g operands rest (suc at)
read_from k n g zero (c ∷ rest) at =
    follow_step k (kind_step k n g c rest at) c g (λ h operands. read_from k n h operands rest (suc at))

-- a list, whatever its first byte is
unfoldable pub read_list : Kind → List ℕ → Result SignedGraph Fault
read_list k bytes =
    let n = get_or bytes 1 0 in
    provided (ltb (length bytes) 2) (Err (Truncated 0))
    or_else provided (ltb 64 n) (Err TooManyVertices)
    or_else read_from k n (edgeless n) 0 (drop 2 bytes) 2
