-- A list of a kind is read command by command, as the code goes. Assumes nothing.
use Prim.Native.Nat.{ℕ, suc, ◌+◌, ◌≤◌, ◌<◌}
use native.Mathlib.Omega.{arith}
use mathlib.Core.Path.{◌≡◌, refl, sym, ap, ap₂, ◌∙◌, subst}
use mathlib.Core.List.{List, ◌∷◌}
use lib.Dec.{ltb}
use lib.ListN.{length, get_or, drop, length-drop, drop_of_length-le}
use lib.Seq.{drop-drop}
use lib.Bits.{bit_or}
use borrow.Author.Tests.{ltb-false}
use Rattle.std.specs.Prelude.{Result, Ok, Err}
use Rattle.vertex_set.specs.Alternatives.{provided, ◌or_else◌}
use Rattle.vertex_set.specs.Sets.{single}
use Rattle.vertex_set.proofs.Booleans.{cases}
use Rattle.vertex_set.proofs.Collections.{single_pow}
use Rattle.vertex_set.proofs.Buffers.{part_from, part_from_law, next_left}
use Rattle.signed_graph.specs.declared.SignedGraph.{SignedGraph}
use Rattle.signed_graph.specs.Graphs.{edgeless}
use Rattle.commands.specs.declared.Sign.{Sign}
use Rattle.commands.specs.declared.Fault.{Fault}
use Rattle.commands.specs.declared.Fault.TheVariants.{TooManyVertices, Truncated, Unclosed}
use Rattle.commands.specs.declared.Step.{Step}
use Rattle.commands.specs.declared.Step.TheVariants.{Edge, Mask, Close}
use Rattle.commands.specs.Entries.{link, mask}
use Rattle.commands.specs.Steps.{command_step}
use Rattle.commands.specs.ListKinds.{Kind, with_mask, kind_step, follow_step, read_from, read_list}
use Rattle.commands.proofs.Graphs.{with_masked}
use Rattle.commands.proofs.Steps.{Given, Means, step_means}
use Rattle.commands.proofs.Reading.{passed_over_law}

-- what reading a list of n vertices comes to
abbrev pub answer : Kind → ℕ → List ℕ → Result SignedGraph Fault
answer k n bytes = read_from k n (edgeless n) 0 (drop 2 bytes) 2

-- reading has come to the place `at`, with this graph
pub record Reached (k : Kind) (n : ℕ) (bytes : List ℕ) (graph : SignedGraph) (at : ℕ) : Type 0 where
  pub inside : at ≤ length bytes
  pub ahead : answer k n bytes ≡ read_from k n graph 0 (drop at bytes) at

pub reached_end : {k : Kind} {n : ℕ} {bytes : List ℕ} {graph : SignedGraph} {at : ℕ} → length bytes ≤ at → Reached k n bytes graph at
    → answer k n bytes ≡ Err (Unclosed at)
unfolding read_from
reached_end {k} {n} {bytes} {graph} {at} h r = r.ahead ∙ ap (λ (part : List ℕ). read_from k n graph 0 part at) (drop_of_length-le bytes h)

-- the step that the code makes at a place
module _ {k : Kind} {n : ℕ} {bytes : List ℕ} {graph : SignedGraph} {at checked : ℕ} {x : Result Step Fault} (h : at < length bytes)
    (r : Reached k n bytes graph at) (byte : checked ≡ k.checked_as (get_or bytes at 0))
    (e : x ≡ command_step (k.earlier graph) n (checked ∷ part_from bytes (at + 1)) at) where
  abbrev command : ℕ
  command = get_or bytes at 0

  abbrev behind : List ℕ
  behind = drop (at + 1) bytes

  told : x ≡ kind_step k n graph command behind at
  told = e ∙ ap₂ (λ (c : ℕ) (l : List ℕ). command_step (k.earlier graph) n (c ∷ l) at) byte (part_from_law bytes (at + 1))

  abbrev onward : SignedGraph → ℕ → Result SignedGraph Fault
  onward g operands = read_from k n g operands behind (suc at)

  goes_on : {y : Result Step Fault} → x ≡ y → answer k n bytes ≡ follow_step k y command graph onward
  unfolding read_from
  goes_on c =
      r.ahead ∙ ap (λ (l : List ℕ). read_from k n graph 0 l at) (next_left bytes at 0 h)
      ∙ ap (λ (y : Result Step Fault). follow_step k y command graph onward) (sym told ∙ c)

  means : {y : Result Step Fault} → x ≡ y → Means (k.earlier graph) n (k.checked_as command ∷ behind) at y
  means c =
      subst (Means (k.earlier graph) n (k.checked_as command ∷ behind) at) (sym told ∙ c)
      (step_means (k.earlier graph) n (k.checked_as command ∷ behind) at (omega arith))

  pub reached_close : x ≡ Ok Close → answer k n bytes ≡ Ok graph
  reached_close c = goes_on c

  pub reached_refusal : {f : Fault} → x ≡ Err f → answer k n bytes ≡ Err f
  reached_refusal c = goes_on c

  -- behind the operands of a command
  passed : (graph' : SignedGraph) (operands : ℕ) → operands ≤ length behind → answer k n bytes ≡ onward graph' operands
      → Reached k n bytes graph' (at + suc operands)
  unfolding read_from
  passed graph' operands room ahead =
      let place : suc at + operands ≡ at + suc operands = omega arith in
      let count : at + 1 + operands ≡ at + suc operands = omega arith in
      record {
        inside = omega (arith, room, length-drop (at + 1) bytes);
        ahead =
            ahead ∙ passed_over_law (read_from k n) (λ g o x rest at. refl) graph' operands behind (suc at) room
            ∙ ap₂ (read_from k n graph' 0) (drop-drop operands (at + 1) bytes ∙ ap (λ (i : ℕ). drop i bytes) count) place;
      }

  module _ {s : Sign} {a b : ℕ} (c : x ≡ Ok (Edge s a b)) where
    given : Given (k.earlier graph) n (k.checked_as command ∷ behind) (link s a b)
    given = means c

    pub reached_low : n ≤ 64 → (a < 64) × (b < 64)
    reached_low small = (omega (arith, given.allowed.0), omega (arith, given.allowed.1))

    pub reached_edge : {graph' : SignedGraph} → graph' ≡ k.with_edge command s a b graph → Reached k n bytes graph' (at + 3)
    reached_edge {graph'} is =
        passed graph' 2 (omega (arith, given.room)) (goes_on c ∙ ap (λ (g : SignedGraph). onward g 2) (sym is))

  module _ {a : ℕ} (c : x ≡ Ok (Mask a)) where
    given_mask : Given (k.earlier graph) n (k.checked_as command ∷ behind) (mask a)
    given_mask = means c

    -- the vertex goes into the masked set
    pub reached_mask : {bit : ℕ} {graph' : SignedGraph} → n ≤ 64 → bit ≡ single a → graph' ≡ with_masked graph (bit_or graph.masked bit)
        → Reached k n bytes graph' (at + 2)
    reached_mask {bit} {graph'} small b is =
        let low : a < 64 = omega (arith, given_mask.allowed) in
        let same : graph' ≡ with_mask a graph = is ∙ ap (λ (m : ℕ). with_masked graph (bit_or graph.masked m)) (b ∙ single_pow a low) in
        passed graph' 1 (omega (arith, given_mask.room)) (goes_on c ∙ ap (λ (g : SignedGraph). onward g 1) (sym same))

-- a whole list, by what is answered behind its opening
pub read_opened : (k : Kind) (bytes : List ℕ) (x : Result SignedGraph Fault)
    → (get_or bytes 1 0 ≤ 64 → answer k (get_or bytes 1 0) bytes ≡ x)
    → read_list k bytes
    ≡ (provided (ltb (length bytes) 2) (Err (Truncated 0)) or_else provided (ltb 64 (get_or bytes 1 0)) (Err TooManyVertices) or_else x)
unfolding read_list
read_opened k bytes x f =
    cases _ (ltb 64 (get_or bytes 1 0)) (λ e. rw e)
    (λ e.
    ap (λ (y : Result SignedGraph Fault).
    provided (ltb (length bytes) 2) (Err (Truncated 0)) or_else provided (ltb 64 (get_or bytes 1 0)) (Err TooManyVertices) or_else y)
    (f (ltb-false 64 (get_or bytes 1 0) e)))
