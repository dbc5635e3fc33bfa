-- Behind its opening every edge list closes or has a fault of the table, and decoding says which. Assumes nothing.
use Prim.Native.Nat.{ℕ, suc, ◌+◌, ◌<◌}
use native.Mathlib.Omega.{arith}
use native.Mathlib.Decide.{dec_lt}
use mathlib.Core.Path.{◌≡◌, refl, sym, ap, ◌∙◌}
use mathlib.Core.Bool.{true}
use mathlib.Core.List.{List, [], ◌∷◌, ◌++◌}
use lib.ListN.{length, length-append}
use Rattle.std.specs.Prelude.{Result, Ok, Err}
use Rattle.commands.specs.declared.Fault.{Fault}
use Rattle.commands.specs.declared.Fault.TheVariants.{Unclosed}
use Rattle.commands.specs.declared.Step.{Step}
use Rattle.commands.specs.declared.Step.TheVariants as Step'
use Rattle.commands.specs.Entries.{Entry, link, mask, earlier_of, proper, graph_of_entries, bytes_of, operands_of, entry_bytes}
use Rattle.commands.specs.Faults.{FaultAt}
use Rattle.commands.specs.Steps.{command_step}
use Rattle.commands.proofs.Entries.{proper_snoc, proper_at, length_of, past_command, entries_written}
use Rattle.commands.proofs.Steps.{one, fresh_of, Given, Means, step_means, step_of_law, closed, fault_says, at_end}
use Rattle.commands.proofs.Reading as reading
use Rattle.edge_list.specs.Decoding.{decoded_from}
use Rattle.edge_list.proofs.Decoding.{next_command, after_entry}

module _ (n : ℕ) where
  -- the entries of a list, and what is a fault behind them
  abbrev Proper : List Entry → Type 0
  Proper es = proper n es ≡ true

  abbrev Faulty : List Entry → List ℕ → ℕ → Fault → Type 0
  Faulty es part at f = FaultAt (earlier_of es) n part at f

  -- ---- decoding goes past entries up to the close or a fault

  pub past_entries : (more es : List Entry) (part : List ℕ) (at : ℕ) → proper n (es ++ more) ≡ true
      → decoded_from n es 0 (entry_bytes more ++ part) at ≡ decoded_from n (es ++ more) 0 part (at + length (entry_bytes more))
  past_entries =
      reading.past entries_written Proper (λ es l at. decoded_from n es 0 l at) (λ es e more l at ok.
      after_entry n es (bytes_of e ++ l) at e (omega (arith, length-append (bytes_of e) l, length_of e)) (step_of_law n es e l at (proper_at n e es more ok))
      ∙ ap (λ (x : List ℕ). decoded_from n (es ++ e ∷ []) 0 x (at + suc (operands_of e))) (past_command e l))

  pub at_close : (es : List Entry) (at : ℕ) → decoded_from n es 0 (0xff ∷ []) at ≡ Ok (graph_of_entries n es)
  at_close es at = next_command n es (0xff ∷ []) at (omega arith) (sym (closed (earlier_of es) n (0xff ∷ []) at refl (omega arith)))

  pub at_fault : (es : List Entry) (part : List ℕ) (at : ℕ) (f : Fault) → FaultAt (earlier_of es) n part at f
      → decoded_from n es 0 part at ≡ Err f
  unfolding decoded_from
  at_fault es [] at f h = ap Err (at_end (earlier_of es) n at f h)
  at_fault es (c ∷ part) at f h =
      next_command n es (c ∷ part) at (omega arith) (sym (fault_says (earlier_of es) n (c ∷ part) at f (omega arith) h))

  -- ---- every part closes behind some entries, or has a fault

  abbrev Turn : List Entry → List ℕ → ℕ → Type 0
  Turn = reading.Turn entries_written Proper Faulty

  turn : (es : List Entry) (part : List ℕ) (at : ℕ) → proper n es ≡ true → Turn es part at
  turn es part at ok = go (dec_lt 0 (length part))
    where
      entry : (e : Entry) → Given (earlier_of es) n part e → Turn es part at
      entry e k = reading.gives e k.room k.spelled (proper_snoc n e es ok (fresh_of es e k.allowed k.new))

      step : (x : Result Step Fault) → Means (earlier_of es) n part at x → 0 < length part → Turn es part at
      step (Ok (Step'.Edge s a b)) k some = entry (link s a b) k
      step (Ok (Step'.Mask a)) k some = entry (mask a) k
      step (Ok Step'.Close) k some = reading.closes (one part some k.1 ∙ ap (λ (x : ℕ). x ∷ []) k.0)
      step (Err f) k some = reading.fails f k

      go : Dec (0 < length part) → Turn es part at
      go (yes x) = step (command_step (earlier_of es) n part at) (step_means (earlier_of es) n part at x) x
      go (no x) = reading.fails (Unclosed at) (refl, omega arith)

  abbrev pub Ending : List Entry → List ℕ → ℕ → Type 0
  Ending = reading.Ending entries_written Proper Faulty

  pub ending : (part : List ℕ) (at : ℕ) → proper n [] ≡ true → Ending [] part at
  ending part = reading.ending entries_written Proper Faulty turn (suc (length part)) part (omega arith) []
