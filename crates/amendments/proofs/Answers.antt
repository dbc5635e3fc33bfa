-- Behind its opening every amendment list closes or has a fault of the table, and decoding says which. Assumes nothing.
use Prim.Native.Nat.{ℕ, suc, ◌+◌, ◌≤◌, ◌<◌}
use native.Mathlib.Omega.{arith}
use native.Mathlib.Decide.{dec_lt}
use mathlib.Core.Path.{◌≡◌, refl, sym, ap, ap₂, ◌∙◌, subst}
use mathlib.Core.Logic.{◌≢◌}
use mathlib.Core.Bool.{Bool, true, false}
use mathlib.Core.List.Memᴰ
use mathlib.Core.List.{List, [], ◌∷◌, ◌++◌}
use lib.ListN.{length, get_or, length-append}
use Rattle.std.specs.Prelude.{Result, Ok, Err}
use Rattle.vertex_set.specs.Lists.{All, any}
use Rattle.vertex_set.specs.Sets.{mem}
use Rattle.vertex_set.proofs.Booleans.{clash}
use Rattle.vertex_set.proofs.Lists.{all_append, all_mem}
use Rattle.bit_matrix.specs.Matrices.{table_of}
use Rattle.signed_graph.specs.declared.SignedGraph.{SignedGraph}
use Rattle.signed_graph.specs.Graphs.{positive_edge, negative_edge}
use Rattle.signed_graph.proofs.Soundness.{Sound, to_sound, from_sound}
use Rattle.commands.specs.declared.Sign.{Sign}
use Rattle.commands.specs.declared.Sign.TheVariants.{Positive, Negative}
use Rattle.commands.specs.declared.Fault.{Fault}
use Rattle.commands.specs.declared.Fault.TheVariants.{NoOpening, TooManyVertices, UnknownCommand, Truncated, OutOfRange, Loop, Repeated, MaskedTwice, Unclosed, TrailingBytes}
use Rattle.commands.specs.declared.Step.{Step}
use Rattle.commands.specs.declared.Step.TheVariants as Step'
use Rattle.commands.specs.Entries.{earlier_of}
use Rattle.commands.specs.Faults.{fault_number}
use Rattle.commands.proofs.Reading as reading
use Rattle.commands.proofs.Graphs.{edge_as, table_given, masks_given, graph_sound, graph_is}
use Rattle.commands.proofs.Steps.{one, closed, fault_says, at_end}
use Rattle.amendments.specs.Amendments.{EdgeState, present, absent, Amendment, LastSays, state_by, state_in, state_of, is_present, amended_as, amended_mask, graph_of_amendments, Permitted, bytes_of_amendment, operands_of_amendment, amendment_bytes, amendment_list}
use Rattle.amendments.specs.Faults.{checked_as, AmendmentFaultAt}
use Rattle.amendments.specs.Acceptance.{AmendmentListOf}
use Rattle.amendments.specs.Decoding.{amendment_step, follow_amendment, amended_from, decoded_amendments}
use Rattle.amendments.proofs.Amendments.{last_state, state_last, length_of, past_command, amendments_written}
use Rattle.amendments.proofs.Steps.{Begins, MeansHere, amendment_means, amendment_read}
use Rattle.amendments.proofs.Graphs.{consistent, graph_again}
use Rattle.amendments.proofs.Decoding.{onward, next_command, onward_is}
use Rattle.amendments.proofs.Openings.{opened}

-- ---- decoding goes past commands up to the close or a fault

module _ (n : ℕ) where
  -- the commands of a list, and what is a fault behind them
  abbrev AllPermitted : List Amendment → Type 0
  AllPermitted cs = All (Permitted n) cs

  abbrev Faulty : List Amendment → List ℕ → ℕ → Fault → Type 0
  Faulty cs part at f = AmendmentFaultAt n part at f

  past_amendments : (more cs : List Amendment) (part : List ℕ) (at : ℕ) → All (Permitted n) (cs ++ more)
      → amended_from n cs 0 (amendment_bytes more ++ part) at ≡ amended_from n (cs ++ more) 0 part (at + length (amendment_bytes more))
  past_amendments =
      reading.past amendments_written AllPermitted (λ cs l at. amended_from n cs 0 l at) (λ cs c more l at ok.
      let room : suc (operands_of_amendment c) ≤ length (bytes_of_amendment c ++ l) = omega (arith, length-append (bytes_of_amendment c) l, length_of c) in
      next_command n cs (bytes_of_amendment c ++ l) at (omega arith)
      ∙ amendment_read n c l at cs (onward n cs (bytes_of_amendment c ++ l) at) (all_mem (Permitted n) c (cs ++ c ∷ more) ok (Memᴰ.append_right cs (Memᴰ.head refl)))
      ∙ onward_is n cs (bytes_of_amendment c ++ l) at c room
      ∙ ap (λ (x : List ℕ). amended_from n (cs ++ c ∷ []) 0 x (at + suc (operands_of_amendment c))) (past_command c l))

  pub at_close : (cs : List Amendment) (at : ℕ) → amended_from n cs 0 (0xff ∷ []) at ≡ Ok (graph_of_amendments n cs)
  at_close cs at =
      next_command n cs (0xff ∷ []) at (omega arith)
      ∙ ap (λ (x : Result Step Fault). follow_amendment x 0xff n cs (onward n cs (0xff ∷ []) at))
      (sym (closed (earlier_of []) n (0xff ∷ []) at refl (omega arith)))

  pub at_fault : (cs : List Amendment) (part : List ℕ) (at : ℕ) (f : Fault) → AmendmentFaultAt n part at f
      → amended_from n cs 0 part at ≡ Err f
  unfolding amended_from
  at_fault cs [] at f h = ap Err (at_end (earlier_of []) n at f h)
  at_fault cs (c ∷ part) at f h =
      ap (λ (x : Result Step Fault). follow_amendment x c n cs (onward n cs (c ∷ part) at))
      (sym (fault_says (earlier_of []) n (checked_as c ∷ part) at f (omega arith) h))

-- ---- every part closes behind some commands, or has a fault

-- where the list ends
ends : (n : ℕ) (part : List ℕ) (at : ℕ) → length part ≤ 0 → AmendmentFaultAt n part at (Unclosed at)
ends n [] at h = (refl, refl)
ends n (c ∷ part) at h = absurd (omega arith)

module _ (n : ℕ) where
  abbrev Turn : List Amendment → List ℕ → ℕ → Type 0
  Turn = reading.Turn amendments_written (AllPermitted n) (Faulty n)

  turn : (cs : List Amendment) (part : List ℕ) (at : ℕ) → All (Permitted n) cs → Turn cs part at
  turn cs part at ok = go (dec_lt 0 (length part))
    where
      command : (c : Amendment) → Begins n part c → Turn cs part at
      command c k = reading.gives c k.room k.spelled (all_append (Permitted n) cs (c ∷ []) ok (k.permitted, tt))

      step : (x : Result Step Fault) → MeansHere n part at x → 0 < length part → Turn cs part at
      step (Ok (Step'.Edge s a b)) k some = command _ k.1
      step (Ok (Step'.Mask a)) k some = command _ k
      step (Ok Step'.Close) k some = reading.closes (one part some k.1 ∙ ap (λ (x : ℕ). x ∷ []) k.0)
      step (Err f) k some = reading.fails f k

      go : Dec (0 < length part) → Turn cs part at
      go (yes x) = step (amendment_step n part at) (amendment_means n part at x) x
      go (no x) = reading.fails (Unclosed at) (ends n part at (omega arith))

  abbrev pub Ending : List Amendment → List ℕ → ℕ → Type 0
  Ending = reading.Ending amendments_written (AllPermitted n) (Faulty n)

  pub ending : (part : List ℕ) (at : ℕ) → Ending [] part at
  ending part at = reading.ending amendments_written (AllPermitted n) (Faulty n) turn (suc (length part)) part (omega arith) [] at tt

-- ---- what the graph of a list says, in words

state_is : (v : EdgeState) → state_by (is_present Positive v) (is_present Negative v) ≡ v
state_is (present Positive) = refl
state_is (present Negative) = refl
state_is absent = refl

module _ (n : ℕ) (cs : List Amendment) (small : n ≤ 64) (ok : All (Permitted n) cs) where
  abbrev g : SignedGraph
  g = graph_of_amendments n cs

  edge_amended : (s : Sign) (p q : ℕ) → mem q (get_or (table_of (amended_as s cs)) p 0) ≡ amended_as s cs p q
  edge_amended = table_given n (λ s. amended_as s cs) (amended_mask cs) (consistent n cs small ok)

  graph_says : (p q : ℕ) → state_of cs p q ≡ state_in g p q
  graph_says p q = sym (ap₂ state_by (edge_amended Positive p q) (edge_amended Negative p q) ∙ state_is (state_of cs p q))

  pub list_words : AmendmentListOf (amendment_list n cs) g
  list_words =
      record {
        amendments = cs;
        permitted = ok;
        spelled = refl;
        is_sound = from_sound g (graph_sound n (λ s. amended_as s cs) (amended_mask cs) (consistent n cs small ok));
        last = λ p q. subst (LastSays p q cs) (graph_says p q) (state_last p q cs);
        masks = masks_given n (λ s. amended_as s cs) (amended_mask cs) (consistent n cs small ok);
      }

-- ---- the words fix the graph

positive_state : (x y : Bool) → is_present Positive (state_by x y) ≡ x
positive_state true y = refl
positive_state false true = refl
positive_state false false = refl

negative_state : (x y : Bool) → (x ≡ true → y ≡ false) → is_present Negative (state_by x y) ≡ y
negative_state true y h = sym (h refl)
negative_state false true h = refl
negative_state false false h = refl

module _ {bytes : List ℕ} {g : SignedGraph} (w : AmendmentListOf bytes g) where
  so : Sound g
  so = to_sound g w.is_sound

  pub amended_small : g.n ≤ 64
  amended_small = so.small

  -- it has exactly the edges that stand
  pub amended_edge : (s : Sign) (p q : ℕ) → edge_as s g p q ≡ amended_as s w.amendments p q
  amended_edge s p q =
      sym (in_state s) ∙ ap (is_present s) (sym (last_state p q w.amendments (state_in g p q) (w.last p q)))
    where
      in_state : (s : Sign) → is_present s (state_in g p q) ≡ edge_as s g p q
      in_state Positive = positive_state (positive_edge g p q) (negative_edge g p q)
      in_state Negative = negative_state (positive_edge g p q) (negative_edge g p q) (so.apart p q)

  pub amended_graph : graph_of_amendments g.n w.amendments ≡ g
  amended_graph = graph_is g (λ s. amended_as s w.amendments) (amended_mask w.amendments) so amended_edge w.masks

-- ---- so decoding answers by the words

module _ (n : ℕ) (cs : List Amendment) (small : n ≤ 64) (ok : All (Permitted n) cs) where
  behind : (part : List ℕ) → decoded_amendments (0x11 ∷ n ∷ (amendment_bytes cs ++ part)) ≡ amended_from n cs 0 part (2 + length (amendment_bytes cs))
  behind part =
      sym (opened (0x11 ∷ n ∷ (amendment_bytes cs ++ part)) (omega arith) small) ∙ past_amendments n cs [] part 2 ok

  pub list_accepted : decoded_amendments (amendment_list n cs) ≡ Ok (graph_of_amendments n cs)
  list_accepted = behind (0xff ∷ []) ∙ at_close n cs (2 + length (amendment_bytes cs))

  pub list_refused : (part : List ℕ) (f : Fault) → AmendmentFaultAt n part (2 + length (amendment_bytes cs)) f
      → decoded_amendments (0x11 ∷ n ∷ (amendment_bytes cs ++ part)) ≡ Err f
  list_refused part f h = behind part ∙ at_fault n cs part (2 + length (amendment_bytes cs)) f h

pub words_accepted : (bytes : List ℕ) (g : SignedGraph) → AmendmentListOf bytes g → decoded_amendments bytes ≡ Ok g
words_accepted bytes g w =
    ap decoded_amendments w.spelled ∙ list_accepted g.n w.amendments (amended_small w) w.permitted ∙ ap Ok (amended_graph w)

-- ---- a command given again behind itself changes nothing

pub again_accepted : (n : ℕ) (cs : List Amendment) (c : Amendment) (ds : List Amendment) → n ≤ 64 → All (Permitted n) (cs ++ c ∷ ds)
    → decoded_amendments (amendment_list n (cs ++ c ∷ c ∷ ds)) ≡ decoded_amendments (amendment_list n (cs ++ c ∷ ds))
again_accepted n cs c ds small ok =
    list_accepted n (cs ++ c ∷ c ∷ ds) small (twice cs ok) ∙ ap Ok (graph_again n cs c ds) ∙ sym (list_accepted n (cs ++ c ∷ ds) small ok)
  where
    twice : (cs : List Amendment) → All (Permitted n) (cs ++ c ∷ ds) → All (Permitted n) (cs ++ c ∷ c ∷ ds)
    twice [] h = (h.0, h)
    twice (d ∷ cs) h = (h.0, twice cs h.1)

-- ---- 7 and 15 are not among the faults

pub nothing_again : (n : ℕ) (part : List ℕ) (at : ℕ) (f : Fault) → AmendmentFaultAt n part at f → (fault_number f ≢ 7) × (fault_number f ≢ 15)
unfolding any
nothing_again n part at (Repeated i) h = clash false h.5 refl
nothing_again n part at (MaskedTwice i) h = clash false h.3 refl
nothing_again n part at (UnknownCommand i) h = (λ e. omega arith, λ e. omega arith)
nothing_again n part at (Truncated i) h = (λ e. omega arith, λ e. omega arith)
nothing_again n part at (OutOfRange i) h = (λ e. omega arith, λ e. omega arith)
nothing_again n part at (Loop i) h = (λ e. omega arith, λ e. omega arith)
nothing_again n part at (Unclosed i) h = (λ e. omega arith, λ e. omega arith)
nothing_again n part at (TrailingBytes i) h = (λ e. omega arith, λ e. omega arith)
nothing_again n part at NoOpening h = absurd h
nothing_again n part at TooManyVertices h = absurd h
