-- Decoding an amendment list command by command, as the code goes. Assumes nothing.
use Prim.Native.Nat.{ℕ, zero, suc, ◌+◌, ◌≤◌, ◌<◌}
use native.Mathlib.Omega.{arith}
use mathlib.Core.Path.{◌≡◌, refl, sym, ap, ◌∙◌}
use mathlib.Core.List.{List, [], ◌∷◌, ◌++◌}
use lib.Dec.{eqb}
use lib.ListN.{length, get_or, drop, length-drop}
use Rattle.std.specs.Prelude.{Result, Ok, Err}
use Rattle.vertex_set.specs.Lists.{All}
use Rattle.vertex_set.proofs.Lists.{all_append}
use Rattle.signed_graph.specs.declared.SignedGraph.{SignedGraph}
use Rattle.signed_graph.specs.Graphs.{with_tables}
use Rattle.commands.specs.declared.Sign.{Sign}
use Rattle.commands.specs.declared.Sign.TheVariants.{Positive, Negative}
use Rattle.commands.specs.declared.Fault.{Fault}
use Rattle.commands.specs.declared.Step.{Step}
use Rattle.commands.specs.declared.Step.TheVariants.{Edge, Mask, Close}
use Rattle.commands.specs.Entries.{command_byte}
use Rattle.commands.specs.Tables.{put_edge}
use Rattle.commands.specs.ListKinds.{follow_step, read_from, read_list}
use Rattle.commands.proofs.Reading.{past_alike, behind_operands}
use Rattle.commands.proofs.ListKinds.{read_opened}
use Rattle.amendments.specs.Amendments.{Amendment, amend_edge, amend_mask, graph_of_amendments, Permitted, operands_of_amendment}
use Rattle.amendments.specs.AmendmentKind.{amend, amendment_kind}
use Rattle.amendments.specs.Decoding.{amendment_step, byte_state, follow_amendment, amended_from, decoded_amendments}
use Rattle.amendments.specs.Faults.{checked_as}
use Rattle.amendments.proofs.Steps.{positive_byte, negative_byte, Begins, MeansHere, amendment_means}
use Rattle.amendments.proofs.Graphs.{nothing_amended, edge_more, mask_more}

-- ---- one command

-- how decoding goes on behind a command
abbrev pub onward : ℕ → List Amendment → List ℕ → ℕ → Amendment → Result SignedGraph Fault
onward n cs part at c = amended_from n (cs ++ c ∷ []) (operands_of_amendment c) (drop 1 part) (suc at)

module _ (n : ℕ) (cs : List Amendment) (part : List ℕ) (at : ℕ) where
  pub next_command : 0 < length part
      → amended_from n cs 0 part at ≡ follow_amendment (amendment_step n part at) (get_or part 0 0) n cs (onward n cs part at)
  unfolding amended_from
  next_command h = due part h
    where
      due : (l : List ℕ) → 0 < length l
          → amended_from n cs 0 l at ≡ follow_amendment (amendment_step n l at) (get_or l 0 0) n cs (onward n cs l at)
      due [] h = absurd (omega arith)
      due (c ∷ rest) h = refl

  pub onward_is : (c : Amendment) → suc (operands_of_amendment c) ≤ length part
      → onward n cs part at c ≡ amended_from n (cs ++ c ∷ []) 0 (drop (suc (operands_of_amendment c)) part) (at + suc (operands_of_amendment c))
  unfolding amended_from
  onward_is c = behind_operands (amended_from n) (λ cs k x rest at. refl) (cs ++ c ∷ []) (operands_of_amendment c) part at

-- ---- as the code goes, with the graph

-- behind the command c: the amendments cs and the graph are read alike, where they are so behind an amendment more
module _ (n : ℕ) (small : n ≤ 64) (cs : List Amendment) (ok : All (Permitted n) cs) (c : ℕ) (rest : List ℕ) (at : ℕ)
    (shorter : (cs : List Amendment) (part : List ℕ) (at : ℕ) → length part ≤ length rest → All (Permitted n) cs
    → amended_from n cs 0 part at ≡ read_from amendment_kind n (graph_of_amendments n cs) 0 part at) where
  more : (y : Amendment) (graph : SignedGraph) → Begins n (c ∷ rest) y → graph ≡ graph_of_amendments n (cs ++ y ∷ [])
      → amended_from n (cs ++ y ∷ []) (operands_of_amendment y) rest (suc at)
      ≡ read_from amendment_kind n graph (operands_of_amendment y) rest (suc at)
  unfolding amended_from read_from
  more y graph begins is =
      past_alike (amended_from n) (λ cs k x rest at. refl) (read_from amendment_kind n) (λ g k x rest at. refl) (cs ++ y ∷ []) graph
      (operands_of_amendment y) rest (suc at) (omega (arith, begins.room))
      (rw is (shorter (cs ++ y ∷ []) _ _ (omega (arith, length-drop (operands_of_amendment y) rest))
      (all_append (Permitted n) cs (y ∷ []) ok (begins.permitted, tt))))

  read_behind : (x : Result Step Fault) → MeansHere n (c ∷ rest) at x
      → follow_amendment x c n cs (λ a. amended_from n (cs ++ a ∷ []) (operands_of_amendment a) rest (suc at))
      ≡ follow_step amendment_kind x c (graph_of_amendments n cs) (λ g k. read_from amendment_kind n g k rest (suc at))
  read_behind (Ok (Edge s a b)) k =
      more (amend_edge (byte_state c) a b) _ k.1
      (by_sign s k.0 ∙ edge_more n cs c a b (omega (arith, k.1.permitted.0)) (omega (arith, k.1.permitted.1)))
    where
      g : SignedGraph
      g = graph_of_amendments n cs

      -- both tables say what the byte says
      by_sign : (s : Sign) → checked_as c ≡ command_byte s
          → amend c s a b g ≡ with_tables g (put_edge (eqb c 0x21) g.positive a b) (put_edge (eqb c 0x22) g.negative a b)
      by_sign Positive e = rw (positive_byte c e)
      by_sign Negative e = let is : c ≡ 0x22 = negative_byte c e in rw is
  read_behind (Ok (Mask a)) k = more (amend_mask a) _ k (mask_more n cs a (omega (arith, k.permitted)))
  read_behind (Ok Close) k = refl
  read_behind (Err f) k = refl

read_alike : (n : ℕ) → n ≤ 64 → (m : ℕ) (cs : List Amendment) (part : List ℕ) (at : ℕ) → length part < m → All (Permitted n) cs
    → amended_from n cs 0 part at ≡ read_from amendment_kind n (graph_of_amendments n cs) 0 part at
unfolding amended_from read_from
read_alike n small zero cs part at h ok = absurd (omega arith)
read_alike n small (suc m) cs [] at h ok = refl
read_alike n small (suc m) cs (c ∷ rest) at h ok =
    read_behind n small cs ok c rest at (λ ds part i k. read_alike n small m ds part i (omega arith)) (amendment_step n (c ∷ rest) at)
    (amendment_means n (c ∷ rest) at (omega arith))

-- a whole list
pub read_amendments : (bytes : List ℕ) → read_list amendment_kind bytes ≡ decoded_amendments bytes
unfolding decoded_amendments
read_amendments bytes =
    read_opened amendment_kind bytes _ (λ small.
    ap (λ (g : SignedGraph). read_from amendment_kind n g 0 (drop 2 bytes) 2) (nothing_amended n small)
    ∙ sym (read_alike n small (suc (length (drop 2 bytes))) [] (drop 2 bytes) 2 (omega arith) tt))
  where
    n : ℕ
    n = get_or bytes 1 0
