-- What is printed for document 01's sample, also with a vertex masked and as an amendment list, and for inputs that are refused, byte
-- for byte.
-- Assumes nothing.
use Prim.Native.Nat.{ℕ, ◌≤◌}
use native.Mathlib.Omega.{arith}
use mathlib.Core.Path.{◌≡◌, refl, ap, ap₂, ◌∙◌}
use mathlib.Core.List.{List, [], ◌∷◌, ◌++◌, map}
use lib.ListN.{length}
use borrow.Author.Tests.{le-leb}
use Rattle.vertex_set.specs.Lists.{any}
use Rattle.vertex_set.specs.Ranges as R
use Rattle.vertex_set.specs.Sets as S
use Rattle.signed_graph.specs.declared.SignedGraph.{SignedGraph}
use Rattle.signed_graph.specs.Graphs.{edgeless}
use Rattle.signed_graph.specs.Samples.{sample_a, masked_a}
use Rattle.signed_graph.specs.Calls.{Check, check_by}
use Rattle.clique.specs.Balance.{left, right}
use Rattle.clique.specs.Listing.{Item, item_of, listing}
use Rattle.clique.proofs.Cases.{cases_groups}
use Rattle.largest.specs.Largest.{largest_of, largest_or_none, largest_group_by}
use Rattle.edge_list.specs.Acceptance.{ListOf}
use Rattle.commands.specs.Steps.{command_step, step_by, edge_step, mask_step, command_of}
use Rattle.edge_list.specs.Decoding.{decoded, decoded_edges, decoded_from}
use Rattle.edge_list.proofs.Answers.{accepted_words, accepted_sound}
use Rattle.edge_list.proofs.Cases.{list_a, list_masked_a, list_amended_a, list_t2, decodes}
use Rattle.std.specs.Fmt.{digits}
use Rattle.report.specs.Lines.{
  preceded,
  spaced,
  line_of,
  vertex_words,
  group_words,
  group_line,
  largest_line,
  none_line,
  count_line,
  refusal_line,
  fault_line,
  line_text,
}
use Rattle.output.specs.Output.{groups_text, line_of_largest, printed}
use Rattle.output.proofs.Printed.{threshold_printed, groups_printed}

-- the lines that document 01 prints for A and k = 1:
-- 0 1 | 2 3
-- 0 4 | 2
-- biggest 0 1 | 2 3
-- groups 2
abbrev pub lines_a : List ℕ
lines_a =
    0x30 ∷ 0x20 ∷ 0x31 ∷ 0x20 ∷ 0x7c ∷ 0x20 ∷ 0x32 ∷ 0x20 ∷ 0x33 ∷ 0x0a ∷
    0x30 ∷ 0x20 ∷ 0x34 ∷ 0x20 ∷ 0x7c ∷ 0x20 ∷ 0x32 ∷ 0x0a ∷
    0x62 ∷ 0x69 ∷ 0x67 ∷ 0x67 ∷ 0x65 ∷ 0x73 ∷ 0x74 ∷ 0x20 ∷ 0x30 ∷ 0x20 ∷ 0x31 ∷ 0x20 ∷ 0x7c ∷ 0x20 ∷ 0x32 ∷ 0x20 ∷ 0x33 ∷ 0x0a ∷
    0x67 ∷ 0x72 ∷ 0x6f ∷ 0x75 ∷ 0x70 ∷ 0x73 ∷ 0x20 ∷ 0x32 ∷ 0x0a ∷ []

-- for A with its vertex 4 masked:
-- 0 1 | 2 3
-- biggest 0 1 | 2 3
-- groups 1
abbrev lines_masked_a : List ℕ
lines_masked_a =
    0x30 ∷ 0x20 ∷ 0x31 ∷ 0x20 ∷ 0x7c ∷ 0x20 ∷ 0x32 ∷ 0x20 ∷ 0x33 ∷ 0x0a ∷
    0x62 ∷ 0x69 ∷ 0x67 ∷ 0x67 ∷ 0x65 ∷ 0x73 ∷ 0x74 ∷ 0x20 ∷ 0x30 ∷ 0x20 ∷ 0x31 ∷ 0x20 ∷ 0x7c ∷ 0x20 ∷ 0x32 ∷ 0x20 ∷ 0x33 ∷ 0x0a ∷
    0x67 ∷ 0x72 ∷ 0x6f ∷ 0x75 ∷ 0x70 ∷ 0x73 ∷ 0x20 ∷ 0x31 ∷ 0x0a ∷ []

-- and where there is no group:
-- biggest none
-- groups 0
abbrev pub lines_none : List ℕ
lines_none =
    0x62 ∷ 0x69 ∷ 0x67 ∷ 0x67 ∷ 0x65 ∷ 0x73 ∷ 0x74 ∷ 0x20 ∷ 0x6e ∷ 0x6f ∷ 0x6e ∷ 0x65 ∷ 0x0a ∷
    0x67 ∷ 0x72 ∷ 0x6f ∷ 0x75 ∷ 0x70 ∷ 0x73 ∷ 0x20 ∷ 0x30 ∷ 0x0a ∷ []

pub record Outputs : Type 0 where
  -- the byte 00 and the list of a lone vertex
  pub T2 : printed (0x00 ∷ list_t2) ≡ lines_none
  -- the byte 01 and the list of A
  pub T5 : printed (0x01 ∷ list_a) ≡ lines_a
  -- the byte 01 and the list of A with vertex 4 masked
  pub masked : printed (0x01 ∷ list_masked_a) ≡ lines_masked_a
  -- the byte 01 and an amendment list of A
  pub amended : printed (0x01 ∷ list_amended_a) ≡ lines_a
  -- the byte 03 and the list of A
  pub T7 : printed (0x03 ∷ list_a) ≡ lines_none
  -- empty input: `refused 1 at 0`
  pub empty : printed []
      ≡ 0x72 ∷ 0x65 ∷ 0x66 ∷ 0x75 ∷ 0x73 ∷ 0x65 ∷ 0x64 ∷ 0x20 ∷ 0x31 ∷ 0x20 ∷ 0x61 ∷ 0x74 ∷ 0x20 ∷ 0x30 ∷ 0x0a ∷ []
  -- the threshold 33 and the list of A: `refused 11`
  pub threshold_33 : printed (0x21 ∷ list_a) ≡ 0x72 ∷ 0x65 ∷ 0x66 ∷ 0x75 ∷ 0x73 ∷ 0x65 ∷ 0x64 ∷ 0x20 ∷ 0x31 ∷ 0x31 ∷ 0x0a ∷ []
  -- the threshold 33 and a list that is refused: `refused 8 at 5`
  pub list_first : printed (0x21 ∷ 0x10 ∷ 0x02 ∷ 0x21 ∷ 0x00 ∷ 0x01 ∷ [])
      ≡ 0x72 ∷ 0x65 ∷ 0x66 ∷ 0x75 ∷ 0x73 ∷ 0x65 ∷ 0x64 ∷ 0x20 ∷ 0x38 ∷ 0x20 ∷ 0x61 ∷ 0x74 ∷ 0x20 ∷ 0x35 ∷ 0x0a ∷ []
  -- a vertex masked twice: `refused 15 at 4`
  pub masked_twice : printed (0x01 ∷ 0x10 ∷ 0x02 ∷ 0x23 ∷ 0x01 ∷ 0x23 ∷ 0x01 ∷ 0xff ∷ [])
      ≡ 0x72 ∷ 0x65 ∷ 0x66 ∷ 0x75 ∷ 0x73 ∷ 0x65 ∷ 0x64 ∷ 0x20 ∷ 0x31 ∷ 0x35 ∷ 0x20 ∷ 0x61 ∷ 0x74 ∷ 0x20 ∷ 0x34 ∷ 0x0a ∷ []

-- ---- the lists that are accepted

list_A : ListOf list_a sample_a
list_A = accepted_words list_a sample_a decodes.A

list_masked : ListOf list_masked_a (masked_a 16)
list_masked = accepted_words list_masked_a (masked_a 16) decodes.A-masked

list_amended : ListOf list_amended_a sample_a
list_amended = accepted_words list_amended_a sample_a decodes.A-amended

list_T2 : ListOf list_t2 (edgeless 1)
list_T2 = accepted_words list_t2 (edgeless 1) decodes.T2

-- what is printed for such a list, by the listing of its graph
listed : {list : List ℕ} {g : SignedGraph} → ListOf list g → (k : ℕ) (l : List Item) → k ≤ 32 → listing g k ≡ l
    → printed (k ∷ list) ≡ groups_text l ++ (line_text (line_of_largest (largest_or_none (largest_of l))) ++ count_line (length l))
listed {list} {g} w k l h e =
    groups_printed k list g w h
    ∙ ap₂ (λ (c : Check) (x : List Item). groups_text x ++ (line_text (line_of_largest (largest_group_by c (largest_of x))) ++ count_line (length x)))
    (ap₂ check_by (accepted_sound w) (le-leb k 32 h)) e

pub cases_outputs : Outputs
unfolding decoded decoded_edges decoded_from command_step step_by edge_step mask_step command_of any listing left right groups_text largest_of printed R.gather R.seek R.count S.mem S.collect S.lowest S.size S.over_members digits preceded spaced line_of vertex_words group_words group_line largest_line none_line count_line refusal_line fault_line
cases_outputs =
    record {
      T2 = listed list_T2 0 _ (omega arith) (ap (map (item_of (edgeless 1))) (cases_groups.T2 0));
      T5 = listed list_A 1 _ (omega arith) (ap (map (item_of sample_a)) cases_groups.T5);
      masked = listed list_masked 1 _ (omega arith) (ap (map (item_of (masked_a 16))) cases_groups.masked_4);
      amended = listed list_amended 1 _ (omega arith) (ap (map (item_of sample_a)) cases_groups.T5);
      T7 = listed list_A 3 _ (omega arith) (ap (map (item_of sample_a)) cases_groups.T7);
      empty = refl;
      threshold_33 = threshold_printed 33 list_a sample_a list_A (omega arith);
      list_first = refl;
      masked_twice = refl;
    }
