-- Document 01's cases T1 to T12 and its three buffers, by the definitions that the calls answer by, in one theorem; T2 as
-- document 02 has it. Assumes nothing.
use Prim.Native.Nat.{ℕ, ◌/◌, ◌≤◌, min}
use native.Mathlib.Nat.{min-zero}
use native.Mathlib.Omega.{arith}
use mathlib.Core.Path.{◌≡◌, refl, ap, ap₂, ◌∙◌}
use mathlib.Core.Bool.{true}
use mathlib.Core.List.{List, [], ◌∷◌, ◌++◌, map}
use lib.ListN.{length, drop_of_length-le}
use borrow.Author.Tests.{le-leb}
use Rattle.std.specs.Prelude.{Result, Ok, Err}
use Rattle.vertex_set.specs.declared.Sides.{Sides}
use Rattle.vertex_set.specs.Lists.{select}
use Rattle.vertex_set.specs.Ranges as R
use Rattle.vertex_set.specs.Sets as S
use Rattle.signed_graph.specs.declared.SignedGraph.{SignedGraph}
use Rattle.signed_graph.specs.declared.Refusal.{Refusal}
use Rattle.signed_graph.specs.Graphs.{edgeless, edge_count}
use Rattle.signed_graph.specs.Samples.{triangle, chain, sample_a}
use Rattle.signed_graph.specs.Soundness.{sound, has_all_rows, loopless, symmetric, confined, unambiguous, masks_below}
use Rattle.signed_graph.specs.Calls.{Check, passed, check_by, check_of, answer_number}
use Rattle.clique.specs.declared.Verdict.TheVariants.{Alone, MissingEdge, Unbalanced, TooSmall, Extensible}
use Rattle.clique.specs.Balance.{left, right}
use Rattle.vertex_set.specs.Order.{difference, precedes}
use Rattle.clique.specs.Verdicts as verdicts
use Rattle.clique.specs.Verdicts.{classified}
use Rattle.clique.proofs.Cases.{set, samples_sound, cases_groups, cases_verdicts}
use Rattle.reduction.specs.Reductions.{reduced, reduced_left, looks_left}
use Rattle.reduction.proofs.Cases as reduction
use Rattle.edge_list.specs.Decoding.{decoded}
use Rattle.edge_list.proofs.Cases.{list_a, turned_a, list_t2, list_t3, list_t4, decodes}
use Rattle.canonical.specs.Canonical.{canonical}
use Rattle.canonical.proofs.Cases.{writes_A}
use Rattle.pages.specs.declared.Bookmark.TheVariants.{Start, After}
use Rattle.pages.specs.declared.End.TheVariants.{Finished}
use Rattle.signed_graph.specs.declared.Refusal.TheVariants.{NoGroup}
use Rattle.clique.specs.Listing.{Item, item_of, listing, item_set}
use Rattle.words.specs.Words.{word_bytes}
use Rattle.group_pages.specs.Records.{record_width, sides_record, record_of}
use Rattle.pages.specs.Pages.{due, next_mark, records, answer, filled, page_by, bytes_by}
use Rattle.group_pages.specs.Calls.{due_groups, page_of, page_bytes}
use Rattle.largest.specs.Largest.{largest_of, largest_group_by, largest_group}
use Rattle.output.specs.Output.{printed}
use Rattle.output.proofs.Cases.{lines_a, lines_none, cases_outputs}

-- a group by its left and its right vertices
abbrev group : List ℕ → List ℕ → Item
group l r = record { vertices = set (l ++ r); left = set l; right = set r }

pub record Cases : Type 0 where
  -- the edge list of A decodes to A, turned round too, and is its canonical form
  pub A : decoded list_a ≡ Ok sample_a
  pub A-turned : decoded turned_a ≡ Ok sample_a
  pub A-written : canonical sample_a ≡ list_a
  -- no vertices: no group, the largest call returns 12, and the first page is the last
  pub T1 : (k : ℕ) → listing (edgeless 0) k ≡ []
  pub T1-largest : (k : ℕ) → k ≤ 32 → largest_group (edgeless 0) k ≡ Err NoGroup
  pub T1-12 : (k : ℕ) → k ≤ 32 → answer_number (largest_group (edgeless 0) k) ≡ 12
  pub T1-page : (k : ℕ) → k ≤ 32 → (room : ℕ)
      → page_of (edgeless 0) k Start room ≡ record { outcome = passed; count = 0; next = Start; end = Finished }
  -- one vertex: no group for any k, 0 among them, the largest call returns 12, the verdict is alone, and no line has the vertex
  pub T2-list : decoded list_t2 ≡ Ok (edgeless 1)
  pub T2 : (k : ℕ) → listing (edgeless 1) k ≡ []
  pub T2-largest : (k : ℕ) → k ≤ 32 → largest_group (edgeless 1) k ≡ Err NoGroup
  pub T2-12 : (k : ℕ) → k ≤ 32 → answer_number (largest_group (edgeless 1) k) ≡ 12
  pub T2-alone : (k : ℕ) → k ≤ 32 → classified (edgeless 1) k (set (0 ∷ [])) ≡ Ok Alone
  pub T2-printed : printed (0 ∷ list_t2) ≡ lines_none
  -- three vertices, all edges negative: each two of them
  pub T3-list : decoded list_t3 ≡ Ok triangle
  pub T3 : listing triangle 1 ≡ group (0 ∷ []) (1 ∷ []) ∷ group (0 ∷ []) (2 ∷ []) ∷ group (1 ∷ []) (2 ∷ []) ∷ []
  -- the positive edges 0,1 and 1,2: each of them, since 0 and 2 have no edge
  pub T4-list : decoded list_t4 ≡ Ok chain
  pub T4 : listing chain 0 ≡ group (0 ∷ 1 ∷ []) [] ∷ group (1 ∷ 2 ∷ []) [] ∷ []
  -- A at k = 1: two groups, the first of them the largest; and the four lines that the program prints
  pub T5 : listing sample_a 1 ≡ group (0 ∷ 1 ∷ []) (2 ∷ 3 ∷ []) ∷ group (0 ∷ 4 ∷ []) (2 ∷ []) ∷ []
  pub T5-printed : printed (1 ∷ list_a) ≡ lines_a
  pub T5-largest : largest_group sample_a 1 ≡ Ok (record { left = set (0 ∷ 1 ∷ []); right = set (2 ∷ 3 ∷ []) })
  -- A at k = 2: the larger alone; reduced for 2, with 21 looks, it has 6 edges, reduced for 1 all 8
  pub T6 : listing sample_a 2 ≡ group (0 ∷ 1 ∷ []) (2 ∷ 3 ∷ []) ∷ []
  pub T6-edges : edge_count (reduced_left (reduced sample_a 2)) ≡ 6
  pub T6-looks : looks_left (reduced sample_a 2) ≡ 21
  pub T6-at-1-edges : edge_count (reduced_left (reduced sample_a 1)) ≡ 8
  -- A at k = 3: no group
  pub T7 : listing sample_a 3 ≡ []
  -- what sets are: 1 and 4 have no edge
  pub T8 : classified sample_a 1 (set (0 ∷ 1 ∷ 4 ∷ [])) ≡ Ok (MissingEdge 1 4)
  -- 1 can be added
  pub T9 : classified sample_a 1 (set (0 ∷ 2 ∷ [])) ≡ Ok (Extensible 1)
  -- three negative edges
  pub T10 : classified triangle 1 (set (0 ∷ 1 ∷ 2 ∷ [])) ≡ Ok (Unbalanced 0 1 2)
  -- the right side has one vertex only
  pub T11 : classified sample_a 2 (set (0 ∷ 2 ∷ 4 ∷ [])) ≡ Ok (TooSmall 2 1)
  -- a page of one record behind the first group of A, whatever the buffer held: the second group, and it is the last
  pub T12 : page_of sample_a 1 (After (set (0 ∷ 1 ∷ 2 ∷ 3 ∷ []))) 16
      ≡ record { outcome = passed; count = 1; next = After (set (0 ∷ 2 ∷ 4 ∷ [])); end = Finished }
  pub T12-bytes : (buffer : List ℕ) → length buffer ≡ 16
      → page_bytes sample_a 1 (After (set (0 ∷ 1 ∷ 2 ∷ 3 ∷ []))) buffer
      ≡ 17 ∷ 0 ∷ 0 ∷ 0 ∷ 0 ∷ 0 ∷ 0 ∷ 0 ∷ 4 ∷ 0 ∷ 0 ∷ 0 ∷ 0 ∷ 0 ∷ 0 ∷ 0 ∷ []
  -- records go in whole
  pub bytes_31 : (page_of sample_a 1 Start 31).count ≡ 1
  pub bytes_32 : (page_of sample_a 1 Start 32).count ≡ 2
  pub bytes_15 : (page_of sample_a 1 Start 15).count ≡ 0

-- ---- the graphs are sound

check_of_law : (g : SignedGraph) (k : ℕ) → sound g ≡ true → k ≤ 32 → check_of g k ≡ passed
check_of_law g k e h = ap₂ check_by e (le-leb k 32 h)

sound_0 : sound (edgeless 0) ≡ true
unfolding edgeless sound has_all_rows loopless symmetric confined unambiguous masks_below R.all S.mem
sound_0 = refl

sound_1 : sound (edgeless 1) ≡ true
unfolding edgeless sound has_all_rows loopless symmetric confined unambiguous masks_below R.all S.mem
sound_1 = refl

-- ---- their listings

at_T1 : (k : ℕ) → listing (edgeless 0) k ≡ []
unfolding listing
at_T1 k = ap (map (item_of (edgeless 0))) (cases_groups.T1 k)

at_T2 : (k : ℕ) → listing (edgeless 1) k ≡ []
unfolding listing
at_T2 k = ap (map (item_of (edgeless 1))) (cases_groups.T2 k)

at_T5 : listing sample_a 1 ≡ group (0 ∷ 1 ∷ []) (2 ∷ 3 ∷ []) ∷ group (0 ∷ 4 ∷ []) (2 ∷ []) ∷ []
unfolding listing left right R.seek S.mem S.collect S.lowest
at_T5 = ap (map (item_of sample_a)) cases_groups.T5

-- ---- the calls on them

none_largest : (g : SignedGraph) (k : ℕ) → sound g ≡ true → listing g k ≡ [] → k ≤ 32
    → largest_group g k ≡ Err NoGroup
unfolding largest_of
none_largest g k e none h = ap₂ (λ (c : Check) (l : List Item). largest_group_by c (largest_of l)) (check_of_law g k e h) none

at_T1_largest : (k : ℕ) → k ≤ 32 → largest_group (edgeless 0) k ≡ Err NoGroup
at_T1_largest k = none_largest (edgeless 0) k sound_0 (at_T1 k)

at_T2_largest : (k : ℕ) → k ≤ 32 → largest_group (edgeless 1) k ≡ Err NoGroup
at_T2_largest k = none_largest (edgeless 1) k sound_1 (at_T2 k)

at_T1_page : (k : ℕ) → k ≤ 32 → (room : ℕ)
    → page_of (edgeless 0) k Start room ≡ record { outcome = passed; count = 0; next = Start; end = Finished }
unfolding answer due next_mark
at_T1_page k h room =
    ap₂ (λ (c : Check) (l : List Item). page_by item_set record_width c Start room (due item_set Start l)) (check_of_law (edgeless 0) k sound_0 h) (at_T1 k)
    ∙ rw min-zero

check_A : check_of sample_a 1 ≡ passed
check_A = check_of_law sample_a 1 samples_sound.sound_A (omega arith)

at_T5_largest : largest_group sample_a 1 ≡ Ok (record { left = 3; right = 12 })
unfolding largest_of S.size R.count S.mem
at_T5_largest = ap₂ (λ (c : Check) (l : List Item). largest_group_by c (largest_of l)) check_A at_T5

due_T12 : due_groups sample_a 1 (After 15) ≡ group (0 ∷ 4 ∷ []) (2 ∷ []) ∷ []
unfolding due select precedes difference S.lowest S.mem R.seek
due_T12 = ap (due item_set (After 15)) at_T5

at_T12 : page_of sample_a 1 (After 15) 16 ≡ record { outcome = passed; count = 1; next = After 21; end = Finished }
unfolding answer next_mark
at_T12 = ap₂ (λ (c : Check) (l : List Item). page_by item_set record_width c (After 15) 16 l) check_A due_T12

bytes_T12 : (buffer : List ℕ) → length buffer ≡ 16
    → page_bytes sample_a 1 (After 15) buffer ≡ 17 ∷ 0 ∷ 0 ∷ 0 ∷ 0 ∷ 0 ∷ 0 ∷ 0 ∷ 4 ∷ 0 ∷ 0 ∷ 0 ∷ 0 ∷ 0 ∷ 0 ∷ 0 ∷ []
unfolding filled records sides_record word_bytes
bytes_T12 buffer h =
    ap₂ (λ (c : Check) (l : List Item). bytes_by record_of record_width c l buffer) check_A due_T12
    ∙ rw (h, drop_of_length-le buffer {i = 16} (omega (arith, h)))

-- how many records a buffer of so many bytes takes
taken : (room : ℕ) → (page_of sample_a 1 Start room).count ≡ min (room / 16) 2
unfolding answer due
taken room = ap₂ (λ (c : Check) (l : List Item). (page_by item_set record_width c Start room (due item_set Start l)).count) check_A at_T5

pub cases : Cases
unfolding listing left right R.seek S.mem S.collect S.lowest
cases =
    record {
      A = decodes.A;
      A-turned = decodes.A-turned;
      A-written = writes_A;
      T1 = at_T1;
      T1-largest = at_T1_largest;
      T1-12 = λ k h. ap (λ (r : Result Sides Refusal). answer_number r) (at_T1_largest k h);
      T1-page = at_T1_page;
      T2-list = decodes.T2;
      T2 = at_T2;
      T2-largest = at_T2_largest;
      T2-12 = λ k h. ap (λ (r : Result Sides Refusal). answer_number r) (at_T2_largest k h);
      T2-alone = λ k h. ap₂ verdicts.classified_by (check_of_law (edgeless 1) k sound_1 h) (cases_verdicts.T2-alone k);
      T2-printed = cases_outputs.T2;
      T3-list = decodes.T3;
      T3 = ap (map (item_of triangle)) cases_groups.T3;
      T4-list = decodes.T4;
      T4 = ap (map (item_of chain)) cases_groups.T4;
      T5 = at_T5;
      T5-printed = cases_outputs.T5;
      T5-largest = at_T5_largest;
      T6 = ap (map (item_of sample_a)) (reduction.cases_groups).T6;
      T6-edges = (reduction.cases_reductions).T6-edges;
      T6-looks = (reduction.cases_reductions).T6-looks;
      T6-at-1-edges = (reduction.cases_reductions).T6-at-1-edges;
      T7 = ap (map (item_of sample_a)) cases_groups.T7;
      T8 = ap₂ verdicts.classified_by check_A cases_verdicts.T8;
      T9 = ap₂ verdicts.classified_by check_A cases_verdicts.T9;
      T10 = ap₂ verdicts.classified_by (check_of_law triangle 1 samples_sound.sound_triangle (omega arith)) cases_verdicts.T10;
      T11 = ap₂ verdicts.classified_by (check_of_law sample_a 2 samples_sound.sound_A (omega arith)) cases_verdicts.T11;
      T12 = at_T12;
      T12-bytes = bytes_T12;
      bytes_31 = taken 31;
      bytes_32 = taken 32;
      bytes_15 = taken 15;
    }
