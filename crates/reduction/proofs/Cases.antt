-- Document 01's case T6, which computes: A reduced for 2 keeps 6 edges in 21 looks, and for 1 all 8; its group. A with masked vertices
-- (document 02, S-4). Assumes nothing.
use Prim.Native.Nat.{ℕ, ◌+◌, ◌^◌, ◌≤◌, ◌<◌}
use native.Mathlib.Omega.{arith}
use mathlib.Core.Path.{◌≡◌, refl, sym, ap, ap₂, ◌∙◌}
use mathlib.Core.Bool.{Bool}
use mathlib.Core.List.{[], ◌∷◌}
use lib.ListN.{replicate}
use borrow.Author.Tests.{le-leb}
use Rattle.vertex_set.specs.Lists.{select}
use Rattle.vertex_set.specs.Ranges as R
use Rattle.vertex_set.specs.Sets as S
use Rattle.bit_matrix.specs.Matrices.{table_of}
use Rattle.signed_graph.specs.declared.SignedGraph.{SignedGraph}
use Rattle.std.specs.Prelude.{Result, Ok}
use Rattle.signed_graph.specs.declared.Refusal.{Refusal}
use Rattle.signed_graph.specs.Graphs.{vertices, edge_count, with_tables}
use Rattle.signed_graph.specs.Samples.{sample_a, masked_a}
use Rattle.signed_graph.specs.Soundness.{sound, has_all_rows, loopless, symmetric, confined, unambiguous, masks_below}
use Rattle.signed_graph.specs.Calls.{passed, check_by}
use Rattle.signed_graph.proofs.Soundness.{Sound, to_sound, from_sound}
use Rattle.clique.specs.Balance.{balanced, all_agree, left, right}
use Rattle.clique.specs.Groups.{floor, extension, is_group, groups}
use Rattle.vertex_set.specs.Order.{choices, subsets}
use Rattle.clique.proofs.Cases.{set}
use Rattle.reduction.specs.declared.Reduced.{Reduced}
use Rattle.reduction.specs.Collections.{all_edges, at_least, vertex_fits, positive_fits, negative_fits}
use Rattle.reduction.specs.Reductions.{unmasked, round, fallen, edges_at, looks_at, reduced_graph, looks, reduced_by, reduced, reduced_left, looks_left}
use Rattle.reduction.proofs.Reductions.{zero_fits}
use Rattle.reduction.proofs.Masking.{unmasked_none}
use Rattle.reduction.proofs.Looks.{none_looked, none_dropped}
use Rattle.reduction.proofs.Reaching.{Reached, reached_first, reached_sound, reached_next, reached_graph, reached_looks}

-- A without its edges at vertex 4
abbrev pub core_a : SignedGraph
core_a =
    record {
      n = 5;
      positive = 2 ∷ 1 ∷ 8 ∷ 4 ∷ replicate 60 0;
      negative = 12 ∷ 12 ∷ 3 ∷ 3 ∷ replicate 60 0;
      masked = 0;
    }

-- A with 4 masked, without its edges at that vertex
abbrev pub core4 : SignedGraph
core4 = with_tables (masked_a (set (4 ∷ []))) core_a.positive core_a.negative

-- A with 0 masked, without its edges at that vertex, and without any
abbrev core0 : SignedGraph
core0 = with_tables (masked_a (set (0 ∷ []))) (0 ∷ 0 ∷ 8 ∷ 4 ∷ replicate 60 0) (0 ∷ 12 ∷ 18 ∷ 2 ∷ 4 ∷ replicate 59 0)

abbrev pub bare0 : SignedGraph
bare0 = with_tables (masked_a (set (0 ∷ []))) (replicate 64 0) (replicate 64 0)

pub record Reductions : Type 0 where
  pub T6 : reduced sample_a 2 ≡ Ok (record { graph = core_a; looks = 21 })
  pub T6-looks : looks_left (reduced sample_a 2) ≡ 21
  pub T6-edges : edge_count (reduced_left (reduced sample_a 2)) ≡ 6
  pub T6-at-1 : reduced sample_a 1 ≡ Ok (record { graph = sample_a; looks = 13 })
  pub T6-at-1-edges : edge_count (reduced_left (reduced sample_a 1)) ≡ 8

-- A with a vertex masked: with 4, for 0 it keeps the 6 edges that are left, in 11 looks; with 0, for 2 none of 4, in 13
pub record Masked : Type 0 where
  pub at_0 : reduced (masked_a (set (4 ∷ []))) 0 ≡ Ok (record { graph = core4; looks = 11 })
  pub at_0_edges : edge_count (reduced_left (reduced (masked_a (set (4 ∷ []))) 0)) ≡ 6
  pub at_2 : reduced (masked_a (set (0 ∷ []))) 2 ≡ Ok (record { graph = bare0; looks = 13 })

-- the answer where the rounds have come to one that drops nothing
answer : (g : SignedGraph) (k : ℕ) → Sound g → k ≤ 32 → {kept : SignedGraph} {look total : ℕ} → Reached g k kept look total
    → fallen kept k look ≡ 0 → reduced g k ≡ Ok (record { graph = kept; looks = total + looks_at kept look })
answer g k so small r none =
    ap₂ (λ (a b : Bool). reduced_by (check_by a b) (reduced_graph g k) (looks g k)) (from_sound g so) (le-leb k 32 small)
    ∙ sym (ap₂ (reduced_by passed) (reached_graph so r none) (reached_looks so r none))

sound_A : Sound sample_a
unfolding sound has_all_rows loopless symmetric confined unambiguous masks_below R.all S.mem
sound_A = to_sound sample_a refl

-- the first round starts with A; for 1 it drops nothing
first : (k : ℕ) → Reached sample_a k sample_a (S.below 5) 0
first k = rw (unmasked_none sample_a sound_A refl) at (reached_first sample_a k)

none_at_1 : fallen sample_a 1 (S.below 5) ≡ 0
unfolding round fallen vertex_fits positive_fits negative_fits at_least table_of R.all R.count R.gather S.mem S.collect S.below
none_at_1 = refl

at_1 : reduced sample_a 1 ≡ Ok (record { graph = sample_a; looks = 13 })
unfolding looks_at edges_at R.count R.sum S.mem S.collect S.size S.below
at_1 = answer sample_a 1 sound_A (omega arith) (first 1) none_at_1

-- A without its edges at 4 and the vertices 0, 2 and 4 are what the second round for 2 starts with
second : Reached sample_a 2 core_a (set (0 ∷ 2 ∷ 4 ∷ [])) 13
unfolding round fallen vertex_fits positive_fits negative_fits at_least looks_at edges_at table_of R.all R.count R.sum R.gather S.mem S.collect S.size S.below
second = reached_next sound_A (first 2) (λ z. omega arith)

-- it drops nothing
none_at_2 : fallen core_a 2 (set (0 ∷ 2 ∷ 4 ∷ [])) ≡ 0
unfolding round fallen vertex_fits positive_fits negative_fits at_least table_of R.all R.count R.gather S.mem S.collect
none_at_2 = refl

at_2 : reduced sample_a 2 ≡ Ok (record { graph = core_a; looks = 21 })
unfolding looks_at edges_at R.count R.sum S.mem S.collect S.size
at_2 = answer sample_a 2 sound_A (omega arith) second none_at_2

pub cases_reductions : Reductions
unfolding edge_count R.count R.sum S.mem
cases_reductions =
    record {
      T6 = at_2;
      T6-looks = ap looks_left at_2;
      T6-edges = ap (λ (r : Result Reduced Refusal). edge_count (reduced_left r)) at_2;
      T6-at-1 = at_1;
      T6-at-1-edges = ap (λ (r : Result Reduced Refusal). edge_count (reduced_left r)) at_1;
    }

sound_masked : (s : ℕ) → s < 2 ^ 5 → Sound (masked_a s)
sound_masked s l =
    record { small = sound_A.small; positives = sound_A.positives; negatives = sound_A.negatives; apart = sound_A.apart; masks = l }

-- with 4 masked the first round for 0 starts with 6 edges, and drops nothing
first_4 : Reached (masked_a (set (4 ∷ []))) 0 core4 (S.below 5) 0
unfolding unmasked table_of R.gather S.mem S.collect
first_4 = reached_first (masked_a (set (4 ∷ []))) 0

masked_4 : reduced (masked_a (set (4 ∷ []))) 0 ≡ Ok (record { graph = core4; looks = 11 })
unfolding looks_at edges_at R.count R.sum S.mem S.collect S.size S.below
masked_4 =
    let so : Sound (masked_a (set (4 ∷ []))) = sound_masked (set (4 ∷ [])) (omega arith) in
    answer (masked_a (set (4 ∷ []))) 0 so (omega arith) first_4
    (none_dropped core4 0 (S.below 5) (reached_sound so first_4) (zero_fits (all_edges core4)))

-- with 0 masked it starts with 4 edges, and for 2 it drops them all; the second looks at their vertices
first_0 : Reached (masked_a (set (0 ∷ []))) 2 core0 (S.below 5) 0
unfolding unmasked table_of R.gather S.mem S.collect
first_0 = reached_first (masked_a (set (0 ∷ []))) 2

second_0 : Sound (masked_a (set (0 ∷ []))) → Reached (masked_a (set (0 ∷ []))) 2 bare0 (set (1 ∷ 2 ∷ 3 ∷ 4 ∷ [])) 9
unfolding round fallen vertex_fits positive_fits negative_fits at_least looks_at edges_at table_of R.all R.count R.sum R.gather S.mem S.collect S.size S.below
second_0 so = reached_next so first_0 (λ z. omega arith)

masked_0 : reduced (masked_a (set (0 ∷ []))) 2 ≡ Ok (record { graph = bare0; looks = 13 })
unfolding looks_at edges_at R.count R.sum S.mem S.collect S.size
masked_0 =
    let so : Sound (masked_a (set (0 ∷ []))) = sound_masked (set (0 ∷ [])) (omega arith) in
    answer (masked_a (set (0 ∷ []))) 2 so (omega arith) (second_0 so)
    (none_looked bare0 2 (set (1 ∷ 2 ∷ 3 ∷ 4 ∷ [])) (reached_sound so (second_0 so)) refl)

pub cases_masked : Masked
unfolding edge_count R.count R.sum S.mem
cases_masked =
    record {
      at_0 = masked_4;
      at_0_edges = ap (λ (r : Result Reduced Refusal). edge_count (reduced_left r)) masked_4;
      at_2 = masked_0;
    }

-- its group, listed from A and from A reduced
pub record Groups : Type 0 where
  pub T6 : groups sample_a 2 ≡ set (0 ∷ 1 ∷ 2 ∷ 3 ∷ []) ∷ []
  pub T6-left : left sample_a (set (0 ∷ 1 ∷ 2 ∷ 3 ∷ [])) ≡ set (0 ∷ 1 ∷ [])
  pub T6-right : right sample_a (set (0 ∷ 1 ∷ 2 ∷ 3 ∷ [])) ≡ set (2 ∷ 3 ∷ [])
  pub T6-reduced : groups core_a 2 ≡ set (0 ∷ 1 ∷ 2 ∷ 3 ∷ []) ∷ []

pub cases_groups : Groups
unfolding groups subsets choices select is_group extension floor balanced all_agree left right vertices R.all R.count R.seek S.mem S.collect S.size S.lowest S.below
cases_groups = record { T6 = refl; T6-left = refl; T6-right = refl; T6-reduced = refl }
