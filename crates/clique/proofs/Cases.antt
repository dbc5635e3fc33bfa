-- Document 01's cases T1 to T5 and T7 (their groups) and T8 to T11 (the verdicts, with numbers and values), which compute; T2 as
-- document 02 has it, and A with masked vertices (S-4). Assumes nothing.
use mathlib.Core.Path.{◌≡◌, refl, ap}
use mathlib.Core.Bool.{true}
use mathlib.Core.List.{List, [], ◌∷◌}
use Prim.Native.Nat.{ℕ, ◌+◌, ◌^◌}
use Rattle.vertex_set.specs.Lists.{select}
use Rattle.vertex_set.specs.Ranges as R
use Rattle.vertex_set.specs.Sets as S
use Rattle.signed_graph.specs.Graphs.{edgeless, vertices}
use Rattle.signed_graph.specs.Samples.{triangle, chain, sample_a, masked_a}
use Rattle.signed_graph.specs.Soundness.{sound, has_all_rows, loopless, symmetric, confined, unambiguous, masks_below}
use Rattle.clique.specs.declared.Verdict.{Verdict}
use Rattle.clique.specs.declared.Verdict.TheVariants.{Empty, OutOfRange, Alone, Masked, MissingEdge, Unbalanced, TooSmall, Extensible, Group}
use Rattle.std.specs.Prelude.{Ok}
use Rattle.clique.specs.Balance.{balanced, all_agree, left, right}
use Rattle.clique.specs.Groups.{floor, extension, is_group, groups}
use Rattle.vertex_set.specs.Order.{choices, subsets}
use Rattle.clique.specs.Verdicts.{verdict, first_outside, first_masked, missing_first, missing_second, odd_first, odd_second, odd_third, classified_values}

-- the set of the vertices of a list
abbrev pub set : List ℕ → ℕ
set [] = 0
set (p ∷ l) = 2 ^ p + set l

-- the graphs of the cases are sound
pub record Sound : Type 0 where
  pub sound_triangle : sound triangle ≡ true
  pub sound_chain : sound chain ≡ true
  pub sound_A : sound sample_a ≡ true

pub samples_sound : Sound
unfolding sound has_all_rows loopless symmetric confined unambiguous masks_below R.all S.mem
samples_sound = record { sound_triangle = refl; sound_chain = refl; sound_A = refl }

pub record Groups : Type 0 where
  pub T1 : (k : ℕ) → groups (edgeless 0) k ≡ []
  pub T2 : (k : ℕ) → groups (edgeless 1) k ≡ []
  pub T3 : groups triangle 1 ≡ set (0 ∷ 1 ∷ []) ∷ set (0 ∷ 2 ∷ []) ∷ set (1 ∷ 2 ∷ []) ∷ []
  pub T4 : groups chain 0 ≡ set (0 ∷ 1 ∷ []) ∷ set (1 ∷ 2 ∷ []) ∷ []
  pub T5 : groups sample_a 1 ≡ set (0 ∷ 1 ∷ 2 ∷ 3 ∷ []) ∷ set (0 ∷ 2 ∷ 4 ∷ []) ∷ []
  pub T7 : groups sample_a 3 ≡ []
  -- no group holds a masked vertex, and what only a masked vertex would extend is a group
  pub masked_4 : groups (masked_a (set (4 ∷ []))) 1 ≡ set (0 ∷ 1 ∷ 2 ∷ 3 ∷ []) ∷ []
  pub masked_2 : groups (masked_a (set (2 ∷ []))) 0 ≡ set (0 ∷ 1 ∷ 3 ∷ []) ∷ set (0 ∷ 4 ∷ []) ∷ []
  pub masked_all : groups (masked_a (set (0 ∷ 1 ∷ 2 ∷ 3 ∷ 4 ∷ []))) 0 ≡ []

pub cases_groups : Groups
unfolding groups subsets choices select is_group extension floor balanced all_agree left right vertices edgeless R.all R.count R.seek S.mem S.collect S.size S.lowest S.below
cases_groups =
    record {
      T1 = λ k. refl;
      T2 = λ k. refl;
      T3 = refl;
      T4 = refl;
      T5 = refl;
      T7 = refl;
      masked_4 = refl;
      masked_2 = refl;
      masked_all = refl;
    }

-- the sides that T3 to T5 print
pub record Sides : Type 0 where
  pub T3-left : left triangle (set (1 ∷ 2 ∷ [])) ≡ set (1 ∷ [])
  pub T3-right : right triangle (set (1 ∷ 2 ∷ [])) ≡ set (2 ∷ [])
  pub T4-right : right chain (set (0 ∷ 1 ∷ [])) ≡ 0
  pub T5-left : left sample_a (set (0 ∷ 1 ∷ 2 ∷ 3 ∷ [])) ≡ set (0 ∷ 1 ∷ [])
  pub T5-right : right sample_a (set (0 ∷ 1 ∷ 2 ∷ 3 ∷ [])) ≡ set (2 ∷ 3 ∷ [])

pub cases_sides : Sides
unfolding left right R.seek S.mem S.collect S.lowest
cases_sides = record { T3-left = refl; T3-right = refl; T4-right = refl; T5-left = refl; T5-right = refl }

pub record Verdicts : Type 0 where
  pub T8 : verdict sample_a 1 (set (0 ∷ 1 ∷ 4 ∷ [])) ≡ MissingEdge 1 4
  pub T9 : verdict sample_a 1 (set (0 ∷ 2 ∷ [])) ≡ Extensible 1
  pub T10 : verdict triangle 1 (set (0 ∷ 1 ∷ 2 ∷ [])) ≡ Unbalanced 0 1 2
  pub T11 : verdict sample_a 2 (set (0 ∷ 2 ∷ 4 ∷ [])) ≡ TooSmall 2 1
  -- one vertex, at every threshold; but out of range comes first
  pub T2-alone : (k : ℕ) → verdict (edgeless 1) k (set (0 ∷ [])) ≡ Alone
  pub T2-outside : (k : ℕ) → verdict (edgeless 1) k (set (1 ∷ [])) ≡ OutOfRange 1
  -- vertex 2 could be added, but the sizes come first
  pub small_first : verdict sample_a 1 (set (0 ∷ 1 ∷ [])) ≡ TooSmall 2 0
  -- vertex 0 is negative to both others, so its side would be too small, but the triple comes first
  pub unbalanced_first : verdict triangle 2 (set (0 ∷ 1 ∷ 2 ∷ [])) ≡ Unbalanced 0 1 2
  pub empty : verdict sample_a 1 (set []) ≡ Empty
  pub outside : verdict sample_a 1 (set (0 ∷ 60 ∷ 63 ∷ [])) ≡ OutOfRange 60
  pub T5-group : verdict sample_a 1 (set (0 ∷ 1 ∷ 2 ∷ 3 ∷ [])) ≡ Group (set (0 ∷ 1 ∷ [])) (set (2 ∷ 3 ∷ []))
  -- the lowest masked vertex, before a missing edge; but out of range and alone come first
  pub masked : verdict (masked_a (set (1 ∷ 4 ∷ []))) 1 (set (0 ∷ 1 ∷ 4 ∷ [])) ≡ Masked 1
  pub masked_outside : verdict (masked_a (set (0 ∷ []))) 1 (set (0 ∷ 60 ∷ [])) ≡ OutOfRange 60
  pub masked_alone : (k : ℕ) → verdict (masked_a (set (0 ∷ []))) k (set (0 ∷ [])) ≡ Alone
  -- T9, where no vertex extends the set but masked ones
  pub masked_extends : verdict (masked_a (set (1 ∷ 3 ∷ 4 ∷ []))) 1 (set (0 ∷ 2 ∷ [])) ≡ Group (set (0 ∷ [])) (set (2 ∷ []))

pub cases_verdicts : Verdicts
unfolding verdict first_outside first_masked missing_first missing_second odd_first odd_second odd_third extension floor balanced all_agree left right vertices edgeless R.all R.count R.seek S.mem S.collect S.size S.lowest S.below
cases_verdicts =
    record {
      T8 = refl;
      T9 = refl;
      T10 = refl;
      T11 = refl;
      T2-alone = λ k. refl;
      T2-outside = λ k. refl;
      small_first = refl;
      unbalanced_first = refl;
      empty = refl;
      outside = refl;
      T5-group = refl;
      masked = refl;
      masked_outside = refl;
      masked_alone = λ k. refl;
      masked_extends = refl;
    }

-- their numbers and values
abbrev values_of : Verdict → List ℕ
values_of v = classified_values (Ok v)

pub record Values : Type 0 where
  pub empty : values_of (verdict sample_a 1 (set [])) ≡ 1 ∷ []
  pub outside : values_of (verdict sample_a 1 (set (0 ∷ 60 ∷ 63 ∷ []))) ≡ 2 ∷ 60 ∷ []
  pub alone : values_of (verdict (edgeless 1) 0 (set (0 ∷ []))) ≡ 8 ∷ []
  pub masked : values_of (verdict (masked_a (set (1 ∷ 4 ∷ []))) 1 (set (0 ∷ 1 ∷ 4 ∷ []))) ≡ 9 ∷ 1 ∷ []
  pub T8 : values_of (verdict sample_a 1 (set (0 ∷ 1 ∷ 4 ∷ []))) ≡ 3 ∷ 1 ∷ 4 ∷ []
  pub T10 : values_of (verdict triangle 1 (set (0 ∷ 1 ∷ 2 ∷ []))) ≡ 4 ∷ 0 ∷ 1 ∷ 2 ∷ []
  pub T11 : values_of (verdict sample_a 2 (set (0 ∷ 2 ∷ 4 ∷ []))) ≡ 5 ∷ 2 ∷ 1 ∷ []
  pub T9 : values_of (verdict sample_a 1 (set (0 ∷ 2 ∷ []))) ≡ 6 ∷ 1 ∷ []
  pub T5-group : values_of (verdict sample_a 1 (set (0 ∷ 1 ∷ 2 ∷ 3 ∷ []))) ≡ 7 ∷ set (0 ∷ 1 ∷ []) ∷ set (2 ∷ 3 ∷ []) ∷ []

pub cases_values : Values
cases_values =
    let c : Verdicts = cases_verdicts in
    record {
      empty = ap values_of c.empty;
      outside = ap values_of c.outside;
      alone = ap values_of (c.T2-alone 0);
      masked = ap values_of c.masked;
      T8 = ap values_of c.T8;
      T10 = ap values_of c.T10;
      T11 = ap values_of c.T11;
      T9 = ap values_of c.T9;
      T5-group = ap values_of c.T5-group;
    }
