-- Counts in the graphs of document 01's cases, and the order of the refusals, which compute. Assumes nothing.
use Prim.Native.Nat.{ℕ, ◌-◌, ◌^◌}
use mathlib.Core.Path.{◌≡◌, refl, ap}
use mathlib.Core.Bool.{Bool, not}
use mathlib.Core.List.{List, [], ◌∷◌, map}
use lib.Dec.{leb, ltb}
use lib.ListN.{length, replicate}
use Rattle.vertex_set.specs.Alternatives.{provided, ◌or_else◌}
use Rattle.vertex_set.specs.Lists.{select}
use Rattle.vertex_set.specs.Order.{choices, subsets}
use Rattle.vertex_set.specs.Ranges as R
use Rattle.vertex_set.specs.Sets as S
use Rattle.signed_graph.specs.Graphs.{edgeless, vertices}
use Rattle.signed_graph.specs.Samples.{chain, sample_a}
use Rattle.clique.specs.Balance.{balanced, all_agree, left, right}
use Rattle.clique.specs.Groups.{floor, extension, is_group, groups}
use Rattle.clique.specs.Listing.{listing}
use Rattle.clique.proofs.Cases.{set, samples_sound}
use Rattle.counts.specs.Counts.{containing}
use Rattle.counts.specs.Calls.{most_sets, counts_number}

-- so many words
abbrev words : ℕ → List ℕ
words n = replicate n 0

pub record Cases : Type 0 where
  -- T1: no group contains anything
  pub T1 : map (containing (edgeless 0) 0) (0 ∷ 1 ∷ (2 ^ 64 - 1) ∷ []) ≡ 0 ∷ 0 ∷ 0 ∷ []
  -- T2: a lone vertex lies in none, and there is none
  pub T2 : map (containing (edgeless 1) 0) (0 ∷ set (0 ∷ []) ∷ []) ≡ 0 ∷ 0 ∷ []
  -- T4: all groups; 1, which lies in both; 0; 0 and 2, which lie in none together; 3, which the graph does not have
  pub T4 : map (containing chain 0) (0 ∷ set (1 ∷ []) ∷ set (0 ∷ []) ∷ set (0 ∷ 2 ∷ []) ∷ set (3 ∷ []) ∷ []) ≡ 2 ∷ 2 ∷ 1 ∷ 0 ∷ 0 ∷ []
  -- T5: all groups; 0 and 2, on different sides of both; a group; a group and 4; the same set twice
  pub T5 : map (containing sample_a 1) (0 ∷ set (0 ∷ 2 ∷ []) ∷ set (0 ∷ 1 ∷ 2 ∷ 3 ∷ []) ∷ set (0 ∷ 1 ∷ 2 ∷ 3 ∷ 4 ∷ []) ∷ set (4 ∷ []) ∷ set (4 ∷ []) ∷ [])
      ≡ 2 ∷ 2 ∷ 1 ∷ 0 ∷ 1 ∷ 1 ∷ []
  -- no sets; 300 sets into 299 places and into 300; 256 and 257 sets; a threshold over 32 before them
  pub none : counts_number chain 0 [] [] ≡ 0
  pub places_299 : counts_number chain 0 (words 300) (words 299) ≡ 13
  pub places_300 : counts_number chain 0 (words 300) (words 300) ≡ 14
  pub sets_256 : counts_number chain 0 (words 256) (words 256) ≡ 0
  pub sets_257 : counts_number chain 0 (words 257) (words 257) ≡ 14
  pub threshold_33 : counts_number chain 33 (words 300) (words 299) ≡ 11

-- the graph of T4 is sound, so the number goes by the other tests
numbered : (k : ℕ) (sets buffer : List ℕ) → counts_number chain k sets buffer
    ≡ (provided (not (leb k 32)) 11 or_else provided (ltb (length buffer) (length sets)) 13 or_else provided (ltb most_sets (length sets)) 14 or_else 0)
numbered k sets buffer =
    ap (λ (able : Bool). provided (not able) 10 or_else provided (not (leb k 32)) 11 or_else provided (ltb (length buffer) (length sets)) 13
    or_else provided (ltb most_sets (length sets)) 14 or_else 0) samples_sound.sound_chain

pub cases : Cases
unfolding listing groups subsets choices select is_group extension floor balanced all_agree left right vertices edgeless R.all R.count R.seek S.mem S.collect S.size S.lowest S.below
cases =
    record {
      T1 = refl;
      T2 = refl;
      T4 = refl;
      T5 = refl;
      none = numbered 0 [] [];
      places_299 = numbered 0 (words 300) (words 299);
      places_300 = numbered 0 (words 300) (words 300);
      sets_256 = numbered 0 (words 256) (words 256);
      sets_257 = numbered 0 (words 257) (words 257);
      threshold_33 = numbered 33 (words 300) (words 299);
    }
