-- Counts while groups are counted one after the other: how they grow, and what they come to. Assumes nothing.
use Prim.Native.Nat.{ℕ, zero, suc, ◌+◌, ◌%◌, ◌^◌, ◌≤◌, ◌<◌, min}
use native.Mathlib.Nat.{suc-add}
use native.Mathlib.Omega.{arith}
use mathlib.Core.Path.{◌≡◌, refl, ap, ap₂, ◌∙◌}
use mathlib.Core.Bool.{Bool, true, false}
use mathlib.Core.List.{List, [], ◌∷◌, map, foldl}
use lib.ListN.{length, get_or, take, set, replicate}
use mir.Val.{bool_byte}
use Rattle.vertex_set.specs.Lists.{select}
use Rattle.vertex_set.specs.Ranges.{bit}
use Rattle.vertex_set.specs.Sets.{within}
use Rattle.clique.specs.Listing.{Item}
use Rattle.group_pages.proofs.Counts.{select_le}
use Rattle.counts.specs.Counts.{contains}
use Rattle.counts.specs.Tallies.{raised, raised_by}

-- ---- one group

pub byte_bit : (b : Bool) → bool_byte b ≡ bit b
byte_bit true = refl
byte_bit false = refl

module _ (v : ℕ) where
  -- at a place behind the sets nothing is counted
  pub raised_behind : (i : ℕ) (sets counts : List ℕ) → get_or (raised (take i sets) counts v) i 0 ≡ get_or counts i 0
  unfolding raised
  raised_behind zero sets counts = refl
  raised_behind (suc i) [] counts = refl
  raised_behind (suc i) (s ∷ sets) [] = refl
  raised_behind (suc i) (s ∷ sets) (c ∷ counts) = raised_behind i sets counts

  -- the next set is looked at
  pub raised_next : (i : ℕ) (sets counts : List ℕ) → i < length sets → i < length counts
      → set (raised (take i sets) counts v) i ((get_or counts i 0 + bit (within (get_or sets i 0) v)) % 2 ^ 64)
      ≡ raised (take (i + 1) sets) counts v
  unfolding raised
  raised_next i [] counts h l = absurd (omega arith)
  raised_next i (s ∷ sets) [] h l = absurd (omega arith)
  raised_next zero (s ∷ sets) (c ∷ counts) h l = refl
  raised_next (suc i) (s ∷ sets) (c ∷ counts) h l =
      rw suc-add (ap (λ (t : List ℕ). ((c + bit (within s v)) % 2 ^ 64) ∷ t) (raised_next i sets counts (omega arith) (omega arith)))

  -- where each place with a set was looked at, all were
  pub raised_all : (i : ℕ) (sets counts : List ℕ) → min (length sets) (length counts) ≤ i → raised (take i sets) counts v ≡ raised sets counts v
  unfolding raised
  raised_all zero [] counts h = refl
  raised_all zero (s ∷ sets) [] h = refl
  raised_all zero (s ∷ sets) (c ∷ counts) h = absurd (omega arith)
  raised_all (suc i) [] counts h = refl
  raised_all (suc i) (s ∷ sets) [] h = refl
  raised_all (suc i) (s ∷ sets) (c ∷ counts) h =
      ap (λ (t : List ℕ). ((c + bit (within s v)) % 2 ^ 64) ∷ t) (raised_all i sets counts (omega arith))

-- ---- all groups of a list

-- how many of a list contain s
abbrev holding : List Item → ℕ → ℕ
holding l s = length (select (contains s) l)

holding_more : (x : Item) (l : List Item) (s : ℕ) → holding (x ∷ l) s ≡ bit (contains s x) + holding l s
unfolding select
holding_more x l s = go (contains s x) refl
  where
    go : (b : Bool) → contains s x ≡ b → holding (x ∷ l) s ≡ bit b + holding l s
    go true e = rw (e, select) (omega arith)
    go false e = rw (e, select) (omega arith)

-- counts of sets, in 64 bits
abbrev tallies : (ℕ → ℕ) → List ℕ → List ℕ
tallies n sets = map (λ s. n s % 2 ^ 64) sets

raised_tallies : (n : ℕ → ℕ) (x : Item) (sets : List ℕ) → raised_by sets (tallies n sets) x ≡ tallies (λ s. n s + bit (contains s x)) sets
unfolding raised
raised_tallies n x [] = refl
raised_tallies n x (s ∷ sets) =
    let e : (n s % 2 ^ 64 + bit (contains s x)) % 2 ^ 64 ≡ (n s + bit (contains s x)) % 2 ^ 64 = omega arith in
    ap₂ (λ (c : ℕ) (t : List ℕ). c ∷ t) e (raised_tallies n x sets)

fold_tallies : (sets : List ℕ) (l : List Item) (n : ℕ → ℕ) → foldl (raised_by sets) (tallies n sets) l ≡ tallies (λ s. n s + holding l s) sets
unfolding select
fold_tallies sets [] n = ap (λ (m : ℕ → ℕ). tallies m sets) (λ i s. (let e : n s ≡ n s + 0 = omega arith in e) i)
fold_tallies sets (x ∷ l) n =
    ap (λ (c : List ℕ). foldl (raised_by sets) c l) (raised_tallies n x sets)
    ∙ fold_tallies sets l (λ s. n s + bit (contains s x))
    ∙ ap (λ (m : ℕ → ℕ). tallies m sets)
    (λ i s. (let e : n s + bit (contains s x) + holding l s ≡ n s + holding (x ∷ l) s = omega (arith, holding_more x l s) in e) i)

tallies_none : (sets : List ℕ) → replicate (length sets) 0 ≡ tallies (λ s. 0) sets
tallies_none [] = refl
tallies_none (s ∷ sets) = ap (λ (t : List ℕ). 0 ∷ t) (tallies_none sets)

-- from zeros they come to how many of the list contain each set
pub fold_zeros : (l : List Item) (sets : List ℕ) → length l < 2 ^ 64
    → foldl (raised_by sets) (replicate (length sets) 0) l ≡ map (λ s. length (select (contains s) l)) sets
fold_zeros l sets few =
    ap (λ (c : List ℕ). foldl (raised_by sets) c l) (tallies_none sets) ∙ fold_tallies sets l (λ s. 0)
    ∙ ap (λ (m : ℕ → ℕ). map m sets)
    (λ i s. (let e : (0 + holding l s) % 2 ^ 64 ≡ holding l s = omega (arith, select_le (contains s) l, few) in e) i)
