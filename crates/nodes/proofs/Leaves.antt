-- A node with nothing undecided stands for one set at the most. Assumes nothing.
use Prim.Native.Nat.{ℕ, ◌^◌, ◌≤◌, ◌<◌}
use native.Mathlib.Nat.{lt_of_lt_of_le}
use native.Mathlib.Omega.{arith}
use native.Mathlib.Decide.{ℕ_discrete}
use mathlib.Core.Path.{◌≡◌, sym, ap, ap₂, ◌∙◌, subst}
use mathlib.Core.Logic.{◌⊎◌, inl, inr}
use mathlib.Core.Bool.{Bool, true, false}
use mathlib.Core.List.Memᴰ
use mathlib.Core.List.{List, [], ◌∷◌, Memᴰ}
use lib.Dec.{eqb}
use lib.Bits.{bit_or}
use borrow.Author.Tests.{eqb-true, eq-eqb}
use Rattle.vertex_set.specs.Lists.{Sorted}
use Rattle.vertex_set.specs.Sets.{mem, Subset, insert, size, lowest}
use Rattle.vertex_set.proofs.Booleans.{clash, refute, iff, and_intro, and_left, and_right, or_cases}
use Rattle.vertex_set.proofs.Membership.{mem_none, none_in, mem_or, union_left, union_right, union_cases, set_ext}
use Rattle.vertex_set.proofs.Collections.{insert_in}
use Rattle.vertex_set.proofs.LowestVertex.{lowest_is, lowest_in}
use Rattle.vertex_set.proofs.Sizes.{size_pos}
use Rattle.signed_graph.specs.declared.SignedGraph.{SignedGraph}
use Rattle.signed_graph.specs.Graphs.{negative_edge, vertices}
use Rattle.signed_graph.proofs.Soundness.{Sound}
use Rattle.signed_graph.specs.Thresholds.{Threshold}
use Rattle.clique.specs.Balance.{Split, Balanced, Sides}
use Rattle.clique.specs.Groups.{floor}
use Rattle.clique.proofs.Balance.{usable_64, usable_lt, split_size, split_balanced, words_balanced}
use Rattle.clique.proofs.Groups.{floor_two, single_maximal}
use Rattle.clique.proofs.Extension.{Joins, extends_joins}
use Rattle.nodes.specs.declared.Side.{Side}
use Rattle.nodes.specs.declared.Node.{Node}
use Rattle.clique.specs.Listing.{Item, Listed, comes_before}
use Rattle.nodes.specs.Nodes.{chosen, undecided, excluded, Half, Stage, untouched, led, Valid, Between, Below, items_below, leaf_item, group_at}
use Rattle.clique.proofs.Listing.{listed_enough}
use Rattle.nodes.proofs.Below.{below_is, below_agrees}
use Rattle.nodes.proofs.Prunes.{dominated_left, dominated_right}

-- ---- the test, by its parts

module _ (k : Threshold) (d : Node) where
  abbrev unextended : Bool
  unextended = eqb (excluded d) 0

  abbrev large : Bool
  large = floor k (size d.left.chosen) (size d.right.chosen)

module _ (g : SignedGraph) (so : Sound g) (k : Threshold) (d : Node) (h : Valid g d) (done : undecided d ≡ 0) where
  -- ---- nothing is undecided

  gone : (p : ℕ) → mem p (undecided d) ≡ false
  gone p = ap (mem p) done ∙ mem_none p

  no_left : {A : Type 0} (p : ℕ) → mem p d.left.candidates ≡ true → A
  no_left p m = clash (mem p (undecided d)) (union_left p d.left.candidates d.right.candidates m) (gone p)

  no_right : {A : Type 0} (p : ℕ) → mem p d.right.candidates ≡ true → A
  no_right p m = clash (mem p (undecided d)) (union_right p d.left.candidates d.right.candidates m) (gone p)

  side_is : (side : Side) (s : ℕ) → Between side s → ((p : ℕ) → mem p side.candidates ≡ true → ⊥) → s ≡ side.chosen
  side_is side s b none =
      set_ext s side.chosen (λ p. iff (mem p s) (mem p side.chosen)
      (λ m. union_cases (mem p side.chosen ≡ true) p side.chosen side.candidates (b.only p m)
      (λ x. x) (λ x. absurd (none p x)))
      (b.holds p))

  -- a group below is the chosen set
  leaf_is : (x : Item) → Listed g k x → Below d x → x ≡ leaf_item d
  leaf_is x lx b =
      let v : x.vertices ≡ chosen d = set_ext x.vertices (chosen d) (λ p. below_agrees g so k d h x lx b p (gone p)) in
      let l : x.left ≡ d.left.chosen = side_is d.left x.left b.left (λ p m. no_left p m) in
      let r : x.right ≡ d.right.chosen = side_is d.right x.right b.right (λ p m. no_right p m) in
      λ i. record { vertices = v i; left = l i; right = r i }

  leaf_below : Below d (leaf_item d)
  leaf_below = record { left = own d.left; right = own d.right }
    where
      own : (side : Side) → Between side side.chosen
      own side = record { holds = λ p m. m; only = λ p m. union_left p side.chosen side.candidates m }

  -- ---- the chosen set

  chosen_usable : Subset (chosen d) (vertices g)
  chosen_usable p m =
      union_cases (mem p (vertices g) ≡ true) p d.left.chosen d.right.chosen m (h.parts.usable_l p) (h.parts.usable_r p)

  chosen_64 : chosen d < 2 ^ 64
  chosen_64 = usable_64 g so (chosen d) chosen_usable

  chosen_split : Split g (chosen d) d.left.chosen d.right.chosen
  chosen_split =
      record {
        either = λ p. mem_or p d.left.chosen d.right.chosen;
        one = λ p m. refute (mem p d.right.chosen) (λ r.
            clash (negative_edge g p p) (h.parts.across p p m r) (so.negatives.loopless p));
        inside_l = h.parts.inside_l;
        inside_r = h.parts.inside_r;
        across = h.parts.across;
      }

  chosen_sides : Sides g (chosen d) d.left.chosen d.right.chosen
  chosen_sides = record { split = chosen_split; lowest_left = go h.stage }
    where
      go : Stage d → 0 < chosen d → mem (lowest (chosen d)) d.left.chosen ≡ true
      go (untouched zl zr same) pos = absurd (empty (ap₂ bit_or zl zr) pos)
        where
          empty : chosen d ≡ 0 → 0 < chosen d → ⊥
          empty e p = omega arith
      go (led a m least) pos =
          let c : mem a (chosen d) ≡ true = union_left a d.left.chosen d.right.chosen m in
          let e : lowest (chosen d) ≡ a =
          lowest_is (chosen d) a (lt_of_lt_of_le (usable_lt g so (chosen d) chosen_usable a c) so.small) c
          (λ j l. refute (mem j (chosen d)) (λ n. less l (least j (union_left j (chosen d) (undecided d) n)))) in
          ap (λ (z : ℕ). mem z d.left.chosen) e ∙ m
        where
          less : {j : ℕ} → j < a → a ≤ j → ⊥
          less p q = omega arith

  -- where nothing that was left out fits, no vertex extends the chosen set
  module _ (pos : 0 < chosen d) (none : excluded d ≡ 0) where
    no_join : (near : Side) (far : ℕ) → Half g near far → ((p : ℕ) → mem p near.candidates ≡ true → ⊥)
        → ((p : ℕ) → mem p near.excluded ≡ true → mem p (excluded d) ≡ true)
        → (p : ℕ) → mem p (vertices g) ≡ true → Joins g p near.chosen far → ⊥
    no_join near far half none_left out p u j =
        or_cases ⊥ (mem p near.candidates) (mem p near.excluded)
        (half.every p (record { usable = u; same = j.inside; cross = j.across }))
        (none_left p) (λ m. none_in p (ap (mem p) (sym none) ∙ out p m))

    maximal : (t : ℕ) → Balanced g t → Subset (chosen d) t → t ≡ chosen d
    maximal =
        single_maximal g so (chosen d) (split_balanced g so chosen_usable chosen_split) (λ p off b.
        joins p (b.usable p (insert_in p (chosen d)))
        (extends_joins g so (chosen d) p off pos chosen_64 chosen_sides (words_balanced g so (insert p (chosen d)) b)))
      where
        joins : (p : ℕ) → mem p (vertices g) ≡ true
            → Joins g p d.left.chosen d.right.chosen ⊎ Joins g p d.right.chosen d.left.chosen → ⊥
        joins p u (inl j) =
            no_join d.left d.right.chosen h.left (λ q m. no_left q m)
            (λ q. union_left q d.left.excluded d.right.excluded) p u j
        joins p u (inr j) =
            no_join d.right d.left.chosen h.right (λ q m. no_right q m)
            (λ q. union_right q d.left.excluded d.right.excluded) p u j

  -- ---- the test of the leaf

  pub leaf_group : group_at k d ≡ true → Listed g k (leaf_item d)
  unfolding group_at
  leaf_group e =
      let enough : large k d ≡ true = and_right (unextended k d) (large k d) e in
      let pos : 0 < chosen d = size_pos (chosen d) (omega (arith, split_size chosen_split, floor_two k _ _ enough)) in
      record {
        group = record {
          balanced = split_balanced g so chosen_usable chosen_split;
          left_side = d.left.chosen;
          right_side = d.right.chosen;
          sides = chosen_sides;
          enough = enough;
          maximal = maximal pos (eqb-true (excluded d) 0 (and_left (unextended k d) (large k d) e));
        };
        sides = chosen_sides;
      }

  group_leaf : Listed g k (leaf_item d) → group_at k d ≡ true
  unfolding group_at
  group_leaf lx =
      and_intro (unextended k d) (large k d) (go (ℕ_discrete (excluded d) 0)) (listed_enough g so k (leaf_item d) lx)
    where
      excluded_64 : excluded d < 2 ^ 64
      excluded_64 =
          usable_64 g so (excluded d) (λ p m.
          union_cases (mem p (vertices g) ≡ true) p d.left.excluded d.right.excluded m
          (λ x. (h.left.out p x).usable) (λ x. (h.right.out p x).usable))

      go : Dec (excluded d ≡ 0) → eqb (excluded d) 0 ≡ true
      go (yes e) = eq-eqb (excluded d) 0 e
      go (no e) =
          let u : ℕ = lowest (excluded d) in
          absurd (union_cases ⊥ u d.left.excluded d.right.excluded (lowest_in (excluded d) (omega arith) excluded_64)
          (λ m. dominated_left g so k d h u (leaf_item d) lx leaf_below m
          (record { same = λ q n _. no_left q n; cross = λ q n. no_right q n }))
          (λ m. dominated_right g so k d h u (leaf_item d) lx leaf_below m
          (record { same = λ q n _. no_right q n; cross = λ q n. no_left q n })))

  -- ---- the groups below the leaf, of a sorted list of groups

  module _ (l : List Item) (sorted : Sorted comes_before l) (listed : (x : Item) → Memᴰ x l → Listed g k x) where
    pub leaf_one : Memᴰ (leaf_item d) l → items_below d l ≡ leaf_item d ∷ []
    leaf_one m =
        below_is d l sorted (leaf_item d ∷ []) (tt, tt)
        (λ x n. let e : leaf_item d ≡ x = sym (Memᴰ.eq_of_singleton n) in
        (subst (λ (y : Item). Memᴰ y l) e m, subst (Below d) e leaf_below))
        (λ x n b. Memᴰ.head (leaf_is x (listed x n) b))

    pub leaf_none : (Memᴰ (leaf_item d) l → ⊥) → items_below d l ≡ []
    leaf_none off =
        below_is d l sorted [] tt (λ x n. absurd (Memᴰ.not-nil n))
        (λ x n b. absurd (off (subst (λ (y : Item). Memᴰ y l) (leaf_is x (listed x n) b) n)))

    pub leaf_not_group : group_at k d ≡ false → items_below d l ≡ []
    leaf_not_group e = leaf_none (λ m. clash (group_at k d) (group_leaf (listed (leaf_item d) m)) e)
