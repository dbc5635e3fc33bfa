-- A graph and its reduction for k have the same groups for k, with the same sides, by the words of both alone. Assumes nothing.
use Prim.Native.Nat.{ℕ, ◌-◌, ◌^◌, ◌≤◌, ◌<◌}
use native.Mathlib.Nat.{sub-zero}
use native.Mathlib.Omega.{arith}
use mathlib.Core.Path.{◌≡◌, sym, ap, ap₂, ◌∙◌, subst, fun_ext}
use mathlib.Core.Logic.{◌≢◌, ⊎_elim}
use mathlib.Core.Bool.{Bool, true, false, not, ◌&&◌, and_comm}
use mathlib.Core.List.{List, [], ◌∷◌}
use lib.Bits.{bit_and}
use lib.ListN.{length}
use borrow.Author.Tests.{le-leb}
use Rattle.vertex_set.specs.Lists.{All, select}
use Rattle.vertex_set.specs.Ranges.{count}
use Rattle.vertex_set.specs.Sets.{mem, Subset, size}
use Rattle.vertex_set.proofs.Booleans.{clash, refute, cases, iff, and_intro, and_left, and_right, or_left, or_right, or_cases}
use Rattle.vertex_set.proofs.Ranges.{count_listed}
use Rattle.vertex_set.proofs.Sizes.{size_part}
use Rattle.signed_graph.specs.declared.SignedGraph.{SignedGraph}
use Rattle.signed_graph.specs.Graphs.{positive_edge, negative_edge, vertices}
use Rattle.signed_graph.specs.Soundness.{sound}
use Rattle.signed_graph.specs.Calls.{check_by}
use Rattle.signed_graph.proofs.Soundness.{Sound, to_sound, from_sound, vertex_unmasked}
use Rattle.clique.specs.Balance.{Split, Balanced, Sides, left, right}
use Rattle.clique.specs.Groups.{Group, groups}
use Rattle.vertex_set.specs.Order.{subsets}
use Rattle.clique.proofs.Balance.{usable_64, other_side, split_swap, split_part, split_balanced, is_left, is_right, one_split}
use Rattle.clique.proofs.Groups.{floor_least, group_pos, group_words_law, words_group}
use Rattle.reduction.specs.Collections.{Collection, all_edges, unmasked_ends, unmasked_edges, Inside, at_least, vertex_fits, positive_fits, negative_fits, Fits}
use Rattle.reduction.specs.Reductions.{Reduction, reduced_graph, looks, reduced_by, reduced, reduced_left}
use Rattle.reduction.proofs.Reductions.{rounds_reduce, reduction_sound}

-- ---- counts

-- all members of a set but those listed pass the test
many : (k x : ℕ) (f : ℕ → Bool) (l : List ℕ) → k ≤ size x → ((p : ℕ) → All (λ q. q ≢ p) l → mem p x ≡ true → f p ≡ true)
    → at_least (k - length l) f ≡ true
unfolding size at_least
many k x f l h e = le-leb (k - length l) (count 64 f) (omega (arith, count_listed (λ p. mem p x) f 64 l (λ p _. e p)))

-- ---- the edges of a graph within a set

abbrev within : SignedGraph → ℕ → Collection
within g s =
    record { positive = λ p q. mem p s && mem q s && positive_edge g p q; negative = λ p q. mem p s && mem q s && negative_edge g p q }

module _ (g : SignedGraph) (so : Sound g) where
  -- the edges of a split are among them; `split_swap` gives those of the other side
  own : {s a b : ℕ} → Split g s a b → (p q : ℕ) → p ≢ q → mem p a ≡ true → mem q a ≡ true → (within g s).positive p q ≡ true
  own sp p q d x y = and_intro _ _ (and_intro _ _ (sp.either p ∙ or_left _ _ x) (sp.either q ∙ or_left _ _ y)) (sp.inside_l p q d x y)

  far : {s a b : ℕ} → Split g s a b → (p q : ℕ) → mem p a ≡ true → mem q b ≡ true → (within g s).negative p q ≡ true
  far sp p q x y =
      and_intro _ _ (and_intro _ _ (sp.either p ∙ or_left _ _ x) (sp.either q ∙ or_right (mem q _) _ y)) (sp.across p q x y)

  -- so a graph that has them has the split
  carried : (h : SignedGraph) {s a b : ℕ} → Inside (within g s) (all_edges h) → Split g s a b → Split h s a b
  carried h i sp =
      record {
        either = sp.either;
        one = sp.one;
        inside_l = λ p q d x y. i.positive p q (own sp p q d x y);
        inside_r = λ p q d x y. i.positive p q (own (split_swap g so sp) p q d x y);
        across = λ p q x y. i.negative p q (far sp p q x y);
      }

  module _ (k s : ℕ) where
    -- they fit k at p: p does, and so does each of its edges
    record FitsAt (p : ℕ) : Type 0 where
      vertex : vertex_fits k (within g s) p ≡ true
      positive : (q : ℕ) → (within g s).positive p q ≡ true → positive_fits k (within g s) p q ≡ true
      negative : (q : ℕ) → (within g s).negative p q ≡ true → negative_fits k (within g s) p q ≡ true

    -- a positive edge stays on its side, and a negative one goes across
    side_fits : {x y : ℕ} → Split g s x y → k ≤ size x → k ≤ size y → (p : ℕ) → mem p x ≡ true → FitsAt p
    unfolding vertex_fits positive_fits negative_fits
    side_fits {x} {y} sp i j p m =
        record {
          vertex = and_intro _ _ (many k x _ (p ∷ []) i (λ r d. own sp p r d.0 m))
              (rw sub-zero at (many k y _ [] j (λ r _. far sp p r m)));
          positive = λ q e.
              let n : negative_edge g p q ≡ false = so.apart p q (and_right (mem p s && mem q s) _ e) in
              let o : mem q x ≡ true = other_side g so (split_swap g so sp) q (and_right (mem p s) _ (and_left _ _ e))
              (refute (mem q y) (λ o. clash (negative_edge g p q) (sp.across p q m o) n)) in
              and_intro _ _ (many k x _ (p ∷ q ∷ []) i (λ r d l. and_intro _ _ (own sp p r d.0 m l) (own sp q r d.1.0 o l)))
              (rw sub-zero at (many k y _ [] j (λ r _ l. and_intro _ _ (far sp p r m l) (far sp q r o l))));
          negative = λ q e.
              let n : negative_edge g p q ≡ true = and_right (mem p s && mem q s) _ e in
              let d : p ≢ q = λ z. clash (negative_edge g p p) (ap (negative_edge g p) z ∙ n) (so.negatives.loopless p) in
              let o : mem q y ≡ true = other_side g so sp q (and_right (mem p s) _ (and_left _ _ e))
              (refute (mem q x) (λ o. clash (negative_edge g p q) n (so.apart p q (sp.inside_l p q d m o)))) in
              and_intro _ _ (many k x _ (p ∷ []) i (λ r d l. and_intro _ _ (own sp p r d.0 m l) (far (split_swap g so sp) q r o l)))
              (many k y _ (q ∷ []) j (λ r d l. and_intro _ _ (far sp p r m l) (own (split_swap g so sp) q r d.0 o l)));
        }

    within_fits : {a b : ℕ} → Split g s a b → k ≤ size a → k ≤ size b → Fits k (within g s)
    within_fits {a} {b} sp i j =
        record {
          vertex = λ p q e.
              (fits p (or_cases _ ((within g s).positive p q) ((within g s).negative p q) e
              (λ z. and_left _ _ (and_left _ _ z)) (λ z. and_left _ _ (and_left _ _ z)))).vertex;
          positive = λ p q e. (fits p (and_left _ _ (and_left _ _ e))).positive q e;
          negative = λ p q e. (fits p (and_left _ _ (and_left _ _ e))).negative q e;
        }
      where
        fits : (p : ℕ) → mem p s ≡ true → FitsAt p
        fits p m = cases _ (mem p a) (side_fits sp i j p) (λ e. side_fits (split_swap g so sp) j i p (other_side g so sp p m e))

-- ---- a graph and its reduction

-- a group of g is one of h where it is balanced, has its sides and is maximal there too
carried_group : {g h : SignedGraph} {k s : ℕ} (x : Group g k s) → Balanced h s → Sides h s x.left_side x.right_side
    → ((t : ℕ) → Balanced h t → Subset s t → t ≡ s) → Group h k s
carried_group x b sides most =
    record {
      balanced = b;
      left_side = x.left_side;
      right_side = x.right_side;
      sides = sides;
      enough = x.enough;
      maximal = most;
    }

-- the edges within a set of vertices that are not masked
within_unmasked : (g : SignedGraph) (s : ℕ) → Subset s (vertices g) → Inside (within g s) (unmasked_edges g)
within_unmasked g s u =
    record { positive = λ p q. ends (positive_edge g p q) p q; negative = λ p q. ends (negative_edge g p q) p q }
  where
    ends : (e : Bool) (p q : ℕ) → (mem p s && mem q s && e) ≡ true → (e && unmasked_ends g p q) ≡ true
    ends e p q h =
        let m = and_left (mem p s && mem q s) e h in
        and_intro e _ (and_right (mem p s && mem q s) e h)
        (and_intro _ _ (ap not (vertex_unmasked g p (u p (and_left _ _ m)))) (ap not (vertex_unmasked g q (u q (and_right (mem p s) _ m)))))

module _ (g r : SignedGraph) (k : ℕ) (so : Sound g) (sr : Sound r) (red : Reduction g k r) where
  same_vertices : vertices r ≡ vertices g
  unfolding vertices
  same_vertices = rw (red.same_n, red.same_masks)

  split_out : {s a b : ℕ} → Split r s a b → Split g s a b
  split_out {s} sp =
      carried r sr g (record {
        positive = λ p q e. and_left _ _ (red.inside.positive p q (and_right (mem p s && mem q s) _ e));
        negative = λ p q e. and_left _ _ (red.inside.negative p q (and_right (mem p s && mem q s) _ e));
      }) sp

  balanced_out : {s : ℕ} → Balanced r s → Balanced g s
  balanced_out b = split_balanced g so (rw same_vertices at b.usable) (split_out b.split)

  split_in : {s a b : ℕ} → Subset s (vertices g) → Split g s a b → k ≤ size a → k ≤ size b → Split r s a b
  split_in {s} u sp x y =
      carried g so r
      (red.largest (within g s)
      (record {
        positive = λ p q. ap₂ ◌&&◌ (and_comm (mem p s) (mem q s)) (so.positives.symmetric p q);
        negative = λ p q. ap₂ ◌&&◌ (and_comm (mem p s) (mem q s)) (so.negatives.symmetric p q);
      })
      (within_unmasked g s u) (within_fits g so k s sp x y)) sp

  balanced_in : {s a b : ℕ} → Balanced g s → Split g s a b → (k ≤ size a) × (k ≤ size b) → Balanced r s
  balanced_in b sp f = split_balanced r sr (rw same_vertices b.usable) (split_in b.usable sp f.0 f.1)

  module _ (s : ℕ) (h : Group r k s) where
    sides_out : Sides g s h.left_side h.right_side
    sides_out = record { split = split_out h.sides.split; lowest_left = h.sides.lowest_left }

    -- the sides of a larger set contain those of s, so they are large enough
    wider : {t x y : ℕ} → Subset s t → Split g t x y → (k ≤ size x) × (k ≤ size y)
    wider {t} {x} {y} w sp =
        let f = floor_least k _ _ h.enough in
        let s64 : s < 2 ^ 64 = usable_64 r sr s h.balanced.usable in
        let same-l = ap size (is_left g so s _ _ s64 sides_out) in
        let same-r = ap size (is_right g so s _ _ s64 sides_out) in
        ⊎_elim
        (λ e. (omega (arith, ap size e.0, size_part x s), omega (arith, ap size e.1, size_part y s)))
        (λ e. (omega (arith, ap size e.0, size_part x s), omega (arith, ap size e.1, size_part y s)))
        (one_split g so s (bit_and x s) (bit_and y s) (group_pos h) s64 (split_part g so w sp))

    group_out : Group g k s
    group_out =
        carried_group h (balanced_out h.balanced) sides_out (λ t b w. h.maximal t (balanced_in b b.split (wider w b.split)) w)

  module _ (s : ℕ) (h : Group g k s) where
    s64 : s < 2 ^ 64
    s64 = usable_64 g so s h.balanced.usable

    sides_in : Sides r s h.left_side h.right_side
    sides_in =
        let f = floor_least k _ _ h.enough in
        record { split = split_in h.balanced.usable h.sides.split f.0 f.1; lowest_left = h.sides.lowest_left }

    group_in : Group r k s
    group_in =
        carried_group h (balanced_in h.balanced h.sides.split (floor_least k _ _ h.enough)) sides_in
        (λ t b w. h.maximal t (balanced_out b) w)

    same_left : left r s ≡ left g s
    same_left = sym (is_left r sr s _ _ s64 sides_in) ∙ is_left g so s _ _ s64 h.sides

    same_right : right r s ≡ right g s
    same_right = sym (is_right r sr s _ _ s64 sides_in) ∙ is_right g so s _ _ s64 h.sides

  same_groups : groups r k ≡ groups g k
  unfolding groups
  same_groups =
      ap₂ (λ (f : ℕ → Bool) (n : ℕ). select f (subsets n))
      (fun_ext (λ s. iff _ _ (λ e. words_group g so k s (group_out s (group_words_law r sr k s e)))
      (λ e. words_group r sr k s (group_in s (group_words_law g so k s e))))) red.same_n

-- ---- reducing keeps the groups

-- r has the groups of g for k, each once and in the same order, and each with the same sides
pub record SameGroups (g r : SignedGraph) (k : ℕ) : Type 0 where
  pub listed : groups r k ≡ groups g k
  pub lefts : (s : ℕ) → Group g k s → left r s ≡ left g s
  pub rights : (s : ℕ) → Group g k s → right r s ≡ right g s

pub reduction_keeps : (g r : SignedGraph) (k : ℕ) → Sound g → Reduction g k r → SameGroups g r k
reduction_keeps g r k so red =
    let sr : Sound r = reduction_sound g k so red in
    record { listed = same_groups g r k so sr red; lefts = same_left g r k so sr red; rights = same_right g r k so sr red }

-- as the call answers: its graph is sound and has the groups, for every sound graph and every k that is not refused
pub reduce_keeps : (g : SignedGraph) (k : ℕ) → sound g ≡ true → k ≤ 32
    → (sound (reduced_left (reduced g k)) ≡ true) × SameGroups g (reduced_left (reduced g k)) k
reduce_keeps g k e small =
    let so : Sound g = to_sound g e in
    let red : Reduction g k (reduced_graph g k) = rounds_reduce g k so in
    let accepted : reduced_graph g k ≡ reduced_left (reduced g k) =
    sym (ap₂ (λ (a b : Bool). reduced_left (reduced_by (check_by a b) (reduced_graph g k) (looks g k))) e (le-leb k 32 small)) in
    subst (λ (r : SignedGraph). (sound r ≡ true) × SameGroups g r k) accepted
    (from_sound (reduced_graph g k) (reduction_sound g k so red), reduction_keeps g (reduced_graph g k) k so red)
