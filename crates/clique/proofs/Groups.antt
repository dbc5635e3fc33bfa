-- Groups: the test by single vertices says what the words say, and the list holds exactly the groups, strictly sorted. Assumes nothing.
use Prim.Native.Nat.{ℕ, ◌+◌, ◌≤◌, ◌<◌}
use native.Mathlib.Omega.{arith}
use native.Mathlib.Decide.{dec_lt}
use mathlib.Core.Path.{◌≡◌, sym, ap, ap₂, ◌∙◌}
use mathlib.Core.Logic.{◌↔◌}
use mathlib.Core.Bool.{Bool, true, false, not, ◌&&◌}
use mathlib.Core.List.{Memᴰ}
use lib.Dec.{leb, eqb}
use borrow.Author.Tests.{leb-true, le-leb, eqb-true, eq-eqb, not-true}
use Rattle.vertex_set.specs.Lists.{Sorted}
use Rattle.vertex_set.specs.Sets.{mem, Subset, insert, size}
use Rattle.vertex_set.proofs.Lists.{selected, select_keeps, sorted_select}
use Rattle.vertex_set.proofs.Booleans.{clash, cases, iff, and_intro, and_left, and_right}
use Rattle.vertex_set.proofs.Ranges.{Found, found}
use Rattle.vertex_set.proofs.Membership.{mem_ext, lt_of_members}
use Rattle.vertex_set.proofs.Collections.{insert_in, insert_cases, insert_keeps}
use Rattle.vertex_set.proofs.Sizes.{size_pos}
use Rattle.signed_graph.specs.declared.SignedGraph.{SignedGraph}
use Rattle.signed_graph.proofs.Soundness.{Sound}
use Rattle.signed_graph.specs.Thresholds.{Threshold}
use Rattle.clique.specs.Balance.{Balanced, balanced, left, right}
use Rattle.clique.specs.Groups.{floor, Group, extension, is_group, groups}
use Rattle.vertex_set.specs.Order.{difference, precedes, subsets}
use Rattle.clique.proofs.Balance.{usable_lt, usable_64, split_size, balanced_words, words_balanced, balanced_sides, is_left, is_right, hereditary}
use Rattle.vertex_set.proofs.Order.{agree_below, differ_at, subsets_sorted, subsets_all}

-- ---- sides that are large enough

module _ (k l r : ℕ) where
  -- they have two vertices in all
  pub floor_two : floor k l r ≡ true → 2 ≤ l + r
  unfolding floor
  floor_two e = leb-true 2 (l + r) (and_left _ (leb k l) (and_left _ (leb k r) e))

  -- and k each
  pub floor_least : floor k l r ≡ true → (k ≤ l) × (k ≤ r)
  unfolding floor
  floor_least e =
      (leb-true k l (and_right (leb 2 (l + r)) _ (and_left _ (leb k r) e)), leb-true k r (and_right (leb 2 (l + r) && leb k l) _ e))

  pub least_floor : 2 ≤ l + r → k ≤ l → k ≤ r → floor k l r ≡ true
  unfolding floor
  least_floor two a b =
      and_intro (leb 2 (l + r) && leb k l) (leb k r) (and_intro (leb 2 (l + r)) (leb k l) (le-leb 2 (l + r) two) (le-leb k l a)) (le-leb k r b)

  -- for k = 0 two in all are enough
  pub floor_at_zero : k ≡ 0 → floor k l r ≡ leb 2 (l + r)
  floor_at_zero zero =
      iff (floor k l r) (leb 2 (l + r)) (λ e. le-leb 2 (l + r) (floor_two e)) (λ e. least_floor (leb-true 2 (l + r) e) (omega arith) (omega arith))

  -- from k = 1 on, k each is enough
  pub floor_from_one : 1 ≤ k → floor k l r ≡ (leb k l && leb k r)
  floor_from_one pos =
      iff (floor k l r) (leb k l && leb k r)
      (λ e. let f = floor_least e in and_intro (leb k l) (leb k r) (le-leb k l f.0) (le-leb k r f.1))
      (λ e.
      let a : k ≤ l = leb-true k l (and_left (leb k l) (leb k r) e) in
      let b : k ≤ r = leb-true k r (and_right (leb k l) (leb k r) e) in
      least_floor (omega arith) a b)

-- larger sides are large enough too
pub floor_mono : (k l r m n : ℕ) → l ≤ m → r ≤ n → floor k l r ≡ true → floor k m n ≡ true
floor_mono k l r m n a b e =
    let f = floor_least k l r e in
    least_floor k m n (omega (arith, floor_two k l r e)) (omega (arith, f.0)) (omega (arith, f.1))

-- ---- a group has two vertices or more

module _ {g : SignedGraph} {k : Threshold} {s : ℕ} (h : Group g k s) where
  pub group_two : 2 ≤ size s
  group_two = omega (arith, split_size h.sides.split, floor_two k _ _ h.enough)

  pub group_pos : 0 < s
  group_pos = size_pos s (omega (arith, group_two))

module _ (g : SignedGraph) (so : Sound g) where
  -- ---- maximal: no single vertex extends

  pub single_maximal : (s : ℕ) → Balanced g s → ((p : ℕ) → mem p s ≡ false → Balanced g (insert p s) → ⊥)
      → (t : ℕ) → Balanced g t → Subset s t → t ≡ s
  single_maximal s b none t c w = go (dec_lt d 64)
    where
      d : ℕ
      d = difference t s

      -- d is in t alone: it is in one of them, and s has nothing that t lacks
      only_t : d < 64 → (mem d s ≡ false) × (mem d t ≡ true)
      only_t x =
          cases ((mem d s ≡ false) × (mem d t ≡ true)) (mem d t)
          (λ m. (differ_at t s x ∙ ap not m, m))
          (λ m. clash (mem d t) (w d (differ_at t s x ∙ ap not m)) m)

      go : Dec (d < 64) → t ≡ s
      go (no x) = mem_ext 64 t s (usable_64 g so t c.usable) (usable_64 g so s b.usable) (λ j l. agree_below t s j (omega arith))
      go (yes x) =
          absurd (none d (only_t x).0 (hereditary g so (insert d s) t (λ p m. inside p m) c))
        where
          inside : (p : ℕ) → mem p (insert d s) ≡ true → mem p t ≡ true
          inside p m =
              insert_cases (mem p t ≡ true) p d s m (w p) (λ e. ap (λ (z : ℕ). mem z t) e ∙ (only_t x).1)

  pub maximal_single : (s : ℕ) → ((t : ℕ) → Balanced g t → Subset s t → t ≡ s) → (p : ℕ) → mem p s ≡ false → Balanced g (insert p s) → ⊥
  maximal_single s most p out b =
      clash (mem p s) (ap (mem p) (sym (most (insert p s) b (λ q m. insert_keeps q p s m))) ∙ insert_in p s) out

  -- ---- the search for an extension

  extension_found : (s : ℕ) → Found (λ p. not (mem p s) && balanced g (insert p s)) g.n 0 (extension g s)
  unfolding extension
  extension_found s = found (λ p. not (mem p s) && balanced g (insert p s)) g.n 0

  pub none_extends : (s : ℕ) → g.n ≤ extension g s → (p : ℕ) → mem p s ≡ false → Balanced g (insert p s) → ⊥
  none_extends s e p out b =
      let l : p < g.n = usable_lt g so (insert p s) b.usable p (insert_in p s) in
      clash (not (mem p s) && balanced g (insert p s))
      (and_intro (not (mem p s)) (balanced g (insert p s)) (ap not out) (words_balanced g so (insert p s) b))
      ((extension_found s).miss p (omega arith) (omega arith))

  pub extends_none : (s : ℕ) → ((p : ℕ) → mem p s ≡ false → Balanced g (insert p s) → ⊥) → extension g s ≡ g.n
  extends_none s none = go (dec_lt (extension g s) g.n)
    where
      go : Dec (extension g s < g.n) → extension g s ≡ g.n
      go (no x) = omega (arith, (extension_found s).high)
      go (yes x) =
          let p : ℕ = extension g s in
          let t : (not (mem p s) && balanced g (insert p s)) ≡ true = (extension_found s).hit (omega arith) in
          absurd (none p (not-true (mem p s) (and_left (not (mem p s)) (balanced g (insert p s)) t))
          (balanced_words g so (insert p s) (and_right (not (mem p s)) (balanced g (insert p s)) t)))

  -- ---- the test says what the words say

  module _ (k : Threshold) (s : ℕ) where
    abbrev c1 : Bool
    c1 = balanced g s

    abbrev c2 : Bool
    c2 = floor k (size (left g s)) (size (right g s))

    abbrev c3 : Bool
    c3 = eqb (extension g s) g.n

    pub group_words_law : is_group g k s ≡ true → Group g k s
    unfolding is_group
    group_words_law e =
        let e2 : (c1 && c2) ≡ true = and_left (c1 && c2) c3 e in
        let e1 : c1 ≡ true = and_left c1 c2 e2 in
        let b : Balanced g s = balanced_words g so s e1 in
        record {
          balanced = b;
          left_side = left g s;
          right_side = right g s;
          sides = balanced_sides g so s e1;
          enough = and_right c1 c2 e2;
          maximal = single_maximal s b (none_extends s (omega (arith, eqb-true (extension g s) g.n (and_right (c1 && c2) c3 e))));
        }

    pub words_group : Group g k s → is_group g k s ≡ true
    unfolding is_group
    words_group h =
        let s64 = usable_64 g so s h.balanced.usable in
        and_intro (c1 && c2) c3
        (and_intro c1 c2 (words_balanced g so s h.balanced)
        (ap₂ (λ (l r : ℕ). floor k (size l) (size r))
        (sym (is_left g so s h.left_side h.right_side s64 h.sides))
        (sym (is_right g so s h.left_side h.right_side s64 h.sides)) ∙ h.enough))
        (eq-eqb (extension g s) g.n (extends_none s (maximal_single s h.maximal)))

  -- ---- the list of groups

  pub groups_sorted : (k : Threshold) → Sorted precedes (groups g k)
  unfolding groups
  groups_sorted k = sorted_select precedes (is_group g k) (subsets g.n) (subsets_sorted g.n so.small)

  pub groups_exact : (k : Threshold) (s : ℕ) → Memᴰ s (groups g k) ↔ Group g k s
  unfolding groups
  groups_exact k s = (
    λ m. group_words_law k s (selected (is_group g k) s (subsets g.n) m),
    λ h. select_keeps (is_group g k) s (subsets g.n) (words_group k s h)
        (subsets_all g.n s (lt_of_members g.n s (usable_lt g so s h.balanced.usable))),
  )
