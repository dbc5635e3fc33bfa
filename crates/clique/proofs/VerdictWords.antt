-- The verdict is the first that applies, in document 01's words, and no other is. Assumes nothing.
use Prim.Native.Nat.{ℕ, zero, suc, ◌^◌, ◌≤◌, ◌<◌}
use native.Mathlib.Nat.{lt_of_lt_of_le}
use native.Mathlib.Omega.{arith}
use mathlib.Core.Path.{◌≡◌, refl, sym, ap, ap₂, ◌∙◌, subst}
use mathlib.Core.Logic.{◌≢◌, ◌⊎◌, inl, inr, ⊎_elim, ◌↔◌}
use mathlib.Core.Bool.{true, false, not, ◌&&◌}
use lib.Dec.{leb, ltb, eqb}
use borrow.Author.Tests.{ltb-false, leb-true, le-leb, eqb-true, eqb-false, eq-eqb, ne_eqb, not-true, not-false}
use Rattle.vertex_set.specs.Alternatives.{◌or_else◌}
use Rattle.vertex_set.specs.Sets.{mem, Subset, insert, size, lowest}
use Rattle.vertex_set.proofs.Alternatives.{applies, passes_by, first_of}
use Rattle.vertex_set.proofs.Booleans.{clash, refute, cases, and_intro, and_left, and_right, or_left, or_right, or_cases}
use Rattle.vertex_set.proofs.Collections.{insert_in}
use Rattle.vertex_set.proofs.Membership.{mem_lt, mem_pos, mem_none, set_ext}
use Rattle.vertex_set.proofs.LowestVertex.{lowest_in}
use Rattle.vertex_set.proofs.Sizes.{size_pos, pos_size}
use Rattle.vertex_set.proofs.SizeBounds.{size_one, one_only}
use Rattle.signed_graph.specs.declared.SignedGraph.{SignedGraph}
use Rattle.signed_graph.specs.declared.Refusal.{Refusal}
use Rattle.signed_graph.specs.Graphs.{edge, vertices}
use Rattle.signed_graph.specs.Thresholds.{Threshold}
use Rattle.signed_graph.proofs.Soundness.{Sound}
use Rattle.clique.specs.declared.Verdict.{Verdict}
use Rattle.clique.specs.declared.Verdict.TheVariants as Is
use Rattle.std.specs.Prelude.{Result, Ok}
use Rattle.clique.specs.Balance.{Balanced, balanced, left, right}
use Rattle.clique.specs.Groups.{floor, Group, extension}
use Rattle.clique.specs.Stages.{from_alone, from_masks, from_edges, from_triples, from_sides, from_extension}
use Rattle.clique.specs.Verdicts.{verdict_place, Lowest, FirstPair, FirstTriple, NoVertex, Outside, OneVertex, MaskedMember, MissingPair, negative_among, UnbalancedTriple, SmallSides, Extends, Applies, FirstVerdict, first_outside, out_of_range, first_masked, lacks_edge, missing_second, missing_first, odd_triple, odd_third, odd_second, odd_first, verdict}
use Rattle.clique.proofs.Balance.{usable_lt, balanced_words, words_balanced, balanced_sides, is_left, is_right}
use Rattle.clique.proofs.FirstFound.{Tests, found_lowest, lowest_found, found_pair, pair_found, found_triple, triple_found}
use Rattle.clique.proofs.Groups.{single_maximal, none_extends}
use Rattle.clique.proofs.Verdicts.{all_below, none_outside, inside, missing_none, odd_none, complete_lacks, even_balanced, balanced_even, group_verdict}

-- ---- what passes a test is what the words say, and the data are those that the tests find

no_vertex : (s : ℕ) → eqb s 0 ≡ true → NoVertex s
no_vertex s e p = ap (mem p) (eqb-true s 0 e) ∙ mem_none p

vertex_none : (s : ℕ) → NoVertex s → eqb s 0 ≡ true
vertex_none s h = eq-eqb s 0 (set_ext s 0 (λ p. h p ∙ sym (mem_none p)))

outside_tests : (g : SignedGraph) (s : ℕ) → s < 2 ^ 64 → Tests (Outside g s) 0 64 (λ p. mem p s && leb g.n p)
outside_tests g s s64 =
    record {
      range = λ p x. (omega arith, mem_lt 64 p s s64 x.member);
      holds = λ p _ _ t. record {
        member = and_left (mem p s) (leb g.n p) t;
        not_below = leb-true g.n p (and_right (mem p s) (leb g.n p) t);
      };
      passes = λ p x. and_intro (mem p s) (leb g.n p) x.member (le-leb g.n p x.not_below);
    }

masked_tests : (g : SignedGraph) (s : ℕ) → s < 2 ^ 64 → Tests (MaskedMember g s) 0 64 (λ p. mem p s && mem p g.masked)
masked_tests g s s64 =
    record {
      range = λ p x. (omega arith, mem_lt 64 p s s64 x.member);
      holds = λ p _ _ t. record {
        member = and_left (mem p s) (mem p g.masked) t;
        masked = and_right (mem p s) (mem p g.masked) t;
      };
      passes = λ p x. and_intro (mem p s) (mem p g.masked) x.member x.masked;
    }

module _ (g : SignedGraph) (s : ℕ) (s64 : s < 2 ^ 64) where
  outside_said : ltb (first_outside g s) 64 ≡ true → Lowest (Outside g s) (first_outside g s)
  unfolding first_outside
  outside_said = found_lowest (outside_tests g s s64) 64 refl

  outside_only : (p : ℕ) → Lowest (Outside g s) p → (ltb (first_outside g s) 64 ≡ true) × (first_outside g s ≡ p)
  unfolding first_outside
  outside_only = lowest_found (outside_tests g s s64) 64 refl

  masked_said : ltb (first_masked g s) 64 ≡ true → Lowest (MaskedMember g s) (first_masked g s)
  unfolding first_masked
  masked_said = found_lowest (masked_tests g s s64) 64 refl

  masked_only : (p : ℕ) → Lowest (MaskedMember g s) p → (ltb (first_masked g s) 64 ≡ true) × (first_masked g s ≡ p)
  unfolding first_masked
  masked_only = lowest_found (masked_tests g s s64) 64 refl

module _ (g : SignedGraph) (so : Sound g) (s : ℕ) where
  one_said : s < 2 ^ 64 → ((p : ℕ) → mem p s ≡ true → p < g.n) → eqb (size s) 1 ≡ true → OneVertex g s
  one_said s64 low e =
      let one : size s ≡ 1 = eqb-true (size s) 1 e in
      let m : mem (lowest s) s ≡ true = lowest_in s (size_pos s (omega arith)) s64 in
      record { vertex = lowest s; member = m; only = one_only s s64 one; below = low (lowest s) m }

  said_one : OneVertex g s → eqb (size s) 1 ≡ true
  said_one h = eq-eqb (size s) 1 (size_one s h.vertex (lt_of_lt_of_le h.below so.small) h.member h.only)

  one_below : OneVertex g s → (p : ℕ) → mem p s ≡ true → p < g.n
  one_below h p m = omega (arith, h.only p m, h.below)

  extends_tests : Tests (Extends g s) 0 g.n (λ p. not (mem p s) && balanced g (insert p s))
  extends_tests =
      record {
        range = λ p x. (omega arith, usable_lt g so (insert p s) x.balanced.usable p (insert_in p s));
        holds = λ p _ _ t. record {
          outside = not-true (mem p s) (and_left (not (mem p s)) (balanced g (insert p s)) t);
          balanced = balanced_words g so (insert p s) (and_right (not (mem p s)) (balanced g (insert p s)) t);
        };
        passes = λ p x.
            and_intro (not (mem p s)) (balanced g (insert p s)) (ap not x.outside) (words_balanced g so (insert p s) x.balanced);
      }

  extension_said : ltb (extension g s) g.n ≡ true → Lowest (Extends g s) (extension g s)
  unfolding extension
  extension_said = found_lowest extends_tests g.n (omega arith)

  extension_only : (p : ℕ) → Lowest (Extends g s) p → (ltb (extension g s) g.n ≡ true) × (extension g s ≡ p)
  unfolding extension
  extension_only = lowest_found extends_tests g.n (omega arith)

  module _ (u : Subset s (vertices g)) where
    missing_tests : (p : ℕ) → Tests (MissingPair g s p) (suc p) g.n (lacks_edge g s p)
    missing_tests p =
        record {
          range = λ q x. (x.ascending, usable_lt g so s u q x.higher);
          holds = λ q l _ t.
              let m = and_left (mem p s && mem q s) (not (edge g p q)) t in
              record {
                ascending = l;
                lower = and_left (mem p s) (mem q s) m;
                higher = and_right (mem p s) (mem q s) m;
                no_edge = not-true (edge g p q) (and_right (mem p s && mem q s) (not (edge g p q)) t);
              };
          passes = λ q x.
              and_intro (mem p s && mem q s) (not (edge g p q)) (and_intro (mem p s) (mem q s) x.lower x.higher) (ap not x.no_edge);
        }

    unbalanced_tests : (p q : ℕ) → p < q → Tests (UnbalancedTriple g s p q) (suc q) g.n (odd_triple g s p q)
    unbalanced_tests p q l =
        record {
          range = λ r x. (x.ascending.1, usable_lt g so s u r x.members.2);
          holds = λ r j _ t.
              let n : ℕ = negative_among g p q r in
              let m = and_left (mem p s && mem q s && mem r s) _ t in
              let m2 = and_left (mem p s && mem q s) (mem r s) m in
              record {
                ascending = (l, j);
                members = (and_left (mem p s) (mem q s) m2, and_right (mem p s) (mem q s) m2, and_right (mem p s && mem q s) (mem r s) m);
                odd_negatives = or_cases ((n ≡ 1) ⊎ (n ≡ 3)) (eqb n 1) (eqb n 3) (and_right (mem p s && mem q s && mem r s) _ t)
                    (λ e. inl (eqb-true n 1 e)) (λ e. inr (eqb-true n 3 e));
              };
          passes = λ r x.
              let n : ℕ = negative_among g p q r in
              let m2 = and_intro (mem p s) (mem q s) x.members.0 x.members.1 in
              and_intro (mem p s && mem q s && mem r s) _ (and_intro (mem p s && mem q s) (mem r s) m2 x.members.2)
              (⊎_elim (λ e. or_left (eqb n 1) (eqb n 3) (eq-eqb n 1 e)) (λ e. or_right (eqb n 1) (eqb n 3) (eq-eqb n 3 e)) x.odd_negatives);
        }

    missing_said : ltb (missing_first g s) g.n ≡ true → FirstPair (MissingPair g s) (missing_first g s) (missing_second g s (missing_first g s))
    unfolding missing_first missing_second
    missing_said = found_pair (λ p q _. omega arith) (λ p _. missing_tests p) g.n (omega arith)

    missing_only : (p q : ℕ) → FirstPair (MissingPair g s) p q
        → (ltb (missing_first g s) g.n ≡ true) × (missing_first g s ≡ p) × (missing_second g s p ≡ q)
    unfolding missing_first missing_second
    missing_only = pair_found (λ p q _. omega arith) (λ p _. missing_tests p) g.n (omega arith)

    unbalanced_said : ltb (odd_first g s) g.n ≡ true
        → FirstTriple (UnbalancedTriple g s) (odd_first g s) (odd_second g s (odd_first g s))
        (odd_third g s (odd_first g s) (odd_second g s (odd_first g s)))
    unfolding odd_first odd_second odd_third
    unbalanced_said = found_triple (λ p q r x. x.ascending.0) unbalanced_tests

    unbalanced_only : (p q r : ℕ) → FirstTriple (UnbalancedTriple g s) p q r
        → (ltb (odd_first g s) g.n ≡ true) × (odd_first g s ≡ p) × (odd_second g s p ≡ q) × (odd_third g s p q ≡ r)
    unfolding odd_first odd_second odd_third
    unbalanced_only = triple_found (λ p q r x. x.ascending.0) unbalanced_tests

-- ---- the verdict is the first that applies

module _ (g : SignedGraph) (so : Sound g) (s : ℕ) (s64 : s < 2 ^ 64) (k : Threshold) where
  abbrev l : ℕ
  l = left g s

  abbrev r : ℕ
  r = right g s

  small_said : balanced g s ≡ true → not (floor k (size l) (size r)) ≡ true → SmallSides g k s (size l) (size r)
  small_said b e =
      record {
        balanced = balanced_words g so s b;
        left_side = l;
        right_side = r;
        sides = balanced_sides g so s b;
        left_size = refl;
        right_size = refl;
        below_floor = not-true (floor k (size l) (size r)) e;
      }

  group_said : balanced g s ≡ true → not (floor k (size l) (size r)) ≡ false → ltb (extension g s) g.n ≡ false → Group g k s
  group_said b e none =
      record {
        balanced = balanced_words g so s b;
        left_side = l;
        right_side = r;
        sides = balanced_sides g so s b;
        enough = not-false (floor k (size l) (size r)) e;
        maximal = single_maximal g so s (balanced_words g so s b) (none_extends g so s (ltb-false (extension g s) g.n none));
      }

  verdict_applies : Applies g k s (verdict g k s)
  unfolding verdict
  verdict_applies =
      first_of (Applies g k s) (eqb s 0) _ _ (no_vertex s) (λ e1.
      first_of (Applies g k s) (ltb (first_outside g s) 64) _ _ (outside_said g s s64) (λ e2.
      let low = all_below g so s s64 e2 in
      first_of (Applies g k s) (eqb (size s) 1) _ _ (one_said g so s s64 low) (λ e3.
      first_of (Applies g k s) (ltb (first_masked g s) 64) _ _ (masked_said g s s64) (λ e4.
      let u = inside g so s s64 low e4 in
      first_of (Applies g k s) (ltb (missing_first g s) g.n) _ _ (missing_said g so s u) (λ e5.
      first_of (Applies g k s) (ltb (odd_first g s) g.n) _ _ (unbalanced_said g so s u) (λ e6.
      let b = even_balanced g so s u (missing_none g s e5) (odd_none g s e6) in
      first_of (Applies g k s) (not (floor k (size l) (size r))) _ _ (small_said b) (λ e7.
      first_of (Applies g k s) (ltb (extension g s) g.n) _ _ (extension_said g so s) (λ e8.
      (group_said b e7 e8, balanced_sides g so s b)))))))))

  -- where no verdict at a place before i applies, the tests of these fail
  module _ (i : ℕ) (none : (w : Verdict) → verdict_place w < i → Applies g k s w → ⊥) where
    skip_empty : 1 < i → verdict g k s ≡ (out_of_range g s or_else from_alone g k s)
    unfolding verdict
    skip_empty h = passes_by (eqb s 0) _ _ (refute (eqb s 0) (λ t. none Is.Empty h (no_vertex s t)))

    no_outside : 2 < i → ltb (first_outside g s) 64 ≡ false
    no_outside h = refute (ltb (first_outside g s) 64) (λ t. none (Is.OutOfRange _) h (outside_said g s s64 t))

    low : 2 < i → (p : ℕ) → mem p s ≡ true → p < g.n
    low h = all_below g so s s64 (no_outside h)

    skip_range : 2 < i → verdict g k s ≡ from_alone g k s
    skip_range h = skip_empty (omega arith) ∙ passes_by (ltb (first_outside g s) 64) _ _ (no_outside h)

    not_one : 3 < i → eqb (size s) 1 ≡ false
    not_one h = refute (eqb (size s) 1) (λ t. none Is.Alone h (one_said g so s s64 (low (omega arith)) t))

    skip_one : 3 < i → verdict g k s ≡ from_masks g k s
    skip_one h = skip_range (omega arith) ∙ passes_by (eqb (size s) 1) _ _ (not_one h)

    no_masked : 4 < i → ltb (first_masked g s) 64 ≡ false
    no_masked h = refute (ltb (first_masked g s) 64) (λ t. none (Is.Masked _) h (masked_said g s s64 t))

    usable : 4 < i → Subset s (vertices g)
    usable h = inside g so s s64 (low (omega arith)) (no_masked h)

    skip_masks : 4 < i → verdict g k s ≡ from_edges g k s
    skip_masks h = skip_one (omega arith) ∙ passes_by (ltb (first_masked g s) 64) _ _ (no_masked h)

    no_missing : 5 < i → ltb (missing_first g s) g.n ≡ false
    no_missing h =
        refute (ltb (missing_first g s) g.n) (λ t. none (Is.MissingEdge _ _) h (missing_said g so s (usable (omega arith)) t))

    skip_edges : 5 < i → verdict g k s ≡ from_triples g k s
    skip_edges h = skip_masks (omega arith) ∙ passes_by (ltb (missing_first g s) g.n) _ _ (no_missing h)

    no_unbalanced : 6 < i → ltb (odd_first g s) g.n ≡ false
    no_unbalanced h =
        refute (ltb (odd_first g s) g.n) (λ t. none (Is.Unbalanced _ _ _) h (unbalanced_said g so s (usable (omega arith)) t))

    skip_triples : 6 < i → verdict g k s ≡ from_sides g k s
    skip_triples h = skip_edges (omega arith) ∙ passes_by (ltb (odd_first g s) g.n) _ _ (no_unbalanced h)

    is_balanced : 6 < i → balanced g s ≡ true
    is_balanced h =
        even_balanced g so s (usable (omega arith)) (missing_none g s (no_missing (omega arith))) (odd_none g s (no_unbalanced h))

    skip_sides : 7 < i → verdict g k s ≡ from_extension g s
    skip_sides h =
        skip_triples (omega arith)
        ∙ passes_by (not (floor k (size l) (size r))) _ _
        (refute (not (floor k (size l) (size r))) (λ t. none (Is.TooSmall _ _) h (small_said (is_balanced (omega arith)) t)))

  first_is : (v : Verdict) → FirstVerdict g k s v → verdict g k s ≡ v
  unfolding verdict
  first_is Is.Empty h = applies (eqb s 0) _ _ (vertex_none s h.applies)
  first_is (Is.OutOfRange p) h =
      let f = outside_only g s s64 p h.applies in
      skip_empty 2 h.first (omega arith) ∙ applies (ltb (first_outside g s) 64) _ _ f.0 ∙ ap Is.OutOfRange f.1
  first_is Is.Alone h = skip_range 3 h.first (omega arith) ∙ applies (eqb (size s) 1) _ _ (said_one g so s h.applies)
  first_is (Is.Masked p) h =
      let f = masked_only g s s64 p h.applies in
      skip_one 4 h.first (omega arith) ∙ applies (ltb (first_masked g s) 64) _ _ f.0 ∙ ap Is.Masked f.1
  first_is (Is.MissingEdge p q) h =
      let f = missing_only g so s (usable 5 h.first (omega arith)) p q h.applies in
      skip_masks 5 h.first (omega arith) ∙ applies (ltb (missing_first g s) g.n) _ _ f.0 ∙ cc (f.1, f.2)
  first_is (Is.Unbalanced p q r) h =
      let f = unbalanced_only g so s (usable 6 h.first (omega arith)) p q r h.applies in
      skip_edges 6 h.first (omega arith) ∙ applies (ltb (odd_first g s) g.n) _ _ f.0 ∙ cc (f.1, f.2, f.3)
  first_is (Is.TooSmall x y) h =
      let a = h.applies in
      let ex : size l ≡ x = ap size (sym (is_left g so s a.left_side a.right_side s64 a.sides)) ∙ sym a.left_size in
      let ey : size r ≡ y = ap size (sym (is_right g so s a.left_side a.right_side s64 a.sides)) ∙ sym a.right_size in
      skip_triples 7 h.first (omega arith)
      ∙ applies (not (floor k (size l) (size r))) _ _ (ap not (ap₂ (floor k) ex ey ∙ a.below_floor)) ∙ ap₂ Is.TooSmall ex ey
  first_is (Is.Extensible p) h =
      let f = extension_only g so s p h.applies in
      skip_sides 8 h.first (omega arith) ∙ applies (ltb (extension g s) g.n) _ _ f.0 ∙ ap Is.Extensible f.1
  first_is (Is.Group x y) h =
      group_verdict g so s s64 k h.applies.0
      ∙ ap₂ Is.Group (sym (is_left g so s x y s64 h.applies.1)) (sym (is_right g so s x y s64 h.applies.1))

  -- a verdict that applies does not stand before it
  not_before : (i : ℕ) (w : Verdict) → verdict_place w < i → verdict_place w < verdict_place (verdict g k s) → Applies g k s w → ⊥
  not_before zero w b h a = omega arith
  not_before (suc i) w b h a =
      omega (arith, ap verdict_place (first_is w (record { applies = a; first = λ x c. not_before i x (omega arith) (omega arith) })))

  pub verdict_first : FirstVerdict g k s (verdict g k s)
  verdict_first = record { applies = verdict_applies; first = λ w h. not_before (verdict_place (verdict g k s)) w h h }

  pub first_verdict : (v : Verdict) → FirstVerdict g k s v → v ≡ verdict g k s
  first_verdict v h = sym (first_is v h)

  -- alone, at every threshold, exactly where the set has one vertex and that is below n
  pub alone_exact : OneVertex g s ↔ (verdict g k s ≡ Is.Alone)
  unfolding verdict
  alone_exact = (
    λ h.
        passes_by (eqb s 0) _ _ (ne_eqb s 0 (λ z. omega (arith, mem_pos h.vertex s h.member)))
        ∙ passes_by (ltb (first_outside g s) 64) _ _ (none_outside g so s s64 (one_below g so s h))
        ∙ applies (eqb (size s) 1) _ _ (said_one g so s h),
    λ e. subst (Applies g k s) e verdict_applies,
  )

  -- masked, at every threshold, exactly where s has two vertices or more, all below n, and some of them are masked; p is the lowest
  pub masked_exact : (p : ℕ)
      → (Lowest (MaskedMember g s) p × (2 ≤ size s) × ((q : ℕ) → mem q s ≡ true → q < g.n)) ↔ (verdict g k s ≡ Is.Masked p)
  unfolding verdict
  masked_exact p = (
    λ h.
        let f = masked_only g s s64 p h.0 in
        passes_by (eqb s 0) _ _ (ne_eqb s 0 (λ z. omega (arith, mem_pos p s h.0.holds.member)))
        ∙ passes_by (ltb (first_outside g s) 64) _ _ (none_outside g so s s64 h.2)
        ∙ passes_by (eqb (size s) 1) _ _ (ne_eqb (size s) 1 (λ z. omega (arith, h.1)))
        ∙ applies (ltb (first_masked g s) 64) _ _ f.0 ∙ ap Is.Masked f.1,
    λ e.
        let h : FirstVerdict g k s (Is.Masked p) = subst (FirstVerdict g k s) e verdict_first in
        let one = eqb-false (size s) 1 (not_one 4 h.first (omega arith)) in
        let some = pos_size s (mem_pos p s h.applies.holds.member) s64 in
        (h.applies, omega arith, low 4 h.first (omega arith)),
  )

  -- the answer of a call that is accepted
  pub as_first : (x : Verdict) → x ≡ verdict g k s → (v : Verdict) → ◌≡◌ {A = Result Verdict Refusal} (Ok x) (Ok v) → FirstVerdict g k s v
  as_first x e v h = let same : verdict g k s ≡ v = cc in subst (FirstVerdict g k s) same verdict_first

  pub verdict_group : (x y : ℕ) → verdict g k s ≡ Is.Group x y → Group g k s
  verdict_group x y e = (subst (Applies g k s) e verdict_applies).0

-- ---- a complete set has three vertices with one or three negative edges exactly where it is not balanced

module _ (g : SignedGraph) (so : Sound g) (s : ℕ) (u : Subset s (vertices g))
    (complete : (p q : ℕ) → p ≢ q → mem p s ≡ true → mem q s ≡ true → edge g p q ≡ true) where
  pub unbalanced_exact : ((p : ℕ) × (q : ℕ) × (r : ℕ) × UnbalancedTriple g s p q r) ↔ (Balanced g s → ⊥)
  unbalanced_exact = (
    λ x b.
        let t = x.3 in
        let l = t.ascending in
        clash (odd_triple g s x.0 x.1 x.2) ((unbalanced_tests g so s u x.0 x.1 l.0).passes x.2 t)
        (balanced_even g so s u (words_balanced g so s b) x.0 x.1 x.2 l.0 l.1 (usable_lt g so s u x.2 t.members.2)),
    λ x.
        cases _ (ltb (odd_first g s) g.n)
        (λ h. (_, _, _, (unbalanced_said g so s u h).holds))
        (λ h. absurd (x (balanced_words g so s (even_balanced g so s u (λ p q l _. complete_lacks g s complete p q l) (odd_none g s h))))),
  )
