-- How many looks a round takes, counted by the sizes of rows: each edge with a vertex of look once. Assumes nothing.
use Prim.Native.Nat.{ℕ, ◌+◌, ◌-◌, ◌^◌, ◌<◌}
use native.Mathlib.Omega.{arith}
use native.Mathlib.Decide.{dec_lt}
use mathlib.Core.Path.{◌≡◌, refl, sym, ap, ap₂, ◌∙◌, subst}
use mathlib.Core.Bool.{Bool, true, false, not, ◌&&◌, ◌||◌, and-true, or-false}
use lib.Dec.{ltb, eqb}
use lib.Bits.{bit_and, bit_or}
use lib.ListN.{get_or}
use borrow.Author.Tests.{ltb-true, lt-ltb, le-ltb, eq-eqb, ne_eqb}
use Rattle.vertex_set.specs.Ranges.{count, sum}
use Rattle.vertex_set.specs.Sets.{mem, size, lowest}
use Rattle.vertex_set.specs.Members.{TakesLowest}
use Rattle.vertex_set.proofs.Booleans.{clash, iff, and_intro, and_left, and_right, fails_left, fails_right}
use Rattle.vertex_set.proofs.Ranges.{count_cong, none_counted}
use Rattle.vertex_set.proofs.Sizes.{count_apart}
use Rattle.vertex_set.proofs.Sums.{sum_cong, sum_add, sum_none, sum_turned, sum_without, count_part}
use Rattle.vertex_set.proofs.Membership.{mem_none, mem_or, mem_and, mem_not}
use Rattle.vertex_set.proofs.LowestVertex.{rest, rest_lt, mem_rest, lowest_in, lowest_lt}
use Rattle.vertex_set.proofs.Traversals.{Traversal, traversal_begin, rest_above, above_rest, traversal_step}
use Rattle.signed_graph.specs.declared.SignedGraph.{SignedGraph}
use Rattle.signed_graph.specs.Graphs.{edge}
use Rattle.signed_graph.proofs.Soundness.{Sound, edge_turned, edge_loopless}
use Rattle.reduction.specs.Reductions.{edges_at, looks_at}

module _ (g : SignedGraph) (look : ℕ) where
  -- at p are counted its edges but those to a later vertex of look, where they are counted
  abbrev counted : ℕ → ℕ → Bool
  counted p q = edge g p q && not (mem q look && ltb p q)

  -- what is counted at the vertices that are left
  abbrev pending : ℕ → ℕ
  pending left = sum 64 (λ p. count 64 (λ q. mem p left && counted p q))

  -- ---- all of it: each edge with a vertex of look

  module _ (so : Sound g) where
    abbrev here : ℕ → ℕ → Bool
    here p q = mem p look && counted p q

    -- the other vertex is lower or higher
    either : (p q : ℕ) → here p q ≡ (ltb q p && here p q || ltb p q && here p q)
    either p q = go (dec_lt q p) (dec_lt p q)
      where
        go : Dec (q < p) → Dec (p < q) → here p q ≡ (ltb q p && here p q || ltb p q && here p q)
        go (yes x) y = sym (ap₂ (λ (a b : Bool). a && here p q || b && here p q) (lt-ltb q p x) (le-ltb p q (omega arith)) ∙ or-false (here p q))
        go (no x) (yes y) = sym (ap₂ (λ (a b : Bool). a && here p q || b && here p q) (le-ltb q p (omega arith)) (lt-ltb p q y))
        go (no x) (no y) =
            let z : q ≡ p = omega arith in
            let no_edge : edge g p q ≡ false = ap (edge g p) z ∙ edge_loopless g so p in
            fails_right (mem p look) (counted p q) (fails_left (edge g p q) (not (mem q look && ltb p q)) no_edge)
            ∙ sym (ap₂ (λ (a b : Bool). a && here p q || b && here p q) (le-ltb q p (omega arith)) (le-ltb p q (omega arith)))

    one : (p q : ℕ) → (ltb q p && here p q) ≡ true → (ltb p q && here p q) ≡ false
    one p q t = fails_left (ltb p q) (here p q) (le-ltb p q (let l : q < p = ltb-true q p (and_left (ltb q p) _ t) in omega arith))

    -- an edge is counted at its higher vertex where look has that, and else at its lower one
    lower : (q : ℕ) → count q (λ p. here q p) + count q (λ p. here p q) ≡ count q (λ p. edge g p q && (mem p look || mem q look))
    lower q =
        ap₂ ◌+◌
        (count_cong (λ p. here q p) (λ p. mem q look && edge g p q) q (λ p l.
        ap₂ (λ (a b : Bool). mem q look && (a && not (mem p look && b))) (edge_turned g so q p) (le-ltb q p (omega arith))
        ∙ last (mem q look) (edge g p q) (mem p look)))
        (count_cong (λ p. here p q) (λ p. mem p look && (edge g p q && not (mem q look))) q (λ p l.
        ap (λ (b : Bool). mem p look && (edge g p q && not (mem q look && b))) (lt-ltb p q l)
        ∙ ap (λ (b : Bool). mem p look && (edge g p q && not b)) (and-true (mem q look))))
        ∙ sym (count_apart (λ p. edge g p q && (mem p look || mem q look)) (λ p. mem q look && edge g p q)
        (λ p. mem p look && (edge g p q && not (mem q look))) q
        (λ p. parts (edge g p q) (mem p look) (mem q look)) (λ p. apart (edge g p q) (mem p look) (mem q look)))
      where
        last : (a e b : Bool) → (a && (e && not (b && false))) ≡ (a && e)
        last a e true = ap (λ (x : Bool). a && x) (and-true e)
        last a e false = ap (λ (x : Bool). a && x) (and-true e)

        parts : (e a b : Bool) → (e && (a || b)) ≡ (b && e || a && (e && not b))
        parts true true true = refl
        parts true true false = refl
        parts true false true = refl
        parts true false false = refl
        parts false true true = refl
        parts false true false = refl
        parts false false true = refl
        parts false false false = refl

        apart : (e a b : Bool) → (b && e) ≡ true → (a && (e && not b)) ≡ false
        apart e a true t = fails_right a (e && false) (fails_right e false refl)
        apart e a false t = clash false t refl

    all_counted : pending look ≡ edges_at g look
    unfolding edges_at
    all_counted =
        sum_cong _ (λ p. count 64 (λ q. ltb q p && here p q) + count 64 (λ q. ltb p q && here p q)) 64 (λ p _.
        count_apart (here p) (λ q. ltb q p && here p q) (λ q. ltb p q && here p q) 64 (either p) (one p))
        ∙ sum_add (λ p. count 64 (λ q. ltb q p && here p q)) (λ p. count 64 (λ q. ltb p q && here p q)) 64
        ∙ ap₂ ◌+◌
        (sum_cong _ (λ q. count q (λ p. here q p)) 64 (λ q l. count_part (here q) q 64 (omega arith)))
        (sum_turned (λ p q. ltb p q && here p q) 64 64
        ∙ sum_cong _ (λ q. count q (λ p. here p q)) 64 (λ q l. count_part (λ p. here p q) q 64 (omega arith)))
        ∙ sym (sum_add (λ q. count q (λ p. here q p)) (λ q. count q (λ p. here p q)) 64)
        ∙ sum_cong _ _ 64 (λ q _. lower q)

  -- ---- the loop over the vertices of look

  -- total has the vertices, and what was counted at those that are not left
  pub record Counting (left total : ℕ) : Type 0 where
    pub traversal : Traversal look left
    pub adds : total + pending left ≡ looks_at g look

  pub counting_begin : Sound g → look < 2 ^ 64 → Counting look (size look)
  unfolding looks_at
  counting_begin so h = record { traversal = traversal_begin look h; adds = ap (λ (x : ℕ). size look + x) (all_counted so) }

  module _ {left total : ℕ} (d : Counting left total) (pos : 0 < left) where
    abbrev p : ℕ
    p = lowest left

    fits : left < 2 ^ 64
    fits = d.traversal.fits

    later : (q : ℕ) → mem q (rest left) ≡ (mem q look && ltb p q)
    later q =
        iff (mem q (rest left)) (mem q look && ltb p q)
        (λ m. let a = rest_above d.traversal pos q m in and_intro (mem q look) (ltb p q) a.0 (lt-ltb p q a.1))
        (λ m. above_rest d.traversal pos q (and_left (mem q look) (ltb p q) m) (ltb-true p q (and_right (mem q look) (ltb p q) m)))

    -- the row of p without those that are left behind it
    abbrev row : ℕ → ℕ
    row v = bit_and (bit_or (get_or g.positive v 0) (get_or g.negative v 0)) ((2 ^ 64 - 1) - rest left)

    size_row : size (row p) ≡ count 64 (counted p)
    unfolding size
    size_row =
        count_cong (λ q. mem q (row p)) (counted p) 64 (λ q l.
        mem_and q _ ((2 ^ 64 - 1) - rest left)
        ∙ ap₂ ◌&&◌ (mem_or q (get_or g.positive p 0) (get_or g.negative p 0))
        (mem_not 64 q (rest left) l (rest_lt 64 left fits) ∙ ap not (later q)))

    fewer : pending left ≡ pending (rest left) + count 64 (counted p)
    fewer =
        sum_without (λ r. count 64 (λ q. mem r left && counted r q)) (λ r. count 64 (λ q. mem r (rest left) && counted r q)) 64 p
        (lowest_lt left pos fits)
        (none_counted (λ q. mem p (rest left) && counted p q) 64 (λ q _.
        fails_left (mem p (rest left)) (counted p q) (mem_rest left pos fits p ∙ fails_right (mem p left) (not (eqb p p)) (ap not (eq-eqb p p refl)))))
        (λ r n. count_cong _ _ 64 (λ q _.
        ap (λ (b : Bool). b && counted r q)
        (sym (mem_rest left pos fits r ∙ ap (λ (b : Bool). mem r left && not b) (ne_eqb r p n) ∙ and-true (mem r left)))))
        ∙ ap (λ (x : ℕ). pending (rest left) + x)
        (count_cong (λ q. mem p left && counted p q) (counted p) 64 (λ q _. ap (λ (b : Bool). b && counted p q) (lowest_in left pos fits)))

  pub counting_step : {left v after total : ℕ} → TakesLowest left v after → Counting left total → (x : ℕ)
      → x ≡ size (bit_and (bit_or (get_or g.positive v 0) (get_or g.negative v 0)) ((2 ^ 64 - 1) - after)) → Counting after (total + x)
  counting_step {left} {v} {after} {total} t d x i =
      subst (λ (z : ℕ). Counting z (total + x)) (sym t.is_rest) (record {
        traversal = traversal_step d.traversal t.some;
        adds = omega (
          arith,
          d.adds,
          i ∙ ap₂ (λ (y z : ℕ). size (bit_and (bit_or (get_or g.positive y 0) (get_or g.negative y 0)) ((2 ^ 64 - 1) - z))) t.is_lowest t.is_rest,
          size_row d t.some,
          fewer d t.some,
        );
      })

  pub counting_end : {left total : ℕ} → Counting left total → left ≡ 0 → total ≡ looks_at g look
  counting_end {left} {total} d z =
      omega (arith, d.adds, none)
    where
      none : pending left ≡ 0
      none =
          sum_cong _ (λ p. 0) 64 (λ p _.
          none_counted (λ q. mem p left && counted p q) 64 (λ q _. fails_left (mem p left) (counted p q) (ap (mem p) z ∙ mem_none p)))
          ∙ sum_none 64
