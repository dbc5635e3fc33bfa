-- The groups below a node: those below it with a vertex in, then those below it with the vertex left out. Assumes nothing.
use Prim.Native.Nat.{ℕ, ◌^◌, ◌≤◌, ◌<◌}
use native.Mathlib.Omega.{arith}
use native.Mathlib.Decide.{ℕ_discrete}
use mathlib.Core.Path.{◌≡◌, sym, ap, ap₂, ◌∙◌}
use mathlib.Core.Logic.{◌≢◌, ◌⊎◌, inl, inr}
use mathlib.Core.Bool.{Bool, true, false, ◌||◌}
use mathlib.Core.List.{List, [], ◌++◌, Memᴰ}
use lib.Bits.{bit_and, bit_or}
use Rattle.vertex_set.specs.Lists.{All, Sorted}
use Rattle.vertex_set.specs.Sets.{mem, within, single, lowest, others}
use Rattle.vertex_set.proofs.Booleans.{clash, refute, cases, iff, and_intro, and_left, and_right}
use Rattle.vertex_set.proofs.Lists.{mem_all, selected, select_from, select_keeps, sorted_append, sorted_select, sorted_unique}
use Rattle.vertex_set.proofs.Membership.{mem_none, mem_pos, union_left, union_right, union_cases, union_other, subset_within, within_subset}
use Rattle.vertex_set.proofs.LowestVertex.{lowest_is}
use Rattle.signed_graph.specs.declared.SignedGraph.{SignedGraph}
use Rattle.signed_graph.specs.Graphs.{negative_edge}
use Rattle.signed_graph.proofs.Soundness.{Sound}
use Rattle.clique.specs.Balance.{Split}
use Rattle.clique.proofs.Balance.{split_swap}
use Rattle.vertex_set.proofs.Order.{from_before, asymmetric}
use Rattle.nodes.specs.declared.Side.{Side}
use Rattle.nodes.specs.declared.Node.{Node}
use Rattle.clique.specs.Listing.{Item, Listed, comes_before}
use Rattle.nodes.specs.Nodes.{reach, chosen, undecided, narrowed, side_with, passed_over, leave_out, with_vertex, Stage, untouched, led, Valid, Between, Below, is_between, is_below, items_below}
use Rattle.signed_graph.specs.Tables.{positives, negatives}
use Rattle.signed_graph.specs.Thresholds.{Threshold}
use Rattle.clique.proofs.Listing.{listed_left, listed_right, listed_cases}
use Rattle.vertex_set.proofs.Singles.{joined_in, joined_cases, others_keep, others_lack}
use Rattle.nodes.proofs.Nodes.{narrowed_in, near_reach, far_reach, out_reach, put_cases, candidates_64, fits_new, fits_off}

-- ---- the test

between_test : (side : Side) (s : ℕ) → Between side s → is_between side s ≡ true
between_test side s b =
    and_intro (within side.chosen s) (within s (reach side))
    (subset_within side.chosen s b.holds) (subset_within s (reach side) b.only)

test_between : (side : Side) (s : ℕ) → is_between side s ≡ true → Between side s
test_between side s e =
    let holds : within side.chosen s ≡ true = and_left (within side.chosen s) (within s (reach side)) e in
    let only : within s (reach side) ≡ true = and_right (within side.chosen s) (within s (reach side)) e in
    record {
      holds = within_subset side.chosen s holds;
      only = within_subset s (reach side) only;
    }

below_test : (d : Node) (x : Item) → Below d x → is_below d x ≡ true
unfolding is_below
below_test d x b =
    and_intro (is_between d.left x.left) (is_between d.right x.right)
    (between_test d.left x.left b.left) (between_test d.right x.right b.right)

test_below : (d : Node) (x : Item) → is_below d x ≡ true → Below d x
unfolding is_below
test_below d x e =
    record {
      left = test_between d.left x.left (and_left (is_between d.left x.left) (is_between d.right x.right) e);
      right = test_between d.right x.right (and_right (is_between d.left x.left) (is_between d.right x.right) e);
    }

-- ---- the groups of a list that are below

module _ (d : Node) (l : List Item) where
  pub of_below : (x : Item) → Memᴰ x (items_below d l) → Memᴰ x l × Below d x
  unfolding items_below
  of_below x m = (select_from (is_below d) x l m, test_below d x (selected (is_below d) x l m))

  pub in_below : (x : Item) → Memᴰ x l → Below d x → Memᴰ x (items_below d l)
  unfolding items_below
  in_below x m b = select_keeps (is_below d) x l (below_test d x b) m

  pub below_sorted : Sorted comes_before l → Sorted comes_before (items_below d l)
  unfolding items_below
  below_sorted = sorted_select comes_before (is_below d) l

  -- a sorted list of them is all of them in their order
  pub below_is : Sorted comes_before l → (xs : List Item) → Sorted comes_before xs
      → ((x : Item) → Memᴰ x xs → Memᴰ x l × Below d x) → ((x : Item) → Memᴰ x l → Below d x → Memᴰ x xs)
      → items_below d l ≡ xs
  below_is sorted xs s from to =
      sorted_unique comes_before (λ x y. asymmetric x.vertices y.vertices) (items_below d l) xs (below_sorted sorted) s
      (λ x m. let b : Memᴰ x l × Below d x = of_below x m in to x b.0 b.1)
      (λ x m. let b : Memᴰ x l × Below d x = from x m in in_below x b.0 b.1)

  pub none_below : Sorted comes_before l → ((x : Item) → Memᴰ x l → Below d x → ⊥) → items_below d l ≡ []
  none_below sorted none = below_is sorted [] tt (λ x m. absurd (mathlib.Core.List.Memᴰ.not-nil m)) (λ x m b. absurd (none x m b))

-- ---- one side, as a vertex v comes

module _ (v : ℕ) (small : v < 64) (side : Side) (t : ℕ) where
  not_v : mem v t ≡ false → (p : ℕ) → mem p t ≡ true → p ≢ v
  not_v off p i e = clash (mem p t) i (ap (λ (z : ℕ). mem z t) e ∙ off)

  -- v is on it
  near_between : side.candidates < 2 ^ 64 → (row : ℕ) → mem v t ≡ true → ((p : ℕ) → p ≢ v → mem p t ≡ true → mem p row ≡ true)
      → Between side t → Between (side_with (narrowed side v row) v) t
  near_between fits row m in_row b =
      record {
        holds = λ p i. joined_cases v small (mem p t ≡ true) p side.chosen i (b.holds p) (λ e. ap (λ (z : ℕ). mem z t) e ∙ m);
        only = λ p i. goes p i (ℕ_discrete p v);
      }
    where
      new : ℕ
      new = bit_or side.chosen (single v)

      C : ℕ
      C = (narrowed side v row).candidates

      goes : (p : ℕ) → mem p t ≡ true → Dec (p ≡ v) → mem p (bit_or new C) ≡ true
      goes p i (yes e) = union_left p new C (ap (λ (z : ℕ). mem z new) e ∙ joined_in v small side.chosen)
      goes p i (no e) =
          union_cases (mem p (bit_or new C) ≡ true) p side.chosen side.candidates (b.only p i)
          (λ x. union_left p new C (union_left p side.chosen (single v) x))
          (λ x. union_right p new C (narrowed_in v side small fits row p x (in_row p e i) e))

  between_near : (row : ℕ) → mem v side.candidates ≡ true → Between (side_with (narrowed side v row) v) t
      → Between side t × (mem v t ≡ true)
  between_near row i b = (
    record {
      holds = λ p m. b.holds p (union_left p side.chosen (single v) m);
      only = λ p m. near_reach v side small i row p (b.only p m);
    },
    b.holds v (joined_in v small side.chosen),
  )

  -- v is on the other
  far_between : side.candidates < 2 ^ 64 → (row : ℕ) → mem v t ≡ false → ((p : ℕ) → mem p t ≡ true → mem p row ≡ true)
      → Between side t → Between (narrowed side v row) t
  far_between fits row off in_row b =
      let C : ℕ = (narrowed side v row).candidates in
      record {
        holds = b.holds;
        only = λ p i.
            union_cases (mem p (bit_or side.chosen C) ≡ true) p side.chosen side.candidates (b.only p i)
            (union_left p side.chosen C)
            (λ x. union_right p side.chosen C (narrowed_in v side small fits row p x (in_row p i) (not_v off p i)));
      }

  between_far : (row : ℕ) → Between (narrowed side v row) t → Between side t
  between_far row b = record { holds = b.holds; only = λ p m. far_reach v side row p (b.only p m) }

  -- v is on neither
  out_between : side.candidates < 2 ^ 64 → mem v t ≡ false → Between side t → Between (passed_over side v) t
  out_between fits off b =
      let C : ℕ = bit_and side.candidates (others v) in
      record {
        holds = b.holds;
        only = λ p i.
            union_cases (mem p (bit_or side.chosen C) ≡ true) p side.chosen side.candidates (b.only p i)
            (union_left p side.chosen C)
            (λ x. union_right p side.chosen C (others_keep v small p side.candidates fits x (not_v off p i)));
      }

  between_out : mem v side.chosen ≡ false → Between (passed_over side v) t → Between side t × (mem v t ≡ false)
  between_out off b =
      let C : ℕ = bit_and side.candidates (others v) in (
        record { holds = b.holds; only = λ p m. out_reach v side p (b.only p m) },
        refute (mem v t) (λ m.
            clash (mem v C) (union_other v side.chosen C (b.only v m) off) (others_lack v small side.candidates)),
      )

-- ---- a node, as a vertex v comes

module _ (g : SignedGraph) (so : Sound g) (k : Threshold) (d : Node) (h : Valid g d) where
  left_64 : d.left.candidates < 2 ^ 64
  left_64 = candidates_64 g so d.left d.right.chosen h.left

  right_64 : d.right.candidates < 2 ^ 64
  right_64 = candidates_64 g so d.right d.left.chosen h.right

  -- which vertices the groups below have among those that are decided
  pub below_agrees : (x : Item) → Listed g k x → Below d x → (q : ℕ) → mem q (undecided d) ≡ false
      → mem q x.vertices ≡ mem q (chosen d)
  below_agrees x lx b q off =
      iff (mem q x.vertices) (mem q (chosen d))
      (λ m. listed_cases lx q (mem q (chosen d) ≡ true) m
      (λ y. union_cases (mem q (chosen d) ≡ true) q d.left.chosen d.left.candidates (b.left.only q y)
      (union_left q d.left.chosen d.right.chosen)
      (λ z. clash (mem q (undecided d)) (union_left q d.left.candidates d.right.candidates z) off))
      (λ y. union_cases (mem q (chosen d) ≡ true) q d.right.chosen d.right.candidates (b.right.only q y)
      (union_right q d.left.chosen d.right.chosen)
      (λ z. clash (mem q (undecided d)) (union_right q d.left.candidates d.right.candidates z) off)))
      (λ m. union_cases (mem q x.vertices ≡ true) q d.left.chosen d.right.chosen m
      (λ y. listed_left lx q (b.left.holds q y)) (λ y. listed_right lx q (b.right.holds q y)))

  -- where nothing is chosen, v is the lowest candidate
  module _ (v : ℕ) (small : v < 64) (in-d : mem v (undecided d) ≡ true)
      (first : d.left.chosen ≡ 0 → (p : ℕ) → mem p (undecided d) ≡ true → v ≤ p) where
    not_left : mem v d.left.chosen ≡ false
    not_left =
        union_cases (mem v d.left.chosen ≡ false) v d.left.candidates d.right.candidates in-d
        (λ m. fits_new g so d.left.chosen d.right.chosen v (h.left.candidate v m))
        (λ m. fits_off g so d.right.chosen d.left.chosen v (h.right.candidate v m))

    not_right : mem v d.right.chosen ≡ false
    not_right =
        union_cases (mem v d.right.chosen ≡ false) v d.left.candidates d.right.candidates in-d
        (λ m. fits_off g so d.left.chosen d.right.chosen v (h.left.candidate v m))
        (λ m. fits_new g so d.right.chosen d.left.chosen v (h.right.candidate v m))

    -- where v goes to the side `near`, sets between the sides that have it there are between the new sides
    both_between : (near far : Side) → near.candidates < 2 ^ 64 → far.candidates < 2 ^ 64 → (s l r : ℕ) → Split g s l r
        → mem v l ≡ true → Between near l → Between far r
        → Between (side_with (narrowed near v (positives g v)) v) l × Between (narrowed far v (negatives g v)) r
    both_between near far near_64 far-64 s l r sp i a b = (
      near_between v small near l near_64 (positives g v) i (λ p ne m. sp.inside_l v p (λ e. ne (sym e)) i m) a,
      far_between v small far r far-64 (negatives g v) (sp.one v i) (λ p m. sp.across v p i m) b,
    )

    module _ (x : Item) (lx : Listed g k x) where
      -- where v may go left, a group below that holds it has it on the left
      not_moved : Below d x → mem v d.left.candidates ≡ true → mem v d.right.candidates ≡ true → mem v x.right ≡ true
          → Stage d → ⊥
      not_moved b i j m (untouched zl zr same) =
          clash (mem v x.right) m
          (lx.sides.split.one v
          (ap (λ (z : ℕ). mem z x.left) (sym e) ∙ lx.sides.lowest_left (mem_pos v x.vertices in_x)))
        where
          in_x : mem v x.vertices ≡ true
          in_x = listed_right lx v m

          least : (p : ℕ) → mem p x.vertices ≡ true → v ≤ p
          least p n =
              cases (v ≤ p) (mem p (undecided d)) (first zl p)
              (λ off. clash (mem p (chosen d)) (sym (below_agrees x lx b p off) ∙ n) (ap (mem p) (ap₂ bit_or zl zr) ∙ mem_none p))

          e : lowest x.vertices ≡ v
          e =
              lowest_is x.vertices v small in_x
              (λ j l. refute (mem j x.vertices) (λ n. no_less j l (least j n)))
            where
              no_less : (j : ℕ) → j < v → v ≤ j → ⊥
              no_less j l m = omega arith
      not_moved b i j m (led a n least) =
          clash (negative_edge g a v) ((h.right.candidate v j).cross a n) (so.apart a v ((h.left.candidate v i).same a n))

      on_left : Below d x → mem v x.vertices ≡ true → mem v d.left.candidates ≡ true → mem v x.left ≡ true
      on_left b m i =
          listed_cases lx v (mem v x.left ≡ true) m (λ y. y)
          (λ y. let j = union_other v d.right.chosen d.right.candidates (b.right.only v y) not_right in
          absurd (not_moved b i j y h.stage))

      on_right : Below d x → mem v x.vertices ≡ true → mem v d.left.candidates ≡ false → mem v x.right ≡ true
      on_right b m off =
          listed_cases lx v (mem v x.right ≡ true) m
          (λ y. let i = union_other v d.left.chosen d.left.candidates (b.left.only v y) not_left in
          clash (mem v d.left.candidates) i off)
          (λ y. y)

      -- a group below that holds v is below the node with v in
      pub below_put : Below d x → mem v x.vertices ≡ true → Below (with_vertex g d v) x
      below_put b m =
          let s : ℕ = x.vertices in
          let l : ℕ = x.left in
          let r : ℕ = x.right in
          let sp : Split g s l r = lx.sides.split in
          let swapped : Split g s r l = split_swap g so sp in
          put_cases (λ e. Below e x) d v (positives g v) (negatives g v)
          (λ e. let t = both_between d.left d.right left_64 right_64 s l r sp (on_left b m e) b.left b.right in
          record { left = t.0; right = t.1 })
          (λ e. let t = both_between d.right d.left right_64 left_64 s r l swapped (on_right b m e) b.right b.left in
          record { left = t.1; right = t.0 })

      pub put_below : Below (with_vertex g d v) x → Below d x × (mem v x.vertices ≡ true)
      put_below =
          put_cases (λ e. Below e x → Below d x × (mem v x.vertices ≡ true)) d v (positives g v) (negatives g v)
          (λ e c. let n = between_near v small d.left x.left (positives g v) e c.left in (
            record { left = n.0; right = between_far v small d.right x.right (negatives g v) c.right },
            listed_left lx v n.1,
          ))
          (λ e c.
          let i : mem v d.right.candidates ≡ true = union_other v d.left.candidates d.right.candidates in-d e in
          let n = between_near v small d.right x.right (positives g v) i c.right in (
            record { left = between_far v small d.left x.left (negatives g v) c.left; right = n.0 },
            listed_right lx v n.1,
          ))

      -- one that does not is below the node with v left out
      pub below_out : Below d x → mem v x.vertices ≡ false → Below (leave_out d v) x
      below_out b off =
          let not-l = refute (mem v x.left) (λ m. clash (mem v x.vertices) (listed_left lx v m) off) in
          let not-r = refute (mem v x.right) (λ m. clash (mem v x.vertices) (listed_right lx v m) off) in
          record {
            left = out_between v small d.left x.left left_64 not-l b.left;
            right = out_between v small d.right x.right right_64 not-r b.right;
          }

      out_below : Below (leave_out d v) x → Below d x × (mem v x.vertices ≡ false)
      out_below b =
          let l = between_out v small d.left x.left not_left b.left in
          let r = between_out v small d.right x.right not_right b.right in (
            record { left = l.0; right = r.0 },
            lx.sides.split.either v ∙ ap₂ (λ (a c : Bool). a || c) l.1 r.1,
          )

    -- ---- the step

    module _ (least : (q : ℕ) → q < v → mem q (undecided d) ≡ false) (l : List Item) (sorted : Sorted comes_before l)
        (listed : (x : Item) → Memᴰ x l → Listed g k x) where
      abbrev in_v : Node
      in_v = with_vertex g d v

      abbrev out_v : Node
      out_v = leave_out d v

      abbrev A : List Item
      A = items_below in_v l

      abbrev B : List Item
      B = items_below out_v l

      of_in : (x : Item) → Memᴰ x A → Memᴰ x l × Below d x × (mem v x.vertices ≡ true)
      of_in x m =
          let r : Memᴰ x l × Below in_v x = of_below in_v l x m in
          let b : Below d x × (mem v x.vertices ≡ true) = put_below x (listed x r.0) r.1 in
          (r.0, b.0, b.1)

      of_out : (x : Item) → Memᴰ x B → Memᴰ x l × Below d x × (mem v x.vertices ≡ false)
      of_out x m =
          let r : Memᴰ x l × Below out_v x = of_below out_v l x m in
          let b : Below d x × (mem v x.vertices ≡ false) = out_below x (listed x r.0) r.1 in
          (r.0, b.0, b.1)

      in_before_out : (x y : Item) → Memᴰ x A → Memᴰ y B → comes_before x y ≡ true
      in_before_out x y m n =
          let a = of_in x m in
          let b = of_out y n in
          from_before x.vertices y.vertices v (record {
            small = small;
            same = λ j i.
                below_agrees x (listed x a.0) a.1 j (least j i) ∙ sym (below_agrees y (listed y b.0) b.1 j (least j i));
            held = a.2;
            lacked = b.2;
          })

      pub below_step : items_below d l ≡ items_below (with_vertex g d v) l ++ items_below (leave_out d v) l
      below_step =
          below_is d l sorted (A ++ B)
          (sorted_append comes_before A B (below_sorted in_v l sorted) (below_sorted out_v l sorted)
          (mem_all (λ x. All (λ y. comes_before x y ≡ true) B) A (λ x m.
          mem_all (λ y. comes_before x y ≡ true) B (λ y n. in_before_out x y m n))))
          (λ x m. from x (mathlib.Core.List.Memᴰ.append_cases A m))
          (λ x m b. cases (Memᴰ x (A ++ B)) (mem v x.vertices)
          (λ i. mathlib.Core.List.Memᴰ.append_left B (in_below in_v l x m (below_put x (listed x m) b i)))
          (λ i. mathlib.Core.List.Memᴰ.append_right A (in_below out_v l x m (below_out x (listed x m) b i))))
        where
          from : (x : Item) → Memᴰ x A ⊎ Memᴰ x B → Memᴰ x l × Below d x
          from x (inl m) = let r = of_in x m in (r.0, r.1)
          from x (inr m) = let r = of_out x m in (r.0, r.1)
