-- A node stays valid where a vertex goes in and where it is left out. Assumes nothing.
use Prim.Native.Nat.{ℕ, ◌^◌, ◌≤◌, ◌<◌}
use native.Mathlib.Nat.{lt_of_le_of_lt}
use native.Mathlib.Decide.{ℕ_discrete}
use mathlib.Core.Path.{◌≡◌, refl, sym, ap, ◌∙◌}
use mathlib.Core.Logic.{◌≢◌}
use mathlib.Core.Bool.{Bool, true, false, ◌||◌}
use lib.Bits.{bit_and, bit_or, and_le_l}
use borrow.Author.Tests.{eq-eqb}
use Rattle.vertex_set.specs.Sets.{mem, Subset, single, others}
use Rattle.vertex_set.proofs.Booleans.{clash, refute, or_left, or_right, or_cases}
use Rattle.vertex_set.proofs.Membership.{none_in, meet_in, meet_left, meet_right, union_left, union_right, union_cases, union_other, union_mono}
use Rattle.vertex_set.proofs.Collections.{mem_single}
use Rattle.signed_graph.specs.declared.SignedGraph.{SignedGraph}
use Rattle.signed_graph.specs.Graphs.{positive_edge, negative_edge, vertices}
use Rattle.signed_graph.specs.Thresholds.{Threshold}
use Rattle.signed_graph.proofs.Soundness.{Sound}
use Rattle.clique.proofs.Balance.{usable_64}
use Rattle.nodes.specs.declared.Side.{Side}
use Rattle.nodes.specs.declared.Node.{Node}
use Rattle.nodes.specs.Nodes.{reach, chosen, undecided, reachable, narrowed, side_with, passed_over, put_left, put_right, put_in, leave_out, with_vertex, CanJoin, Half, Stage, untouched, led, Valid, Same}
use Rattle.signed_graph.specs.Tables.{positives, negatives}
use Rattle.clique.specs.Balance.{Parts}
use Rattle.vertex_set.proofs.Singles.{single_is, joined_in, joined_cases, others_keep, others_lack}
use Rattle.clique.proofs.Parts.{parts_flip}

single_in : (v : ℕ) → v < 64 → mem v (single v) ≡ true
single_in v small = mem_single v v small ∙ eq-eqb v v refl

-- ---- a side once v is chosen, or left out

module _ (v : ℕ) (s : Side) where
  pub narrowed_from : (row : ℕ) → Subset (narrowed s v row).candidates s.candidates
  narrowed_from row p m = meet_left p s.candidates row (meet_left p (bit_and s.candidates row) (others v) m)

  narrowed_row : (row : ℕ) → Subset (narrowed s v row).candidates row
  narrowed_row row p m = meet_right p s.candidates row (meet_left p (bit_and s.candidates row) (others v) m)

  pub narrowed_in : v < 64 → s.candidates < 2 ^ 64 → (row p : ℕ) → mem p s.candidates ≡ true → mem p row ≡ true → p ≢ v
      → mem p (narrowed s v row).candidates ≡ true
  narrowed_in small fits row p m i d =
      others_keep v small p (bit_and s.candidates row) (lt_of_le_of_lt (and_le_l s.candidates row) fits)
      (meet_in p s.candidates row m i) d

  -- it gets no more vertices than it might before
  pub near_reach : v < 64 → mem v s.candidates ≡ true → (row : ℕ) → Subset (reach (side_with (narrowed s v row) v)) (reach s)
  near_reach small i row p m =
      union_cases (mem p (reach s) ≡ true) p (bit_or s.chosen (single v)) (narrowed s v row).candidates m
      (λ x. joined_cases v small (mem p (reach s) ≡ true) p s.chosen x (union_left p s.chosen s.candidates)
      (λ e. ap (λ (z : ℕ). mem z (reach s)) e ∙ union_right v s.chosen s.candidates i))
      (λ x. union_right p s.chosen s.candidates (narrowed_from row p x))

  pub far_reach : (row : ℕ) → Subset (reach (narrowed s v row)) (reach s)
  far_reach row =
      union_mono s.chosen (narrowed s v row).candidates s.chosen s.candidates (λ p m. m) (narrowed_from row)

  pub out_reach : Subset (reach (passed_over s v)) (reach s)
  out_reach =
      union_mono s.chosen (passed_over s v).candidates s.chosen s.candidates (λ p m. m)
      (λ p. meet_left p s.candidates (others v))

-- ---- the vertices of a node

module _ (d : Node) (p : ℕ) where
  whole_left : mem p (reach d.left) ≡ true → mem p (reachable d) ≡ true
  whole_left =
      union_mono d.left.chosen d.left.candidates (chosen d) (undecided d)
      (λ q. union_left q d.left.chosen d.right.chosen) (λ q. union_left q d.left.candidates d.right.candidates) p

  whole_right : mem p (reach d.right) ≡ true → mem p (reachable d) ≡ true
  whole_right =
      union_mono d.right.chosen d.right.candidates (chosen d) (undecided d)
      (λ q. union_right q d.left.chosen d.right.chosen) (λ q. union_right q d.left.candidates d.right.candidates) p

  whole_cases : (A : Type 0) → mem p (reachable d) ≡ true → (mem p (reach d.left) ≡ true → A)
      → (mem p (reach d.right) ≡ true → A) → A
  whole_cases A m l r =
      union_cases A p (chosen d) (undecided d) m
      (λ x. union_cases A p d.left.chosen d.right.chosen x
      (λ y. l (union_left p d.left.chosen d.left.candidates y))
      (λ y. r (union_left p d.right.chosen d.right.candidates y)))
      (λ x. union_cases A p d.left.candidates d.right.candidates x
      (λ y. l (union_right p d.left.chosen d.left.candidates y))
      (λ y. r (union_right p d.right.chosen d.right.candidates y)))

-- where nothing is chosen, a side may only get its candidates
fresh : (s : Side) → s.chosen ≡ 0 → Subset (reach s) s.candidates
fresh s z p m =
    union_cases (mem p s.candidates ≡ true) p s.chosen s.candidates m (λ x. none_in p (ap (mem p) (sym z) ∙ x)) (λ x. x)

-- what holds of the node with v on the left and of the one with v on the right, holds of the one with v where it may go
pub put_cases : (P : Node → Type 0) (d : Node) (v positive negative : ℕ)
    → (mem v d.left.candidates ≡ true → P (put_left d v positive negative))
    → (mem v d.left.candidates ≡ false → P (put_right d v positive negative)) → P (put_in d v positive negative)
unfolding put_in
put_cases P d v positive negative l r = go (mem v d.left.candidates) refl
  where
    go : (b : Bool) → mem v d.left.candidates ≡ b
        → P (elim b [ true ↦ put_left d v positive negative | false ↦ put_right d v positive negative ])
    go true e = l e
    go false e = r e

module _ (g : SignedGraph) (so : Sound g) where
  pub candidates_64 : (s : Side) (far : ℕ) → Half g s far → s.candidates < 2 ^ 64
  candidates_64 s far h = usable_64 g so s.candidates (λ p m. (h.candidate p m).usable)

  -- what fits is on no side yet
  pub fits_new : (near far p : ℕ) → CanJoin g near far p → mem p near ≡ false
  fits_new near far p f = refute (mem p near) (λ m. clash (positive_edge g p p) (f.same p m) (so.positives.loopless p))

  pub fits_off : (near far p : ℕ) → CanJoin g near far p → mem p far ≡ false
  fits_off near far p f = refute (mem p far) (λ m. clash (negative_edge g p p) (f.cross p m) (so.negatives.loopless p))

  -- ---- the sides stay those of a balanced set

  module _ (v : ℕ) (small : v < 64) where
    parts_join : (l r : ℕ) → Parts g l r → CanJoin g l r v → Parts g (bit_or l (single v)) r
    parts_join l r h f =
        record {
          usable_l = λ p m.
              joined_cases v small (mem p (vertices g) ≡ true) p l m
              (h.usable_l p) (λ e. ap (λ (z : ℕ). mem z (vertices g)) e ∙ f.usable);
          usable_r = h.usable_r;
          inside_l = λ p q d x y.
              joined_cases v small (positive_edge g p q ≡ true) p l x
              (λ mp. joined_cases v small (positive_edge g p q ≡ true) q l y
              (λ mq. h.inside_l p q d mp mq)
              (λ e. ap (positive_edge g p) e ∙ f.same p mp))
              (λ e. joined_cases v small (positive_edge g p q ≡ true) q l y
              (λ mq. ap (λ (z : ℕ). positive_edge g z q) e ∙ so.positives.symmetric v q ∙ f.same q mq)
              (λ i. absurd (d (e ∙ sym i))));
          inside_r = h.inside_r;
          across = λ p q x y.
              joined_cases v small (negative_edge g p q ≡ true) p l x (λ mp. h.across p q mp y)
              (λ e. ap (λ (z : ℕ). negative_edge g z q) e ∙ so.negatives.symmetric v q ∙ f.cross q y);
        }

    -- ---- what could join a side

    -- once v is chosen: what could before and is in the row of v
    half_narrowed : (s : Side) (far near' far' row : ℕ) → mem v row ≡ false → Half g s far
        → ((p : ℕ) → CanJoin g s.chosen far p → mem p row ≡ true → CanJoin g near' far' p)
        → ((p : ℕ) → CanJoin g near' far' p → CanJoin g s.chosen far p × (mem p row ≡ true))
        → Half g (record { chosen = near'; candidates = (narrowed s v row).candidates; excluded = bit_and s.excluded row }) far'
    half_narrowed s far near' far' row off h to from =
        record {
          candidate = λ p m. to p (h.candidate p (narrowed_from v s row p m)) (narrowed_row v s row p m);
          out = λ p m. to p (h.out p (meet_left p s.excluded row m)) (meet_right p s.excluded row m);
          every = λ p f.
              let w : CanJoin g s.chosen far p × (mem p row ≡ true) = from p f in
              or_cases ((mem p C || mem p X) ≡ true) (mem p s.candidates) (mem p s.excluded) (h.every p w.0)
              (λ x. or_left (mem p C) (mem p X) (narrowed_in v s small (candidates_64 s far h) row p x w.1
              (λ e. clash (mem p row) w.1 (ap (λ (z : ℕ). mem z row) e ∙ off))))
              (λ x. or_right (mem p C) (mem p X) (meet_in p s.excluded row x w.1));
          apart = λ p m.
              refute (mem p X) (λ x. clash (mem p s.excluded) (meet_left p s.excluded row x)
              (h.apart p (narrowed_from v s row p m)));
        }
      where
        C : ℕ
        C = (narrowed s v row).candidates

        X : ℕ
        X = bit_and s.excluded row

    half_near : (s : Side) (far : ℕ) → Half g s far → Half g (side_with (narrowed s v (positives g v)) v) far
    half_near s far h =
        half_narrowed s far (bit_or s.chosen (single v)) far (positives g v) (so.positives.loopless v) h
        (λ p f m. record {
          usable = f.usable;
          same = λ q i.
              joined_cases v small (positive_edge g q p ≡ true) q s.chosen i
              (f.same q) (λ e. ap (λ (z : ℕ). positive_edge g z p) e ∙ m);
          cross = f.cross;
        })
        (λ p f. (
          record { usable = f.usable; same = λ q i. f.same q (union_left q s.chosen (single v) i); cross = f.cross },
          f.same v (joined_in v small s.chosen),
        ))

    half_far : (s : Side) (far : ℕ) → Half g s far → Half g (narrowed s v (negatives g v)) (bit_or far (single v))
    half_far s far h =
        half_narrowed s far s.chosen (bit_or far (single v)) (negatives g v) (so.negatives.loopless v) h
        (λ p f m. record {
          usable = f.usable;
          same = f.same;
          cross = λ q i.
              joined_cases v small (negative_edge g q p ≡ true) q far i
              (f.cross q) (λ e. ap (λ (z : ℕ). negative_edge g z p) e ∙ m);
        })
        (λ p f. (
          record { usable = f.usable; same = f.same; cross = λ q i. f.cross q (union_left q far (single v) i) },
          f.cross v (joined_in v small far),
        ))

    -- once v is left out: what could before
    half_out : (s : Side) (far : ℕ) → Half g s far → Half g (passed_over s v) far
    half_out s far h =
        record {
          candidate = λ p m. h.candidate p (meet_left p s.candidates (others v) m);
          out = λ p m.
              union_cases (CanJoin g s.chosen far p) p s.excluded here m
              (h.out p) (λ x. h.candidate p (meet_left p s.candidates (single v) x));
          every = λ p f.
              or_cases ((mem p C || mem p X) ≡ true) (mem p s.candidates) (mem p s.excluded) (h.every p f)
              (λ x. stays p x (ℕ_discrete p v))
              (λ x. or_right (mem p C) (mem p X) (union_left p s.excluded here x));
          apart = λ p m. refute (mem p X) (λ x. union_cases ⊥ p s.excluded here x
              (λ y. clash (mem p s.excluded) y (h.apart p (meet_left p s.candidates (others v) m)))
              (λ y. clash (mem v C) (ap (λ (z : ℕ). mem z C) (sym (is_v p y)) ∙ m) (others_lack v small s.candidates)));
        }
      where
        C : ℕ
        C = bit_and s.candidates (others v)

        here : ℕ
        here = bit_and s.candidates (single v)

        X : ℕ
        X = bit_or s.excluded here

        is_v : (p : ℕ) → mem p here ≡ true → p ≡ v
        is_v p m = single_is v small p (meet_right p s.candidates (single v) m)

        stays : (p : ℕ) → mem p s.candidates ≡ true → Dec (p ≡ v) → (mem p C || mem p X) ≡ true
        stays p x (no e) = or_left (mem p C) (mem p X) (others_keep v small p s.candidates (candidates_64 s far h) x e)
        stays p x (yes e) =
            or_right (mem p C) (mem p X) (union_right p s.excluded here
            (meet_in p s.candidates (single v) x (ap (λ (z : ℕ). mem z (single v)) e ∙ single_in v small)))

    -- ---- nodes

    module _ (d : Node) (h : Valid g d) where
      abbrev with_left : Node
      with_left = put_left d v (positives g v) (negatives g v)

      abbrev with_right : Node
      with_right = put_right d v (positives g v) (negatives g v)

      left_whole : mem v d.left.candidates ≡ true → Subset (reachable with_left) (reachable d)
      left_whole i p m =
          whole_cases with_left p (mem p (reachable d) ≡ true) m
          (λ x. whole_left d p (near_reach v d.left small i (positives g v) p x))
          (λ x. whole_right d p (far_reach v d.right (negatives g v) p x))

      right_whole : mem v d.right.candidates ≡ true → Subset (reachable with_right) (reachable d)
      right_whole i p m =
          whole_cases with_right p (mem p (reachable d) ≡ true) m
          (λ x. whole_left d p (far_reach v d.left (negatives g v) p x))
          (λ x. whole_right d p (near_reach v d.right small i (positives g v) p x))

      out_whole : Subset (reachable (leave_out d v)) (reachable d)
      out_whole p m =
          whole_cases (leave_out d v) p (mem p (reachable d) ≡ true) m
          (λ x. whole_left d p (out_reach v d.left p x)) (λ x. whole_right d p (out_reach v d.right p x))

      -- where nothing is chosen, v is the lowest candidate
      module _ (first : d.left.chosen ≡ 0 → (p : ℕ) → mem p (undecided d) ≡ true → v ≤ p) where
        left_stage : mem v d.left.candidates ≡ true → Stage d → Stage with_left
        left_stage i (untouched zl zr same) =
            led v (joined_in v small d.left.chosen) (λ p m. whole_cases d p (v ≤ p) (left_whole i p m)
            (λ x. first zl p (union_left p d.left.candidates d.right.candidates (fresh d.left zl p x)))
            (λ x. first zl p (union_right p d.left.candidates d.right.candidates (fresh d.right zr p x))))
        left_stage i (led a m least) =
            led a (union_left a d.left.chosen (single v) m) (λ p x. least p (left_whole i p x))

        right_stage : mem v d.right.candidates ≡ true → mem v d.left.candidates ≡ false → Stage d → Stage with_right
        right_stage i off (untouched zl zr same) = clash (mem v d.left.candidates) (ap (mem v) same ∙ i) off
        right_stage i off (led a m least) = led a m (λ p x. least p (right_whole i p x))

        put_left_law : mem v d.left.candidates ≡ true → Valid g with_left
        put_left_law i =
            record {
              parts = parts_join d.left.chosen d.right.chosen h.parts (h.left.candidate v i);
              left = half_near d.left d.right.chosen h.left;
              right = half_far d.right d.left.chosen h.right;
              stage = left_stage i h.stage;
            }

        put_right_law : mem v d.right.candidates ≡ true → mem v d.left.candidates ≡ false → Valid g with_right
        put_right_law i off =
            record {
              parts = parts_flip g so (bit_or d.right.chosen (single v)) d.left.chosen
                  (parts_join d.right.chosen d.left.chosen (parts_flip g so d.left.chosen d.right.chosen h.parts)
                  (h.right.candidate v i));
              left = half_far d.left d.right.chosen h.left;
              right = half_near d.right d.left.chosen h.right;
              stage = right_stage i off h.stage;
            }

        pub put_valid : mem v (undecided d) ≡ true → Valid g (with_vertex g d v)
        put_valid i =
            put_cases (Valid g) d v (positives g v) (negatives g v) put_left_law
            (λ off. put_right_law (union_other v d.left.candidates d.right.candidates i off) off)

      out_stage : Stage d → Stage (leave_out d v)
      out_stage (untouched zl zr same) = untouched zl zr (ap (λ (c : ℕ). bit_and c (others v)) same)
      out_stage (led a m least) = led a m (λ p x. least p (out_whole p x))

      pub out_valid : Valid g (leave_out d v)
      out_valid =
          record {
            parts = h.parts;
            left = half_out d.left d.right.chosen h.left;
            right = half_out d.right d.left.chosen h.right;
            stage = out_stage h.stage;
          }

-- ---- what is undecided, and a node itself

pub undecided_usable : {g : SignedGraph} (d : Node) → Valid g d → Subset (undecided d) (vertices g)
undecided_usable {g} d va p m =
    union_cases (mem p (vertices g) ≡ true) p d.left.candidates d.right.candidates m
    (λ x. (va.left.candidate p x).usable) (λ x. (va.right.candidate p x).usable)

pub same_self : (g : SignedGraph) (k : Threshold) (d : Node) → Valid g d → Same g k d d
same_self g k d va = record { valid = va; to = λ x lx b. b; from = λ x lx b. b }
