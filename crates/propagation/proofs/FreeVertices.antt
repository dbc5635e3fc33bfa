-- The vertices that fit beside every candidate, found in one pass over the candidates. Assumes nothing.
use Prim.Native.Nat.{ℕ, ◌^◌, ◌<◌}
use mathlib.Core.Path.{◌≡◌, sym, ap, ◌∙◌, subst}
use mathlib.Core.Logic.{◌≢◌}
use mathlib.Core.Bool.{true, false}
use mathlib.Core.List.{List}
use lib.ListN.{get_or}
use lib.Bits.{bit_and, bit_or}
use Rattle.vertex_set.specs.Sets.{mem, Subset, single}
use Rattle.vertex_set.proofs.Booleans.{clash}
use Rattle.vertex_set.proofs.Membership.{mem_none, none_in, union_cases, meet_left, meet_right}
use Rattle.vertex_set.specs.Members.{TakesLowest}
use Rattle.vertex_set.proofs.Traversals.{Traversal, traversal_begin, traversal_step, gone}
use Rattle.propagation.specs.declared.Fit.{Fit}
use Rattle.propagation.specs.declared.Fitting.{Fitting}
use Rattle.nodes.specs.declared.Node.{Node}
use Rattle.propagation.specs.Propagation.{Beside, other_way, FreeSides}
use Rattle.vertex_set.proofs.Singles.{single_is}

module _ (positive negative : List ℕ) (candidates near far : ℕ) where
  -- same and cross fit beside the candidates that are not left
  pub record Passing (left same cross : ℕ) : Type 0 where
    pub traversal : Traversal candidates left
    pub near_of : Subset same near
    pub far_of : Subset cross far
    pub fit : (u w : ℕ) → mem u same ≡ true → mem w candidates ≡ true → mem w left ≡ false → w ≢ u
        → mem u (get_or positive w 0) ≡ true
    pub across : (u w : ℕ) → mem u cross ≡ true → mem w candidates ≡ true → mem w left ≡ false
        → mem u (get_or negative w 0) ≡ true

  pub passing_begin : candidates < 2 ^ 64 → Passing candidates near far
  passing_begin h =
      record {
        traversal = traversal_begin candidates h;
        near_of = λ p m. m;
        far_of = λ p m. m;
        fit = λ u w _ m off _. clash (mem w candidates) m off;
        across = λ u w _ m off. clash (mem w candidates) m off;
      }

  pub passing_step : {left same cross w after : ℕ} → TakesLowest left w after → Passing left same cross → (one : ℕ) → one ≡ single w
      → Passing after (bit_and same (bit_or (get_or positive w 0) one)) (bit_and cross (get_or negative w 0))
  passing_step {left} {same} {cross} {w} {after} t h one e =
      record {
        traversal = rw t.is_rest (traversal_step h.traversal t.some);
        near_of = λ p m. h.near_of p (meet_left p same (bit_or plus one) m);
        far_of = λ p m. h.far_of p (meet_left p cross minus m);
        fit = λ u v m i off ne.
            passed v off
            (λ y. union_cases (mem u (get_or positive v 0) ≡ true) u plus one (meet_right u same (bit_or plus one) m)
            (λ z. ap (λ (t : ℕ). mem u (get_or positive t 0)) y ∙ z)
            (λ z. absurd (ne (y ∙ sym (single_is w t.is_vertex u (ap (mem u) (sym e) ∙ z))))))
            (λ y. h.fit u v (meet_left u same (bit_or plus one) m) i y ne);
        across = λ u v m i off.
            passed v off
            (λ y. ap (λ (t : ℕ). mem u (get_or negative t 0)) y ∙ meet_right u cross minus m)
            (λ y. h.across u v (meet_left u cross minus m) i y);
      }
    where
      plus : ℕ
      plus = get_or positive w 0

      minus : ℕ
      minus = get_or negative w 0

      passed : {A : Type 0} (v : ℕ) → mem v after ≡ false → (v ≡ w → A) → (mem v left ≡ false → A) → A
      passed v off here before =
          gone h.traversal t.some v (ap (mem v) (sym t.is_rest) ∙ off) (λ y. here (y ∙ sym t.is_lowest)) before

module _ (positive negative : List ℕ) (candidates : ℕ) (from : Fitting) where
  pub passing_end : {left : ℕ} {near far : Fit} → Passing positive negative candidates from.near.all from.far.all left near.all far.all
      → left ≡ 0 → Beside positive negative candidates from (record { near = near; far = far })
  passing_end h z =
      record {
        near_of = h.near_of;
        far_of = h.far_of;
        same = λ u w m i ne. h.fit u w m i (ap (mem w) z ∙ mem_none w) ne;
        cross = λ u w m i. h.across u w m i (ap (mem w) z ∙ mem_none w);
      }

  pub beside_none : {r : Fitting} → r.near.all ≡ 0 → r.far.all ≡ 0 → Beside positive negative candidates from r
  beside_none {r} near far =
      record {
        near_of = λ p m. none_in p (ap (mem p) (sym near) ∙ m);
        far_of = λ p m. none_in p (ap (mem p) (sym far) ∙ m);
        same = λ u w m _ _. none_in u (ap (mem u) (sym near) ∙ m);
        cross = λ u w m _. none_in u (ap (mem u) (sym far) ∙ m);
      }

-- over the candidates of the left, then over those of the right
pub both_sides : (positive negative : List ℕ) (d : Node) {from first between second after : Fitting}
    → Beside positive negative d.left.candidates from first → between ≡ other_way first
    → Beside positive negative d.right.candidates between second → after ≡ other_way second → FreeSides positive negative d after
both_sides positive negative d {first = first} {between = between} {second = second} a turned b back =
    subst (FreeSides positive negative d) (sym back) (record {
      left = λ u m. record { same = λ w i ne. a.same u w (in_near u (b.far_of u m)) i ne; cross = λ w i. b.cross u w m i };
      right = λ u m. record { same = λ w i ne. b.same u w m i ne; cross = λ w i. a.cross u w (in_far u (b.near_of u m)) i };
    })
  where
    in_near : Subset between.far.all first.near.all
    in_near u m = ap (λ (f : Fitting). mem u f.far.all) (sym turned) ∙ m

    in_far : Subset between.near.all first.far.all
    in_far u m = ap (λ (f : Fitting). mem u f.near.all) (sym turned) ∙ m
