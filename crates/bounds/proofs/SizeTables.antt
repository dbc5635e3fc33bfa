-- The table of bounds on the balanced sets from each vertex up, made from the highest vertex down. Assumes nothing.
use Prim.Native.Nat.{ℕ, ◌+◌, ◌-◌, ◌≤◌, ◌<◌}
use native.Mathlib.Omega.{arith}
use native.Mathlib.Decide.{ℕ_discrete}
use mathlib.Core.Path.{◌≡◌, sym, ap, ap₂, ◌∙◌, subst}
use mathlib.Core.Bool.{true, false}
use mathlib.Core.List.{List}
use lib.ListN.{get_or, set, length, length-set}
use lib.Seq.{get_or-set_same, get_or-set_other}
use lib.Bits.{bit_and, bit_or}
use Rattle.vertex_set.specs.Sets.{mem, size, single, others}
use Rattle.vertex_set.proofs.Booleans.{clash, cases}
use Rattle.vertex_set.proofs.Membership.{none_in, meet_in, meet_left, meet_right, union_left, union_right, union_cases}
use Rattle.signed_graph.specs.declared.SignedGraph.{SignedGraph}
use Rattle.signed_graph.specs.declared.Partners.{Partners}
use Rattle.signed_graph.specs.Graphs.{vertices, with_tables}
use Rattle.signed_graph.proofs.Soundness.{Sound, to_sound, vertex_below}
use Rattle.clique.specs.Balance.{Parts}
use Rattle.signed_graph.specs.Tables.{positives, negatives, ForSound}
use Rattle.bounds.specs.Bounds.{AtMostFrom, AtMostBy, TabledFrom, SizeTable}
use Rattle.vertex_set.proofs.Singles.{single_in, single_is, others_lack}
use Rattle.clique.proofs.Parts.{parts_flip}
use Rattle.vertex_set.proofs.SizeBounds.{size_empty}
use Rattle.bounds.proofs.Branches.{near_small, rest, rest_parts, rest_size, rest_row, far_row}

-- ---- one vertex more

module _ (g : SignedGraph) (so : Sound g) where
  -- balanced sets with v have at most k others
  from_next : (v k : ℕ)
      → ((a b : ℕ) → Parts g a b → ((p : ℕ) → mem p a ≡ true → (v + 1 ≤ p) × (mem p (positives g v) ≡ true))
      → ((p : ℕ) → mem p b ≡ true → (v + 1 ≤ p) × (mem p (negatives g v) ≡ true)) → size a + size b ≤ k)
      → AtMostFrom g (v + 1) (k + 1) → AtMostFrom g v (k + 1)
  from_next v k with-v without-v l r h from-l from-r =
      cases (size l + size r ≤ k + 1) (mem v l)
      (λ on. one h on from-l from-r)
      (λ off-l. cases (size l + size r ≤ k + 1) (mem v r)
      (λ on. omega (arith, one (parts_flip g so l r h) on from-r from-l))
      (λ off-r. without-v l r h (next l off-l from-l) (next r off-r from-r)))
    where
      next : (s : ℕ) → mem v s ≡ false → ((p : ℕ) → mem p s ≡ true → v ≤ p) → (p : ℕ) → mem p s ≡ true → v + 1 ≤ p
      next s off from p m =
          let ne : p ≡ v → ⊥ = λ e. clash (mem p s) m (ap (λ (z : ℕ). mem z s) e ∙ off) in
          omega (arith, from p m)

      one : {near far : ℕ} → Parts g near far → mem v near ≡ true → ((p : ℕ) → mem p near ≡ true → v ≤ p)
          → ((p : ℕ) → mem p far ≡ true → v ≤ p) → size near + size far ≤ k + 1
      one {near} {far} f on from-near from-far =
          omega (
            arith,
            rest_size g so f v on,
            with-v (rest g so f v on) far (rest_parts g so f v on)
                (λ p m. row (positives g v) p (from-near p (meet_left p near (others v) m)) (rest_row g so f v on p m))
                (λ p m. row (negatives g v) p (from-far p m) (far_row g so f v on p m)),
          )
        where
          row : (r p : ℕ) → v ≤ p → mem p (bit_and r (others v)) ≡ true → (v + 1 ≤ p) × (mem p r ≡ true)
          row r p le m =
              let ne : p ≡ v → ⊥ = λ e. clash (mem p (bit_and r (others v))) m
              (ap (λ (z : ℕ). mem z (bit_and r (others v))) e ∙ others_lack v (near_small g so f v on) r) in
              (omega arith, meet_left p r (others v) m)

module _ (table positive negative : List ℕ) (v all above most : ℕ) where
  abbrev Bound : ℕ → Type 0
  Bound m = ForSound positive negative (λ g. vertices g ≡ all → TabledFrom g table (v + 1) above most → AtMostFrom g v m)

  -- no balanced set holds v
  pub bound_passes : mem v all ≡ false → Bound most
  bound_passes off any so is h l r f from-l from-r =
      h.most l r f (λ p m. next p (from-l p m) (f.usable_l p m)) (λ p m. next p (from-r p m) (f.usable_r p m))
    where
      next : (p : ℕ) → v ≤ p → mem p (vertices (with_tables any positive negative)) ≡ true → v + 1 ≤ p
      next p le m =
          let ne : p ≡ v → ⊥ = λ e. clash (mem v all) (ap₂ mem (sym e) (sym is) ∙ m) off in
          omega arith

  pub bound_grows : Bound (most + 1)
  bound_grows any so _ h =
      from_next _ (to_sound _ so) v most (λ a b f in-a in_b. h.most a b f (λ p m. (in-a p m).0) (λ p m. (in_b p m).0))
      (λ l r f from-l from-r. omega (arith, h.most l r f from-l from-r))

  pub bound_first : most ≡ 0 → Bound 1
  bound_first z = let e : most + 1 ≡ 1 = omega arith in subst Bound e bound_grows

  pub bound_stays : 0 < most → (of : Partners) → of ≡ record { positive = get_or positive v 0; negative = get_or negative v 0 }
      → AtMostBy table positive negative (bit_and of.positive above) (bit_and of.negative above) (most - 1) → Bound most
  bound_stays pos of rows few any so _ h =
      let e : most - 1 + 1 ≡ most = omega arith in
      subst (AtMostFrom g v) e
      (from_next g s v (most - 1)
      (λ a b f in-a in_b.
      few any so (λ u m. h.tabled u (union_cases (mem u above ≡ true) u (bit_and of.positive above) (bit_and of.negative above) m
      (meet_right u of.positive above) (meet_right u of.negative above)))
      a b f
      (λ p m. meet_in p of.positive above (ap (λ (z : Partners). mem p z.positive) rows ∙ (in-a p m).1) (h.has p (in-a p m).0 (f.usable_l p m)))
      (λ p m. meet_in p of.negative above (ap (λ (z : Partners). mem p z.negative) rows ∙ (in_b p m).1) (h.has p (in_b p m).0 (f.usable_r p m))))
      (subst (AtMostFrom g (v + 1)) (sym e) h.most))
    where
      g : SignedGraph
      g = with_tables any positive negative

      s : Sound g
      s = to_sound g so

-- ---- the table

module _ (g : SignedGraph) (so : Sound g) where
  tabled_begin : (table : List ℕ) → TabledFrom g table g.n 0 0
  tabled_begin table =
      record {
        has = λ p a m. absurd (omega (arith, vertex_below g p m));
        tabled = λ u m. none_in u m;
        most = λ l r h from-l from-r.
            omega (
              arith,
              size_empty l (λ p _ m. let b = vertex_below g p (h.usable_l p m) in let a = from-l p m in omega arith),
              size_empty r (λ p _ m. let b = vertex_below g p (h.usable_r p m) in let a = from-r p m in omega arith),
            );
      }

  tabled_step : {table : List ℕ} {above most : ℕ} (v m : ℕ) → v < 64 → length table ≡ 64
      → TabledFrom g table (v + 1) above most → AtMostFrom g v m → (one : ℕ) → one ≡ bit_and (single v) (vertices g)
      → TabledFrom g (set table v m) v (bit_or above one) m
  tabled_step {table} {above} v m small whole h b one is_one =
      record {
        has = λ p a i. has p a i (ℕ_discrete p v);
        tabled = λ u i. entry u i (ℕ_discrete u v);
        most = b;
      }
    where
      has : (p : ℕ) → v ≤ p → mem p (vertices g) ≡ true → Dec (p ≡ v) → mem p (bit_or above one) ≡ true
      has p a i (yes e) =
          union_right p above one
          (ap (mem p) is_one ∙ meet_in p (single v) (vertices g) (ap (λ (x : ℕ). mem x (single v)) e ∙ single_in v small) i)
      has p a i (no e) = union_left p above one (h.has p (omega (arith, e)) i)

      entry : (u : ℕ) → mem u (bit_or above one) ≡ true → Dec (u ≡ v) → AtMostFrom g u (get_or (set table v m) u 0)
      entry u i (yes e) =
          let short : v < length table = omega arith in
          subst (λ (x : ℕ). AtMostFrom g x (get_or (set table v m) x 0)) (sym e)
          (subst (AtMostFrom g v) (sym (get_or-set_same table v m 0 short)) b)
      entry u i (no e) =
          subst (AtMostFrom g u) (sym (get_or-set_other table v u m 0 e))
          (h.tabled u (union_cases (mem u above ≡ true) u above one i (λ x. x) (λ x.
          absurd (e (single_is v small u (meet_left u (single v) (vertices g) (ap (mem u) (sym is_one) ∙ x)))))))

-- the table has bounds from v up, and at most n - v vertices are in a balanced set there
module _ (n all : ℕ) (positive negative : List ℕ) where
  pub record Tabling (table : List ℕ) (above most v : ℕ) : Type 0 where
    pub low : most + v ≤ n
    pub whole : length table ≡ 64
    pub bounds : ForSound positive negative (λ g. g.n ≡ n → vertices g ≡ all → TabledFrom g table v above most)

  pub tabling_begin : (table : List ℕ) → length table ≡ 64 → Tabling table 0 0 n
  tabling_begin table whole =
      record {
        low = omega arith;
        whole = whole;
        bounds = λ any so e _.
            subst (λ (z : ℕ). TabledFrom (with_tables any positive negative) table z 0 0) e (tabled_begin _ (to_sound _ so) table);
      }

  pub tabling_step : {table : List ℕ} {above most v : ℕ} → Tabling table above most v → n ≤ 64 → 0 < v
      → (m : ℕ) → m ≤ most + 1
      → ForSound positive negative (λ g. vertices g ≡ all → TabledFrom g table (v - 1 + 1) above most → AtMostFrom g (v - 1) m)
      → (one : ℕ) → one ≡ bit_and (single (v - 1)) all → Tabling (set table (v - 1) m) (bit_or above one) m (v - 1)
  tabling_step {table} {above} {most} {v} h small pos m le bound one is_one =
      record {
        low = omega (arith, h.low);
        whole = length-set table (v - 1) m ∙ h.whole;
        bounds = λ any so has-n is.
            let g = with_tables any positive negative in
            let e : v ≡ v - 1 + 1 = omega arith in
            let f : TabledFrom g table (v - 1 + 1) above most =
            subst (λ (z : ℕ). TabledFrom g table z above most) e (h.bounds any so has-n is) in
            tabled_step g (to_sound g so) (v - 1) m (omega (arith, h.low)) h.whole f (bound any so is f) one (rw is is_one);
      }

  -- no sound graph has more than 64 vertices
  pub tabled_none : (table : List ℕ) → 64 < n → SizeTable n all positive negative table
  tabled_none table many any so e _ = absurd (let small = (to_sound _ so).small in omega arith)
