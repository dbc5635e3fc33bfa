-- Colour classes, and the bound that classes which cover the candidates give. Assumes nothing.
use Prim.Native.Nat.{ℕ, ◌+◌, ◌-◌, ◌^◌, ◌≤◌, ◌<◌}
use native.Mathlib.Nat.{lt_of_le_of_lt}
use native.Mathlib.Omega.{arith}
use native.Mathlib.Decide.{dec_lt}
use mathlib.Core.Path.{◌≡◌, sym, ap, ◌∙◌, subst}
use mathlib.Core.Bool.{Bool, true, false, not, ◌&&◌, ◌||◌}
use mathlib.Core.List.{List}
use lib.ListN.{get_or}
use lib.Bits.{bit_and, bit_or, and_le_l}
use Rattle.vertex_set.specs.Sets.{mem, Subset, size, lowest, single}
use Rattle.vertex_set.proofs.Booleans.{clash, refute, cases, and_intro, fails_left, fails_right, or_left, or_right, neither_left}
use Rattle.vertex_set.proofs.Membership.{none_in, mem_lt, mem_or, mem_not, meet_in, meet_left, meet_right, union_left, union_right}
use Rattle.vertex_set.proofs.LowestVertex.{lowest_lt, lowest_in}
use Rattle.vertex_set.proofs.Sizes.{size_subset}
use Rattle.signed_graph.specs.declared.SignedGraph.{SignedGraph}
use Rattle.signed_graph.specs.declared.Partners.{Partners}
use Rattle.vertex_set.specs.declared.Sides.{Sides}
use Rattle.clique.specs.Balance.{Parts}
use Rattle.signed_graph.specs.Graphs.{with_tables}
use Rattle.signed_graph.specs.Tables.{ForSound}
use Rattle.bounds.specs.Bounds.{AtMost, Independent, Unjoined, Picked, ColourClass}
use Rattle.vertex_set.proofs.Singles.{joined_in, joined_cases}
use Rattle.vertex_set.proofs.SizeBounds.{size_falls, size_cover, size_empty, size_class}

-- ---- what is not in a set of 64 vertices, as `!` makes it

abbrev pub outside : ℕ → ℕ
outside s = 2 ^ 64 - 1 - s

-- with no bound on the set
outside_off : (p s : ℕ) → mem p (outside s) ≡ true → mem p s ≡ false
outside_off p s m = go (dec_lt s (2 ^ 64))
  where
    go : Dec (s < 2 ^ 64) → mem p s ≡ false
    go (yes h) =
        let l : p < 64 = mem_lt 64 p (outside s) (omega arith) m in
        refute (mem p s) (λ i. clash (mem p (outside s)) m (mem_not 64 p s l h ∙ ap not i))
    go (no h) = let z : outside s ≡ 0 = omega arith in none_in p (ap (mem p) (sym z) ∙ m)

-- ---- an independent set, grown by the lowest vertex that is left

module _ (positive negative : List ℕ) (near : ℕ) where
  -- the vertices left and those apart are joined to no member
  pub record Picking (members apart left : ℕ) : Type 0 where
    pub fits : left < 2 ^ 64
    pub near_of : Subset members near
    pub left_of : Subset left near
    pub inside : Independent positive members
    pub ahead : Unjoined positive members left
    pub across : Unjoined negative members apart

  pub picking_begin : near < 2 ^ 64 → (far : ℕ) → Picking 0 far near
  picking_begin h far =
      record {
        fits = h;
        near_of = λ p m. none_in p m;
        left_of = λ p m. m;
        inside = λ u w _ m _. none_in u m;
        ahead = λ u w m _. none_in u m;
        across = λ u w m _. none_in u m;
      }

  module _ {members apart left : ℕ} (h : Picking members apart left) (pos : 0 < left) (v : ℕ) (is : v ≡ lowest left) where
    pub picking_small : v < 64
    picking_small = subst (λ (z : ℕ). z < 64) (sym is) (lowest_lt left pos h.fits)

    here : mem v left ≡ true
    here = ap (λ (z : ℕ). mem z left) is ∙ lowest_in left pos h.fits

  module _ {members apart left : ℕ} (h : Picking members apart left) (pos : 0 < left) (v : ℕ) (is : v ≡ lowest left)
      (one : ℕ) (is_one : one ≡ single v) (of : Partners) where
    small : v < 64
    small = picking_small h pos v is

    v-in : mem v left ≡ true
    v-in = here h pos v is

    abbrev after : ℕ
    after = bit_and left (outside (bit_or of.positive one))

    after_off : (w : ℕ) → mem w after ≡ true → mem w (bit_or of.positive one) ≡ false
    after_off w m = outside_off w (bit_or of.positive one) (meet_right w left (outside (bit_or of.positive one)) m)

    after_in : Subset after left
    after_in w = meet_left w left (outside (bit_or of.positive one))

    member_cases : (A : Type 0) (u : ℕ) → mem u (bit_or members one) ≡ true → (mem u members ≡ true → A) → (u ≡ v → A) → A
    member_cases A u m = joined_cases v small A u members (ap (λ (z : ℕ). mem u (bit_or members z)) (sym is_one) ∙ m)

    pub picking_falls : size after < size left
    picking_falls =
        size_falls v after left small after_in v-in
        (refute (mem v after) (λ m.
        clash (mem v (bit_or of.positive one))
        (ap (λ (z : ℕ). mem v (bit_or of.positive z)) is_one ∙ joined_in v small of.positive)
        (after_off v m)))

    pub picking_step : of ≡ record { positive = get_or positive v 0; negative = get_or negative v 0 }
        → Picking (bit_or members one) (bit_and apart (outside of.negative)) after
    picking_step rows =
        record {
          fits = lt_of_le_of_lt (and_le_l left (outside (bit_or of.positive one))) h.fits;
          near_of = λ p m. member_cases (mem p near ≡ true) p m (h.near_of p)
              (λ e. ap (λ (z : ℕ). mem z near) e ∙ h.left_of v v-in);
          left_of = λ p m. h.left_of p (after_in p m);
          inside = λ u w ne mu mw.
              let A : Type 0 = (mem w (get_or positive u 0) && mem u (get_or positive w 0)) ≡ false in
              member_cases A u mu
              (λ x. member_cases A w mw (λ y. h.inside u w ne x y)
              (λ y. fails_left (mem w (get_or positive u 0)) (mem u (get_or positive w 0))
              (ap (λ (z : ℕ). mem z (get_or positive u 0)) y ∙ h.ahead u v x v-in)))
              (λ x. member_cases A w mw
              (λ y. fails_right (mem w (get_or positive u 0)) (mem u (get_or positive w 0))
              (ap (λ (z : ℕ). mem z (get_or positive w 0)) x ∙ h.ahead w v y v-in))
              (λ y. absurd (ne (x ∙ sym y))));
          ahead = λ u w mu mw.
              member_cases (mem w (get_or positive u 0) ≡ false) u mu (λ x. h.ahead u w x (after_in w mw))
              (λ x. ap (λ (z : ℕ). mem w (get_or positive z 0)) x ∙ ap (mem w) (λ k. (sym rows k).positive)
              ∙ neither_left (mem w of.positive) (mem w one) (sym (mem_or w of.positive one) ∙ after_off w mw));
          across = λ u w mu mw.
              member_cases (mem w (get_or negative u 0) ≡ false) u mu
              (λ x. h.across u w x (meet_left w apart (outside of.negative) mw))
              (λ x. ap (λ (z : ℕ). mem w (get_or negative z 0)) x ∙ ap (mem w) (λ k. (sym rows k).negative)
              ∙ outside_off w of.negative (meet_right w apart (outside of.negative) mw));
        }

-- an independent set of the left, and one of the vertices for the right that are joined to none of it
pub both_picked : {positive negative : List ℕ} {left : ℕ} (first second : Sides) → Picked positive negative left first
    → Picked positive negative first.right second
    → ColourClass positive negative (record { left = first.left; right = second.left })
both_picked first second a b =
    record { inside_l = a.inside; inside_r = b.inside; across = λ u w x y. a.across u w x (b.near_of w y) }

-- ---- classes that cover the candidates

-- of a balanced set with these sides, a class has at most one vertex
class_one : (g : SignedGraph) (l r : ℕ) → Parts g l r → (c : Sides) → ColourClass g.positive g.negative c
    → size (bit_and l c.left) + size (bit_and r c.right) ≤ 1
class_one g l r h c k =
    size_class (bit_and l c.left) (bit_and r c.right)
    (λ p q x y ne. clash (mem q (get_or g.positive p 0) && mem p (get_or g.positive q 0))
    (and_intro _ _ (h.inside_l p q ne (meet_left p l c.left x) (meet_left q l c.left y))
    (h.inside_l q p (λ e. ne (sym e)) (meet_left q l c.left y) (meet_left p l c.left x)))
    (k.inside_l p q ne (meet_right p l c.left x) (meet_right q l c.left y)))
    (λ p q x y ne. clash (mem q (get_or g.positive p 0) && mem p (get_or g.positive q 0))
    (and_intro _ _ (h.inside_r p q ne (meet_left p r c.right x) (meet_left q r c.right y))
    (h.inside_r q p (λ e. ne (sym e)) (meet_left q r c.right y) (meet_left p r c.right x)))
    (k.inside_r p q ne (meet_right p r c.right x) (meet_right q r c.right y)))
    (λ p q x y. clash (mem q (get_or g.negative p 0)) (h.across p q (meet_left p l c.left x) (meet_left q r c.right y))
    (k.across p q (meet_right p l c.left x) (meet_right q r c.right y)))

-- what a set has of `near`, it has of the class or of what is left without the class
size_split : (s near class : ℕ) → class < 2 ^ 64
    → size (bit_and s near) ≤ size (bit_and s (bit_and near (outside class))) + size (bit_and s class)
size_split s near class fits =
    size_cover (bit_and s near) (bit_and s (bit_and near (outside class))) (bit_and s class) (λ p l m.
    let a : Bool = mem p (bit_and s (bit_and near (outside class))) in
    let b : Bool = mem p (bit_and s class) in
    cases ((a || b) ≡ true) (mem p class)
    (λ x. or_right a b (meet_in p s class (meet_left p s near m) x))
    (λ x. or_left a b (meet_in p s (bit_and near (outside class)) (meet_left p s near m)
    (meet_in p near (outside class) (meet_right p s near m) (mem_not 64 p class l fits ∙ ap not x)))))

module _ (positive negative : List ℕ) (left right : ℕ) where
  -- `colours` classes cover all but near and far
  abbrev pub Coloured : ℕ → ℕ → ℕ → Type 0
  Coloured near far colours =
      ForSound positive negative (λ g.
      (l r : ℕ) → Parts g l r → Subset l left → Subset r right
      → size l + size r ≤ colours + (size (bit_and l near) + size (bit_and r far)))

  pub coloured_begin : Coloured left right 0
  coloured_begin any so l r h in_l in_r =
      omega (
        arith,
        size_subset l (bit_and l left) (λ p m. meet_in p l left m (in_l p m)),
        size_subset r (bit_and r right) (λ p m. meet_in p r right m (in_r p m)),
      )

  pub coloured_step : (near far colours : ℕ) → Coloured near far colours → (c : Sides) → ColourClass positive negative c
      → c.left < 2 ^ 64 → c.right < 2 ^ 64
      → Coloured (bit_and near (outside c.left)) (bit_and far (outside c.right)) (colours + 1)
  coloured_step near far colours h c k fits-l fits-r any so l r parts in_l in_r =
      omega (
        arith,
        h any so l r parts in_l in_r,
        class_one (with_tables any positive negative) l r parts c k,
        size_split l near c.left fits-l,
        size_split r far c.right fits-r,
      )

  pub coloured_end : (near far colours room : ℕ) → Coloured near far colours → bit_or near far ≡ 0 → colours ≤ room
      → ForSound positive negative (λ g. AtMost g left right room)
  coloured_end near far colours room h z le any so l r parts in_l in_r =
      omega (
        arith,
        h any so l r parts in_l in_r,
        size_empty (bit_and l near) (λ p _ m. none_in p (ap (mem p) (sym z) ∙ union_left p near far (meet_right p l near m))),
        size_empty (bit_and r far) (λ p _ m. none_in p (ap (mem p) (sym z) ∙ union_right p near far (meet_right p r far m))),
      )
