-- Bounds on balanced sets by trying a vertex on the left, on the right and nowhere, and by a table of bounds. Assumes nothing.
use Prim.Native.Nat.{ℕ, ◌+◌, ◌-◌, ◌^◌, ◌≤◌, ◌<◌}
use native.Mathlib.Omega.{arith}
use mathlib.Core.Path.{◌≡◌, sym, ap, ap₂, ◌∙◌, subst}
use mathlib.Core.Bool.{true, false}
use mathlib.Core.List.{List}
use lib.ListN.{get_or}
use lib.Bits.{bit_and, bit_or, or_lt}
use Rattle.vertex_set.specs.Sets.{mem, Subset, size, lowest, single, others}
use Rattle.vertex_set.proofs.Booleans.{clash, refute, cases}
use Rattle.vertex_set.proofs.Membership.{none_in, mem_lt, lt_of_members, meet_in, meet_left, meet_right, union_left, union_right, union_mono, union_cases}
use Rattle.vertex_set.proofs.LowestVertex.{lowest_in, lowest_le}
use Rattle.signed_graph.specs.declared.SignedGraph.{SignedGraph}
use Rattle.signed_graph.specs.declared.Partners.{Partners}
use Rattle.signed_graph.specs.Graphs.{negative_edge, with_tables}
use Rattle.signed_graph.proofs.Soundness.{Sound, to_sound}
use Rattle.clique.proofs.Balance.{usable_64}
use Rattle.clique.specs.Balance.{Parts}
use Rattle.signed_graph.specs.Tables.{positives, negatives}
use Rattle.vertex_set.specs.declared.Sides.{Sides}
use Rattle.bounds.specs.Bounds.{AtMost, AtMostBy, meet}
use Rattle.vertex_set.proofs.Singles.{others_keep, others_lack}
use Rattle.bounds.proofs.Colours.{outside}
use Rattle.clique.proofs.Parts.{parts_flip, parts_within}
use Rattle.vertex_set.proofs.SizeBounds.{size_falls, size_but, size_empty}

-- the others than v of the side that v is on are in its positive row, those of the other side in its negative row
module _ (g : SignedGraph) (so : Sound g) {near far : ℕ} (h : Parts g near far) (v : ℕ) (on : mem v near ≡ true) where
  near_64 : near < 2 ^ 64
  near_64 = usable_64 g so near h.usable_l

  pub near_small : v < 64
  near_small = mem_lt 64 v near near_64 on

  abbrev pub rest : ℕ
  rest = bit_and near (others v)

  pub rest_parts : Parts g rest far
  rest_parts = parts_within h rest far (λ p. meet_left p near (others v)) (λ p m. m)

  pub rest_size : size near ≤ size rest + 1
  rest_size = size_but near rest v (λ p ne m. others_keep v near_small p near near_64 m (λ e. ne (sym e)))

  pub rest_row : (p : ℕ) → mem p rest ≡ true → mem p (bit_and (positives g v) (others v)) ≡ true
  rest_row p m =
      meet_in p (positives g v) (others v)
      (h.inside_l v p
      (λ e. clash (mem p rest) m (ap (λ (z : ℕ). mem z rest) (sym e) ∙ others_lack v near_small near))
      on (meet_left p near (others v) m))
      (meet_right p near (others v) m)

  pub far_row : (p : ℕ) → mem p far ≡ true → mem p (bit_and (negatives g v) (others v)) ≡ true
  far_row p m =
      meet_in p (negatives g v) (others v) (h.across v p on m)
      (meet_right p far (others v) (others_keep v near_small p far (usable_64 g so far h.usable_r) m
      (λ e. clash (negative_edge g v v) (ap (negative_edge g v) (sym e) ∙ h.across v p on m) (so.negatives.loopless v))))

-- ---- a vertex on the left, on the right, nowhere

-- o are the other vertices than v, plus and minus the partners of v
module _ (g : SignedGraph) (so : Sound g) (left right room v : ℕ) (small : v < 64) (pos : 0 < room) (o plus minus : ℕ)
    (is-o : o ≡ others v) (is-plus : plus ≡ positives g v) (is-minus : minus ≡ negatives g v) where
  branch : (mem v left ≡ true → AtMost g (bit_and left (bit_and plus o)) (bit_and right (bit_and minus o)) (room - 1))
      → (mem v right ≡ true → AtMost g (bit_and left (bit_and minus o)) (bit_and right (bit_and plus o)) (room - 1))
      → AtMost g (bit_and left o) (bit_and right o) room → AtMost g left right room
  branch on_left on_right nowhere l r h in_l in_r =
      cases (size l + size r ≤ room) (mem v l)
      (λ on.
      omega (
        arith,
        rest_size g so h v on,
        on_left (in_l v on) (rest g so h v on) r (rest_parts g so h v on)
            (λ p m. meet_in p left (bit_and plus o) (in_l p (meet_left p l (others v) m)) (row p is-plus (rest_row g so h v on p m)))
            (λ p m. meet_in p right (bit_and minus o) (in_r p m) (row p is-minus (far_row g so h v on p m))),
      ))
      (λ off-l.
      cases (size l + size r ≤ room) (mem v r)
      (λ on.
      let f : Parts g r l = parts_flip g so l r h in
      omega (
        arith,
        rest_size g so f v on,
        on_right (in_r v on) l (rest g so f v on) (parts_flip g so (rest g so f v on) l (rest_parts g so f v on))
            (λ p m. meet_in p left (bit_and minus o) (in_l p m) (row p is-minus (far_row g so f v on p m)))
            (λ p m. meet_in p right (bit_and plus o) (in_r p (meet_left p r (others v) m)) (row p is-plus (rest_row g so f v on p m))),
      ))
      (λ off-r. nowhere l r h (kept l left (usable_64 g so l h.usable_l) off-l in_l) (kept r right (usable_64 g so r h.usable_r) off-r in_r)))
    where
      row : (p : ℕ) {x y : ℕ} → x ≡ y → mem p (bit_and y (others v)) ≡ true → mem p (bit_and x o) ≡ true
      row p is m = ap₂ (λ (z w : ℕ). mem p (bit_and z w)) is is-o ∙ m

      kept : (s t : ℕ) → s < 2 ^ 64 → mem v s ≡ false → Subset s t → Subset s (bit_and t o)
      kept s t fits off sub p m =
          meet_in p t o (sub p m)
          (ap (mem p) is-o
          ∙ meet_right p s (others v) (others_keep v small p s fits m (λ e. clash (mem p s) m (ap (λ (z : ℕ). mem z s) e ∙ off))))

-- ---- a candidate

-- v is one of the candidates, of which there are t
pub record Leads (t : ℕ) (s : Sides) (v : ℕ) : Type 0 where
  pub few : size (bit_or s.left s.right) ≡ t
  pub small : v < 64
  pub here : mem v (bit_or s.left s.right) ≡ true

module _ (s : Sides) (l_64 : s.left < 2 ^ 64) (r_64 : s.right < 2 ^ 64) (v : ℕ) where
  fits : bit_or s.left s.right < 2 ^ 64
  fits = or_lt 64 s.left s.right l_64 r_64

  -- the lowest of some of them
  pub lowest_among : (chosen : ℕ) → Subset chosen (bit_or s.left s.right) → (chosen ≡ 0 → ⊥) → v ≡ lowest chosen
      → mem v (bit_or s.left s.right) ≡ true
  lowest_among chosen sub some is =
      let fits' : chosen < 2 ^ 64 = lt_of_members 64 chosen (λ p m. mem_lt 64 p (bit_or s.left s.right) fits (sub p m)) in
      sub v (ap (λ (z : ℕ). mem z chosen) is ∙ lowest_in chosen (omega arith) fits')

  pub leads : (t : ℕ) → size (bit_or s.left s.right) ≡ t → mem v (bit_or s.left s.right) ≡ true → Leads t s v
  leads t few here = record { few = few; small = mem_lt 64 v (bit_or s.left s.right) fits here; here = here }

-- the candidates get fewer where both sides are among the others than v
pub meet_falls : {t v : ℕ} {s : Sides} → Leads t s v → (r : Sides) (a b one : ℕ) → r ≡ meet s a b → one ≡ single v
    → Subset a (outside one) → Subset b (outside one) → size (bit_or r.left r.right) < t
meet_falls {t} {v} {s} lead r a b one is is_one in-a in_b =
    subst (λ (z : Sides). size (bit_or z.left z.right) < t) (sym is)
    (subst (λ (z : ℕ). size (bit_or (bit_and s.left a) (bit_and s.right b)) < z) lead.few
    (size_falls v (bit_or (bit_and s.left a) (bit_and s.right b)) (bit_or s.left s.right) lead.small
    (union_mono (bit_and s.left a) (bit_and s.right b) s.left s.right (λ p. meet_left p s.left a) (λ p. meet_left p s.right b)) lead.here
    (refute (mem v (bit_or (bit_and s.left a) (bit_and s.right b))) (λ m.
    union_cases ⊥ v (bit_and s.left a) (bit_and s.right b) m (lacks s.left a in-a) (lacks s.right b in_b)))))
  where
    lacks : (side c : ℕ) → Subset c (outside one) → mem v (bit_and side c) ≡ true → ⊥
    lacks side c sub m =
        clash (mem v (bit_and side (others v)))
        (meet_in v side (others v) (meet_left v side c m) (ap (λ (z : ℕ). mem v (outside z)) (sym is_one) ∙ sub v (meet_right v side c m)))
        (others_lack v lead.small side)

-- ---- over the tables of a graph

module _ (table positive negative : List ℕ) (s : Sides) (room : ℕ) where
  pub at_most_none : bit_or s.left s.right ≡ 0 → AtMostBy table positive negative s.left s.right room
  at_most_none z any so tabled l r h in_l in_r =
      omega (
        arith,
        size_empty l (λ p _ m. none_in p (ap (mem p) (sym z) ∙ union_left p s.left s.right (in_l p m))),
        size_empty r (λ p _ m. none_in p (ap (mem p) (sym z) ∙ union_right p s.left s.right (in_r p m))),
      )

  module _ {t v : ℕ} (lead : Leads t s v) where
    pub at_most_table : v ≡ lowest (bit_or s.left s.right) → get_or table v 0 ≤ room → AtMostBy table positive negative s.left s.right room
    at_most_table is le any so tabled l r h in_l in_r =
        omega (
          arith,
          tabled v lead.here l r h (λ p m. least p (union_left p s.left s.right (in_l p m)))
              (λ p m. least p (union_right p s.left s.right (in_r p m))),
        )
      where
        least : (p : ℕ) → mem p (bit_or s.left s.right) ≡ true → v ≤ p
        least p m = subst (λ (z : ℕ). z ≤ p) (sym is) (lowest_le (bit_or s.left s.right) p m)

    -- what was found where v goes to the left, to the right, or nowhere
    abbrev pub Found : ℕ → ℕ → ℕ → Type 0
    Found a b m = (r : Sides) × (r ≡ meet s a b) × AtMostBy table positive negative r.left r.right m

    pub at_most_branch : (of : Partners) (one : ℕ) → of ≡ record { positive = get_or positive v 0; negative = get_or negative v 0 }
        → one ≡ single v → 0 < room
        → (mem v s.left ≡ true → Found (bit_and of.positive (outside one)) (bit_and of.negative (outside one)) (room - 1))
        → (mem v s.right ≡ true → Found (bit_and of.negative (outside one)) (bit_and of.positive (outside one)) (room - 1))
        → Found (outside one) (outside one) room → AtMostBy table positive negative s.left s.right room
    at_most_branch of one rows is_one pos on_left on_right nowhere any so tabled =
        branch _ (to_sound _ so) s.left s.right room v lead.small pos _ _ _
        (ap outside is_one) (ap (λ (z : Partners). z.positive) rows) (ap (λ (z : Partners). z.negative) rows)
        (λ m. bound _ _ _ (on_left m)) (λ m. bound _ _ _ (on_right m)) (bound _ _ _ nowhere)
      where
        bound : (a b m : ℕ) → Found a b m → AtMost (with_tables any positive negative) (bit_and s.left a) (bit_and s.right b) m
        bound a b m (r, is, h) =
            subst (λ (z : Sides). AtMost (with_tables any positive negative) z.left z.right m) is
            (h any so (λ u i. tabled u (union_mono r.left r.right s.left s.right
            (λ p x. meet_left p s.left a (ap (λ (z : Sides). mem p z.left) (sym is) ∙ x))
            (λ p x. meet_left p s.right b (ap (λ (z : Sides). mem p z.right) (sym is) ∙ x)) u i)))
