-- Below the root are all groups: a vertex without an edge is in none, since a group has two vertices or more. Assumes nothing.
use Prim.Native.Nat.{ℕ, ◌-◌, ◌^◌, ◌<◌}
use mathlib.Core.Path.{◌≡◌, refl, sym, ap, ◌∙◌, subst}
use mathlib.Core.Bool.{true, false, not, ◌&&◌, ◌||◌}
use mathlib.Core.List.{List}
use lib.ListN.{get_or}
use lib.Bits.{bit_and, bit_or}
use Rattle.vertex_set.specs.Sets.{mem, Subset}
use Rattle.vertex_set.proofs.Booleans.{clash, cases, and_intro, fails_right, or_left, or_right, or_cases}
use Rattle.vertex_set.proofs.Membership.{mem_none, none_in, mem_minus, meet_in, meet_left, meet_right, union_left, union_right}
use Rattle.vertex_set.specs.Members.{TakesLowest}
use Rattle.vertex_set.proofs.SizeBounds.{another}
use Rattle.vertex_set.proofs.Traversals.{Traversal, traversal_begin, traversal_step, gone}
use Rattle.signed_graph.specs.declared.SignedGraph.{SignedGraph}
use Rattle.signed_graph.specs.Graphs.{vertices}
use Rattle.signed_graph.specs.Thresholds.{Threshold}
use Rattle.signed_graph.proofs.Soundness.{Sound}
use Rattle.clique.specs.Listing.{Item, Listed}
use Rattle.clique.proofs.Balance.{usable_64}
use Rattle.clique.proofs.Groups.{group_two}
use Rattle.clique.proofs.Listing.{listed_left, listed_right}
use Rattle.nodes.specs.declared.Side.{Side}
use Rattle.nodes.specs.Nodes.{CanJoin, Half, untouched, Between, Root, HasPartners}

-- ---- partners of the vertices that were gone through

module _ (positive negative : List ℕ) (s : ℕ) where
  pub record Gathered (left found : ℕ) : Type 0 where
    pub traversal : Traversal s left
    pub has : (p q : ℕ) → mem p s ≡ true → mem p left ≡ false → (mem q (get_or positive p 0) || mem q (get_or negative p 0)) ≡ true
        → mem q found ≡ true

  pub gathered_begin : s < 2 ^ 64 → Gathered s 0
  gathered_begin h = record { traversal = traversal_begin s h; has = λ p q m off e. clash (mem p s) m off }

  pub gathered_step : {left found x after : ℕ} → TakesLowest left x after → Gathered left found
      → Gathered after (bit_or (bit_or found (get_or positive x 0)) (get_or negative x 0))
  gathered_step {found = found} {x = x} takes h =
      record {
        traversal = rw takes.is_rest (traversal_step h.traversal takes.some);
        has = λ p q m off e.
            gone h.traversal takes.some p (ap (mem p) (sym takes.is_rest) ∙ off)
            (λ here.
            let same : p ≡ x = here ∙ sym takes.is_lowest in
            or_cases _ (mem q (get_or positive p 0)) (mem q (get_or negative p 0)) e
            (λ i. union_left q (bit_or found (get_or positive x 0)) _ (union_right q found _ (rw same at i)))
            (λ i. union_right q (bit_or found (get_or positive x 0)) _ (rw same at i)))
            (λ before. union_left q (bit_or found (get_or positive x 0)) _ (union_left q found _ (h.has p q m before e)));
      }

  pub gathered_all : {left found : ℕ} → left ≡ 0 → Gathered left found → HasPartners positive negative s found
  gathered_all none h p q m = h.has p q m (ap (mem p) none ∙ mem_none p)

-- ---- the root

module _ (g : SignedGraph) (so : Sound g) (joined : ℕ) (fits : joined < 2 ^ 64)
    (partners : HasPartners g.positive g.negative (vertices g) joined) where
  abbrev side : Side
  side = record { chosen = 0; candidates = bit_and (vertices g) joined; excluded = bit_and (vertices g) ((2 ^ 64 - 1) - joined) }

  left_out_law : (p : ℕ) → mem p side.excluded ≡ (mem p (vertices g) && not (mem p joined))
  left_out_law p = mem_minus 64 p (vertices g) joined (usable_64 g so (vertices g) (λ q m. m)) fits

  half : Half g side 0
  half =
      record {
        candidate = λ p m. could p (meet_left p (vertices g) joined m);
        out = λ p m. could p (meet_left p (vertices g) _ m);
        every = λ p f.
            cases _ (mem p joined)
            (λ i. or_left _ (mem p side.excluded) (meet_in p (vertices g) joined f.usable i))
            (λ i. or_right (mem p side.candidates) _ (left_out_law p ∙ and_intro (mem p (vertices g)) _ f.usable (ap not i)));
        apart = λ p m. left_out_law p ∙ fails_right (mem p (vertices g)) _ (ap not (meet_right p (vertices g) joined m));
      }
    where
      could : (p : ℕ) → mem p (vertices g) ≡ true → CanJoin g 0 0 p
      could p m = record { usable = m; same = λ q n. none_in q n; cross = λ q n. none_in q n }

  -- a vertex of a group has an edge with another one of it
  group_joined : {k : Threshold} {x : Item} → Listed g k x → Subset x.vertices joined
  group_joined {x = x} lx p m =
      let b = lx.group.balanced in
      let other = another x.vertices p (usable_64 g so x.vertices b.usable) (group_two lx.group) in
      partners other.0 p (b.usable other.0 other.2) (b.complete other.0 p other.1 other.2 m)

  root_is : Root g (record { left = side; right = side })
  root_is =
      record {
        valid = record {
          parts = record {
            usable_l = λ p m. none_in p m;
            usable_r = λ p m. none_in p m;
            inside_l = λ p q _ m _. none_in p m;
            inside_r = λ p q _ m _. none_in p m;
            across = λ p q m _. none_in p m;
          };
          left = half;
          right = half;
          stage = untouched refl refl refl;
        };
        below = λ k x lx. record { left = between lx x.left (listed_left lx); right = between lx x.right (listed_right lx) };
      }
    where
      between : {k : Threshold} {x : Item} → Listed g k x → (s : ℕ) → Subset s x.vertices → Between side s
      between lx s sub =
          record {
            holds = λ p m. none_in p m;
            only = λ p m.
                union_right p 0 _ (meet_in p (vertices g) joined (lx.group.balanced.usable p (sub p m)) (group_joined lx p (sub p m)));
          }

-- of the vertices, those that have partners are candidates, and the others are left out
pub root_of : (g : SignedGraph) → Sound g → (all joined : ℕ) → joined < 2 ^ 64 → all ≡ vertices g
    → HasPartners g.positive g.negative all joined
    → (let s : Side = record { chosen = 0; candidates = bit_and all joined; excluded = bit_and all ((2 ^ 64 - 1) - joined) } in
    Root g (record { left = s; right = s }))
root_of g so all joined fits is h =
    subst
    (λ (a : ℕ). let s : Side = record { chosen = 0; candidates = bit_and a joined; excluded = bit_and a ((2 ^ 64 - 1) - joined) } in
    Root g (record { left = s; right = s }))
    (sym is) (root_is g so joined fits (subst (λ (a : ℕ). HasPartners g.positive g.negative a joined) is h))
