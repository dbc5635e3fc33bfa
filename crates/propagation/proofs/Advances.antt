-- What a step of the search finds of a node: that no group is below, or a node that stands for the same groups. Assumes nothing.
use Prim.Native.Nat.{ℕ, ◌^◌, ◌<◌}
use native.Mathlib.Omega.{arith}
use mathlib.Core.Path.{◌≡◌, refl, sym, subst}
use mathlib.Core.Bool.{true}
use mathlib.Core.List.{List}
use lib.Bits.{bit_and, bit_or}
use borrow.Author.Tests.{not-true}
use Rattle.vertex_set.specs.Sets.{mem, Subset, lowest}
use Rattle.vertex_set.proofs.Membership.{union_cases, meet_left, meet_right}
use Rattle.vertex_set.proofs.LowestVertex.{lowest_in}
use Rattle.signed_graph.specs.declared.SignedGraph.{SignedGraph}
use Rattle.signed_graph.specs.Graphs.{vertices}
use Rattle.signed_graph.proofs.Soundness.{Sound, to_sound}
use Rattle.signed_graph.specs.Thresholds.{Threshold}
use Rattle.clique.proofs.Balance.{usable_64}
use Rattle.propagation.specs.declared.Fitting.{Fitting}
use Rattle.nodes.specs.declared.Node.{Node}
use Rattle.nodes.specs.Nodes.{undecided, short, Valid, Universal, on_left, on_right, Sole, Same, Barren}
use Rattle.nodes.specs.Below.{InSound}
use Rattle.propagation.specs.Propagation.{FreeSides, Requires, HeldByAll, Settles, Advances}
use Rattle.std.proofs.Common.{None, Some}
use Rattle.std.proofs.lemmas.Option.{none-some, same_Some}
use Rattle.nodes.proofs.Nodes.{same_self}
use Rattle.nodes.proofs.Prunes.{short_barren, dominated_left, dominated_right, universal_held, required_left, required_right}
use Rattle.propagation.proofs.Settling.{same_then}

-- ---- what every group below holds

module _ (positive negative : List ℕ) (d : Node) (free : Fitting) (fr : FreeSides positive negative d free) where
  -- the candidates that are free
  abbrev left_in : ℕ
  left_in = bit_and free.near.all d.left.candidates

  abbrev right_in : ℕ
  right_in = bit_and free.far.all d.right.candidates

  free_universal : (u : ℕ) → mem u (bit_or left_in right_in) ≡ true → Universal positive negative d u
  free_universal u m =
      union_cases (Universal positive negative d u) u left_in right_in m
      (λ x. on_left (meet_right u free.near.all d.left.candidates x)
      (fr.left u (meet_left u free.near.all d.left.candidates x)))
      (λ x. on_right (meet_right u free.far.all d.right.candidates x)
      (fr.right u (meet_left u free.far.all d.right.candidates x)))

  -- these, and those that alone keep a vertex that was left out from joining
  pub held_by_all : (a b l r : ℕ)
      → Requires positive negative (bit_and d.left.excluded a) d.left.candidates d.right.candidates l
      → Requires positive negative (bit_and d.right.excluded b) d.right.candidates d.left.candidates r
      → HeldByAll positive negative d (bit_or (bit_or (bit_or left_in right_in) l) r)
  held_by_all a b l r by_left by_right any so va k u m x lx below =
      let s = to_sound _ so in
      union_cases (mem u x.vertices ≡ true) u (bit_or (bit_or left_in right_in) l) r m
      (λ i. union_cases (mem u x.vertices ≡ true) u (bit_or left_in right_in) l i
      (λ j. universal_held _ s k d va u x lx below (free_universal u j))
      (λ j. required_left _ s k d va u x lx below (sole_of d.left.excluded a (by_left u j))))
      (λ i. required_right _ s k d va u x lx below (sole_of d.right.excluded b (by_right u i)))
    where
      sole_of : (out hint : ℕ) {near far : ℕ} → Sole positive negative (bit_and out hint) near far u
          → Sole positive negative out near far u
      sole_of out hint e =
          record { by = e.by; out = meet_left e.by out hint e.out; same = e.same; cross = e.cross }

-- ---- a step

module _ (positive negative : List ℕ) (k : Threshold) (d : Node) where
  -- no group is below; or e stands for the same groups
  pub finds_none : InSound positive negative d (λ g. Barren g k d) → Advances positive negative k d None
  finds_none h any so va = (λ _. h any so va, λ e f. absurd (none-some e f))

  pub finds_same : {e : Node} → InSound positive negative d (λ g. Same g k d e) → Advances positive negative k d (Some e)
  finds_same {e} h any so va = (λ f. absurd (none-some e (sym f)), λ b f. subst (Same _ k d) (same_Some e b f) (h any so va))

  pub advance_short : short k d ≡ true → Advances positive negative k d None
  unfolding short
  advance_short e = finds_none (λ any so _. short_barren _ (to_sound _ so) k d (not-true _ e))

  -- a vertex that was left out is free
  module _ (free : Fitting) (fr : FreeSides positive negative d free) where
    abbrev left_out : ℕ
    left_out = bit_and free.near.all d.left.excluded

    abbrev right_out : ℕ
    right_out = bit_and free.far.all d.right.excluded

    out_64 : (g : SignedGraph) → Sound g → Valid g d → bit_or left_out right_out < 2 ^ 64
    out_64 g so va =
        usable_64 g so (bit_or left_out right_out) (λ p m. union_cases (mem p (vertices g) ≡ true) p left_out right_out m
        (λ x. (va.left.out p (meet_right p free.near.all d.left.excluded x)).usable)
        (λ x. (va.right.out p (meet_right p free.far.all d.right.excluded x)).usable))

    pub advance_dominated : (bit_or left_out right_out ≡ 0 → ⊥) → Advances positive negative k d None
    advance_dominated some =
        finds_none (λ any so va x lx b.
        let u : ℕ = lowest (bit_or left_out right_out) in
        let s = to_sound _ so in
        union_cases ⊥ u left_out right_out (lowest_in (bit_or left_out right_out) (omega arith) (out_64 _ s va))
        (λ m. dominated_left _ s k d va u x lx b
        (meet_right u free.near.all d.left.excluded m) (fr.left u (meet_left u free.near.all d.left.excluded m)))
        (λ m. dominated_right _ s k d va u x lx b
        (meet_right u free.far.all d.right.excluded m) (fr.right u (meet_left u free.far.all d.right.excluded m))))

  -- nothing is chosen: the node as it is
  pub advance_begin : Advances positive negative k d (Some d)
  advance_begin = finds_same (λ any so va. same_self _ k d va)

  pub advance_settled : (held : ℕ) {e : Node} → (d.left.chosen ≡ 0 → ⊥) → HeldByAll positive negative d held
      → Settles positive negative d held e → Advances positive negative k d (Some e)
  advance_settled held some by_all s = finds_same (λ any so va. s any so va k some (by_all any so va k))

-- ---- step after step

module _ (positive negative : List ℕ) (k : Threshold) (d : Node) where
  -- e stands for the same groups
  pub record Advanced (e : Node) : Type 0 where
    pub fewer : Subset (undecided e) (undecided d)
    pub same : InSound positive negative d (λ g. Same g k d e)

  pub advanced_step : {e f : Node} → Advanced e → Subset (undecided f) (undecided e) → Advances positive negative k e (Some f)
      → Advanced f
  advanced_step {f = f} h few adv =
      record {
        fewer = λ p m. h.fewer p (few p m);
        same = λ any so va. let s = h.same any so va in same_then s ((adv any so s.valid).1 f refl);
      }

  pub advanced_end : {e : Node} → Advanced e → Advances positive negative k d (Some e)
  advanced_end h = finds_same _ _ _ _ h.same
