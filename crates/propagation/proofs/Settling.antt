-- Vertices that every group below a node holds go in one after the other, and the node stands for the same groups. Assumes nothing.
use Prim.Native.Nat.{ℕ, ◌^◌, ◌≤◌, ◌<◌}
use mathlib.Core.Path.{◌≡◌, refl, sym, ap, ◌∙◌}
use mathlib.Core.Bool.{Bool, true, false}
use mathlib.Core.List.{List}
use lib.ListN.{get_or}
use Rattle.vertex_set.specs.Sets.{mem, Subset, single}
use Rattle.vertex_set.proofs.Membership.{none_in, union_left}
use Rattle.vertex_set.specs.Members.{TakesLowest}
use Rattle.signed_graph.specs.declared.Partners.{Partners}
use Rattle.vertex_set.proofs.Traversals.{Traversal, traversal_begin, traversal_here, traversal_step}
use Rattle.signed_graph.specs.declared.SignedGraph.{SignedGraph}
use Rattle.signed_graph.proofs.Soundness.{Sound, to_sound}
use Rattle.signed_graph.specs.Thresholds.{Threshold}
use Rattle.nodes.specs.declared.Node.{Node}
use Rattle.nodes.specs.Nodes.{undecided, put_in, put_in_if_open, with_vertex, Stage, untouched, led, Valid, Held, Same}
use Rattle.propagation.specs.Propagation.{Settles}
use Rattle.nodes.proofs.Nodes.{put_cases, put_valid, same_self}
use Rattle.nodes.proofs.Falling.{put_fewer}
use Rattle.nodes.proofs.Below.{below_put, put_below}

-- ---- a vertex where it is undecided

module _ (P : Node → Type 0) (d : Node) (v positive negative : ℕ) where
  open_cases : (mem v (undecided d) ≡ true → P (put_in d v positive negative)) → P d → P (put_in_if_open d v positive negative)
  unfolding put_in_if_open
  open_cases put stay = go (mem v (undecided d)) refl
    where
      go : (b : Bool) → mem v (undecided d) ≡ b → P (elim b [ true ↦ put_in d v positive negative | false ↦ d ])
      go true e = put e
      go false e = stay

-- ---- what stays

pub same_then : {g : SignedGraph} {k : Threshold} {d e f : Node} → Same g k d e → Same g k e f → Same g k d f
same_then s t =
    record {
      valid = t.valid;
      to = λ x lx b. t.to x lx (s.to x lx b);
      from = λ x lx b. s.from x lx (t.from x lx b);
    }

put_chosen : (d : Node) (v positive negative : ℕ) → Subset d.left.chosen (put_in d v positive negative).left.chosen
put_chosen d v positive negative =
    put_cases (λ e. Subset d.left.chosen e.left.chosen) d v positive negative
    (λ _ p m. union_left p d.left.chosen (single v) m) (λ _ p m. m)

-- the left has a vertex, where it is not empty
led_chosen : {d : Node} {A : Type 0} → Stage d → (d.left.chosen ≡ 0 → ⊥) → ((a : ℕ) → mem a d.left.chosen ≡ true → A) → A
led_chosen (untouched z _ _) some f = absurd (some z)
led_chosen (led a m _) some f = f a m

-- ---- a vertex that every group below holds goes in

module _ (g : SignedGraph) (so : Sound g) (k : Threshold) (d : Node) (h : Valid g d) (v : ℕ) (small : v < 64)
    (a : ℕ) (on-a : mem a d.left.chosen ≡ true) (held : Held g k d v) where
  first : d.left.chosen ≡ 0 → (p : ℕ) → mem p (undecided d) ≡ true → v ≤ p
  first z p m = none_in a (ap (mem a) (sym z) ∙ on-a)

  held_same : mem v (undecided d) ≡ true → Same g k d (with_vertex g d v)
  held_same here =
      record {
        valid = put_valid g so v small d h first here;
        to = λ x lx b. below_put g so k d h v small here first x lx b (held x lx b);
        from = λ x lx b. (put_below g so k d h v small here first x lx b).0;
      }

-- ---- one after the other

module _ (positive negative : List ℕ) (d : Node) (held : ℕ) where
  -- e has those that are not left, as far as they fit
  pub record Settled (left : ℕ) (e : Node) : Type 0 where
    pub traversal : Traversal held left
    pub fewer : Subset (undecided e) (undecided d)
    pub kept : Subset d.left.chosen e.left.chosen
    pub stands : Settles positive negative d held e

  pub settled_begin : held < 2 ^ 64 → Settled held d
  settled_begin h =
      record {
        traversal = traversal_begin held h;
        fewer = λ p m. m;
        kept = λ p m. m;
        stands = λ any so va k some w. same_self _ k d va;
      }

  module _ {left v after : ℕ} {e : Node} (t : TakesLowest left v after) (h : Settled left e) where
    v_held : mem v held ≡ true
    v_held = ap (λ (z : ℕ). mem z held) t.is_lowest ∙ traversal_here h.traversal t.some

    -- v, which has these partners, goes in
    settled_next : Settled after (put_in_if_open e v (get_or positive v 0) (get_or negative v 0))
    settled_next =
        record {
          traversal = rw t.is_rest (traversal_step h.traversal t.some);
          fewer = open_cases (λ f. Subset (undecided f) (undecided d)) e v plus minus
              (λ _ p m. h.fewer p (put_fewer e v plus minus p m)) h.fewer;
          kept = open_cases (λ f. Subset d.left.chosen f.left.chosen) e v plus minus
              (λ _ p m. put_chosen e v plus minus p (h.kept p m)) h.kept;
          stands = λ any so va k some w.
              let s = h.stands any so va k some w in
              led_chosen va.stage some (λ a m.
              open_cases (Same _ k d) e v plus minus
              (λ here. same_then s (held_same _ (to_sound _ so) k e s.valid v t.is_vertex a (h.kept a m)
              (λ x lx b. w v v_held x lx (s.from x lx b)) here)) s);
        }
      where
        plus : ℕ
        plus = get_or positive v 0

        minus : ℕ
        minus = get_or negative v 0

    pub settled_step : {of : Partners} → {next : Node} → of ≡ record { positive = get_or positive v 0; negative = get_or negative v 0 }
        → next ≡ put_in_if_open e v of.positive of.negative → Settled after next
    settled_step rows is = rw (is, rows) settled_next
