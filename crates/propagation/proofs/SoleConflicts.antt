-- The candidates that alone keep a vertex from joining. Assumes nothing.
use Prim.Native.Nat.{ℕ, ◌^◌, ◌<◌}
use mathlib.Core.Path.{◌≡◌, sym, ap, ◌∙◌}
use mathlib.Core.List.{List}
use lib.ListN.{get_or}
use lib.Bits.{bit_or}
use Rattle.vertex_set.specs.Sets.{mem, SoleMember}
use Rattle.vertex_set.proofs.Booleans.{refute}
use Rattle.vertex_set.proofs.Membership.{none_in, union_cases}
use Rattle.vertex_set.specs.Members.{TakesLowest}
use Rattle.signed_graph.specs.declared.Partners.{Partners}
use Rattle.vertex_set.proofs.Traversals.{Traversal, traversal_begin, traversal_here, traversal_step}
use Rattle.nodes.specs.Nodes.{Sole, Conflicts}
use Rattle.propagation.specs.Propagation.{Requires}

module _ (positive negative : List ℕ) (excluded near far : ℕ) where
  pub record Requiring (left held : ℕ) : Type 0 where
    pub traversal : Traversal excluded left
    pub soles : Requires positive negative excluded near far held

  pub requiring_begin : excluded < 2 ^ 64 → Requiring excluded 0
  requiring_begin h = record { traversal = traversal_begin excluded h; soles = λ u m. none_in u m }

  pub requiring_step : {left held x after : ℕ} → TakesLowest left x after → Requiring left held → {of : Partners} → (against one : ℕ)
      → of ≡ record { positive = get_or positive x 0; negative = get_or negative x 0 }
      → Conflicts near far of.positive of.negative against → SoleMember against one → Requiring after (bit_or held one)
  requiring_step {left} {held} {x} t h {of} against one rows c only =
      record {
        traversal = rw t.is_rest (traversal_step h.traversal t.some);
        soles = λ u m.
            union_cases (Sole positive negative excluded near far u) u held one m (h.soles u) (λ i.
            record {
              by = x;
              out = ap (λ (z : ℕ). mem z excluded) t.is_lowest ∙ traversal_here h.traversal t.some;
              same = λ w j ne. ap (λ (z : Partners). mem w z.positive) (sym rows) ∙ c.same w j (refute (mem w against) (λ a. ne (only u w i a)));
              cross = λ w j ne. ap (λ (z : Partners). mem w z.negative) (sym rows) ∙ c.cross w j (refute (mem w against) (λ a. ne (only u w i a)));
            });
      }
