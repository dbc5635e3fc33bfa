-- The loop of rounds: what is kept, where the next round looks, and the looks before it. Assumes nothing.
use Prim.Native.Nat.{ℕ, suc, ◌+◌, ◌*◌, ◌≤◌, ◌<◌}
use native.Mathlib.Numerals.{add-one}
use native.Mathlib.Omega.{arith}
use native.Mathlib.Decide.{ℕ_discrete}
use mathlib.Core.Path.{◌≡◌, refl, sym, ap, ap₂, ◌∙◌, subst}
use mathlib.Core.Logic.{◌≢◌}
use mathlib.Core.Bool.{false}
use borrow.Author.Tests.{eq-eqb, ne_eqb}
use Rattle.vertex_set.specs.Ranges.{sum}
use Rattle.vertex_set.specs.Sets.{below}
use Rattle.vertex_set.proofs.Ranges.{seek_is}
use Rattle.signed_graph.specs.declared.SignedGraph.{SignedGraph}
use Rattle.signed_graph.proofs.Soundness.{Sound}
use Rattle.signed_graph.proofs.EdgeCounts.{edges_most}
use Rattle.reduction.specs.declared.Reduced.{Reduced}
use Rattle.reduction.specs.RoundTables.{Follows}
use Rattle.reduction.specs.Reductions.{unmasked, round, fallen, looks_at, start, drops_nothing, most_rounds, last_round, reduced_graph, looks}
use Rattle.reduction.proofs.Reductions.{sound_at, fewer_at}
use Rattle.reduction.proofs.Looks.{looks_in, looks_at_most, looks_before}

-- the round with this number is next: all before it dropped an edge
pub record Reached (g : SignedGraph) (k : ℕ) (kept : SignedGraph) (look total : ℕ) : Type 0 where
  pub number : ℕ
  pub graph_is : kept ≡ (start g k number).graph
  pub look_is : look ≡ (start g k number).look
  pub looks_are : total ≡ sum number (looks_in g k)
  pub dropped : (j : ℕ) → j < number → drops_nothing g k j ≡ false

pub reached_first : (g : SignedGraph) (k : ℕ) → Reached g k (unmasked g) (below g.n) 0
unfolding start sum
reached_first g k =
    record { number = 0; graph_is = refl; look_is = refl; looks_are = refl; dropped = λ j l. absurd (omega arith) }

module _ {g : SignedGraph} {k : ℕ} (so : Sound g) {kept : SignedGraph} {look total : ℕ} (r : Reached g k kept look total) where
  pub reached_sound : Sound kept
  reached_sound = subst Sound (sym r.graph_is) (sound_at g k so r.number)

  same_looks : looks_at kept look ≡ looks_in g k r.number
  same_looks = ap₂ looks_at r.graph_is r.look_is

  same_fallen : fallen kept k look ≡ fallen (start g k r.number).graph k (start g k r.number).look
  same_fallen = ap₂ (λ (h : SignedGraph) (l : ℕ). fallen h k l) r.graph_is r.look_is

  -- there are at most 2,016 before it
  few : r.number < most_rounds
  few = omega (arith, fewer_at g k so r.number r.dropped, edges_most (unmasked g))

  pub reached_most : total + looks_at kept look ≤ 2017 * 2080
  reached_most =
      omega (arith, few, r.looks_are, looks_before g k r.number, looks_at_most kept look)

  -- it drops an edge
  pub reached_next : fallen kept k look ≢ 0 → Reached g k (round kept k look) (fallen kept k look) (total + looks_at kept look)
  unfolding start sum drops_nothing
  reached_next some =
      record {
        number = suc r.number;
        graph_is = ap₂ (λ (h : SignedGraph) (l : ℕ). round h k l) r.graph_is r.look_is;
        look_is = same_fallen;
        looks_are = ap₂ ◌+◌ r.looks_are same_looks;
        dropped = λ j l. go j l (ℕ_discrete j r.number);
      }
    where
      go : (j : ℕ) → j < suc r.number → Dec (j ≡ r.number) → drops_nothing g k j ≡ false
      go j l (yes e) = ap (drops_nothing g k) e ∙ ne_eqb _ 0 (λ z. some (same_fallen ∙ z))
      go j l (no e) = r.dropped j (omega arith)

  -- it drops nothing: it is the last
  module _ (none : fallen kept k look ≡ 0) where
    is_last : last_round g k ≡ r.number
    unfolding last_round drops_nothing
    is_last =
        seek_is (drops_nothing g k) most_rounds 0 r.number (omega arith) (omega (arith, few)) (eq-eqb _ 0 (sym same_fallen ∙ none))
        (λ j _ l. r.dropped j l)

    pub reached_graph : kept ≡ reduced_graph g k
    unfolding reduced_graph
    reached_graph = r.graph_is ∙ ap (λ (i : ℕ). (start g k i).graph) (sym is_last)

    pub reached_looks : total + looks_at kept look ≡ looks g k
    unfolding looks sum
    reached_looks =
        ap₂ ◌+◌ r.looks_are same_looks ∙ ap (λ (i : ℕ). sum i (looks_in g k)) (sym (add-one r.number))
        ∙ ap (λ (i : ℕ). sum (i + 1) (looks_in g k)) (sym is_last)

-- ---- the loop of the code, which counts the looks of a round before it

pub record Looking (g : SignedGraph) (k : ℕ) (kept : SignedGraph) (look total : ℕ) : Type 0 where
  pub before : ℕ
  pub reached : Reached g k kept look before
  pub adds : total ≡ before + looks_at kept look

pub looking_first : (g : SignedGraph) (k : ℕ) (kept : SignedGraph) (look total : ℕ) → kept ≡ unmasked g → look ≡ below g.n
    → total ≡ looks_at kept look → Looking g k kept look total
looking_first g k kept look total e f i =
    record { before = 0; reached = rw (e, f) (reached_first g k); adds = omega (arith, i) }

module _ {g : SignedGraph} {k : ℕ} (so : Sound g) {kept : SignedGraph} {look total : ℕ} (l : Looking g k kept look total) where
  pub looking_most : total ≤ 2017 * 2080
  looking_most = omega (arith, l.adds, reached_most so l.reached)

  pub looking_next : {next : SignedGraph} {fell : ℕ} → Follows kept k look next fell → (x : ℕ) → x ≡ looks_at next fell
      → Looking g k next fell (total + x)
  looking_next {next} {fell} f x e =
      record {
        before = total;
        reached = rw (f.graph_is, f.look_is, l.adds) (reached_next so l.reached f.drops);
        adds = ap (λ (z : ℕ). total + z) e;
      }

  pub looking_end : fallen kept k look ≡ 0 → ◌≡◌ {A = Reduced} (record { graph = kept; looks = total }) (record { graph = reduced_graph g k; looks = looks g k })
  looking_end none =
      ap₂ (λ (r : SignedGraph) (n : ℕ). record { graph = r; looks = n }) (reached_graph so l.reached none) (l.adds ∙ reached_looks so l.reached none)
