-- The graph without the edges of masked vertices: it is sound, it has all other edges, and the code makes it. Assumes nothing.
use Prim.Native.Nat.{ℕ, ◌-◌, ◌^◌, ◌<◌}
use native.Mathlib.Omega.{arith}
use mathlib.Core.Path.{◌≡◌, refl, sym, ap₂, ◌∙◌}
use mathlib.Core.Bool.{Bool, not, ◌&&◌, and-true, and_comm}
use mathlib.Core.List.{List}
use lib.ListN.{get_or}
use Rattle.vertex_set.specs.Sets.{mem}
use Rattle.vertex_set.proofs.Booleans.{and_left}
use Rattle.vertex_set.proofs.Membership.{mem_none, mem_lt, mem_not, lt_of_members}
use Rattle.bit_matrix.specs.Matrices.{table_of}
use Rattle.bit_matrix.proofs.Matrices.{table_length, table_has, table_is, table_cong}
use Rattle.signed_graph.specs.declared.SignedGraph.{SignedGraph}
use Rattle.signed_graph.specs.Graphs.{vertices, with_tables}
use Rattle.signed_graph.proofs.Soundness.{Table, partner_below, Sound}
use Rattle.reduction.specs.Collections.{all_edges, unmasked_ends, unmasked_edges, Undirected, Inside}
use Rattle.reduction.specs.Reductions.{unmasked}
use Rattle.reduction.specs.RoundTables.{able_table}
use Rattle.reduction.proofs.Collections.{subgraph_sound}

pub unmasked_inside : (g : SignedGraph) → Inside (unmasked_edges g) (all_edges g)
unmasked_inside g = record { positive = λ p q. and_left _ _; negative = λ p q. and_left _ _ }

-- it keeps n and the masking
pub unmasked_vertices : (g : SignedGraph) → vertices (unmasked g) ≡ vertices g
unfolding unmasked vertices
unmasked_vertices g = refl

module _ (g : SignedGraph) (so : Sound g) where
  -- ---- a table

  -- p and q are joined in rows, and neither is masked
  abbrev joins : List ℕ → ℕ → ℕ → Bool
  joins rows p q = mem q (get_or rows p 0) && unmasked_ends g p q

  module _ {rows : List ℕ} (t : Table g.n rows) where
    has : (p q : ℕ) → mem q (get_or (table_of (joins rows)) p 0) ≡ joins rows p q
    has =
        table_has (joins rows) (λ p q e.
        let b = partner_below t p q (and_left _ _ e) in
        (omega (arith, b.0, so.small), omega (arith, b.1, so.small)))

    turned : (p q : ℕ) → joins rows p q ≡ joins rows q p
    turned p q = ap₂ ◌&&◌ (t.symmetric p q) (and_comm (not (mem p g.masked)) (not (mem q g.masked)))

    -- with none masked it is whole
    whole : g.masked ≡ 0 → table_of (joins rows) ≡ rows
    whole z =
        sym (table_is (joins rows) rows t.whole
        (λ p _. lt_of_members 64 (get_or rows p 0) (λ q m. omega (arith, so.small, mem_lt g.n q (get_or rows p 0) (t.low p) m)))
        (λ p q _ _. simp (z, mem_none, and-true)))

  -- as the code makes it
  masks_fit : g.masked < 2 ^ 64
  masks_fit = lt_of_members 64 g.masked (λ p m. omega (arith, so.small, mem_lt g.n p g.masked so.masks m))

  made : (rows : List ℕ) → able_table ((2 ^ 64 - 1) - g.masked) rows ≡ table_of (joins rows)
  unfolding able_table
  made rows = table_cong _ _ (λ p q l k. rw (mem_not 64 p g.masked l masks_fit, mem_not 64 q g.masked k masks_fit))

  -- ---- the graph

  -- its edges are those with no masked vertex
  pub unmasked_edges_law : all_edges (unmasked g) ≡ unmasked_edges g
  unfolding unmasked
  unmasked_edges_law =
      λ i. record { positive = λ p q. has so.positives p q i; negative = λ p q. has so.negatives p q i }

  pub unmasked_undirected : Undirected (all_edges (unmasked g))
  unmasked_undirected = rw unmasked_edges_law (record { positive = turned so.positives; negative = turned so.negatives })

  pub unmasked_sound : Sound (unmasked g)
  unfolding unmasked
  unmasked_sound =
      subgraph_sound g (unmasked g) so refl refl (table_length _) (table_length _) unmasked_undirected
      (rw unmasked_edges_law (unmasked_inside g))

  -- where none is masked it is the graph itself
  pub unmasked_none : g.masked ≡ 0 → unmasked g ≡ g
  unfolding unmasked
  unmasked_none z = ap₂ (with_tables g) (whole so.positives z) (whole so.negatives z)

  pub unmasked_made : (positive negative : List ℕ) → positive ≡ able_table ((2 ^ 64 - 1) - g.masked) g.positive
      → negative ≡ able_table ((2 ^ 64 - 1) - g.masked) g.negative → with_tables g positive negative ≡ unmasked g
  unfolding unmasked
  unmasked_made positive negative e f = ap₂ (with_tables g) (e ∙ made g.positive) (f ∙ made g.negative)
