-- The longest canonical form has 6,179 bytes. Assumes nothing.
use Prim.Native.Nat.{ℕ, zero, suc, ◌+◌, ◌-◌, ◌^◌, ◌≤◌}
use native.Mathlib.Omega.{arith}
use mathlib.Core.Path.{◌≡◌, refl, ap}
use mathlib.Core.Bool.{Bool, true, false}
use mathlib.Core.List.{[], ◌∷◌}
use lib.ListN.{length, length-append, replicate}
use Rattle.vertex_set.specs.Ranges as R
use Rattle.vertex_set.specs.Sets as S
use Rattle.vertex_set.proofs.SizeBounds.{size_64}
use Rattle.signed_graph.specs.declared.SignedGraph.{SignedGraph}
use Rattle.signed_graph.specs.Graphs.{positive_edge, negative_edge}
use Rattle.signed_graph.specs.Soundness.{sound, has_all_rows, loopless, symmetric, confined, unambiguous, masks_below}
use Rattle.signed_graph.proofs.EdgeCounts.{pairs_64}
use Rattle.commands.specs.Entries.{entry_bytes}
use Rattle.canonical.specs.Canonical.{edge_by, edge_between, edges_above, ordered_edges, masks_of, canonical}
use Rattle.canonical.proofs.Rows.{length_form}

-- how many pairs d vertices have
abbrev pairs : ℕ → ℕ
pairs d = R.sum d (λ q. q)

pairs_more : (k n : ℕ) → pairs n ≤ pairs (k + n)
unfolding R.sum
pairs_more zero n =
    let e : 0 + n ≡ n = omega arith in
    omega (arith, ap pairs e)
pairs_more (suc k) n =
    let e : suc k + n ≡ suc (k + n) = omega arith in
    omega (arith, pairs_more k n, ap pairs e)

module _ (g : SignedGraph) where
  between_one : (p q : ℕ) → length (edge_between g p q) ≤ 1
  between_one p q = go (positive_edge g p q) (negative_edge g p q)
    where
      go : (x y : Bool) → length (edge_by x y p q) ≤ 1
      go true y = omega arith
      go false true = omega arith
      go false false = omega arith

  row_few : (p d i : ℕ) → length (R.gather d i (edge_between g p)) ≤ d
  unfolding R.gather
  row_few p zero i = omega arith
  row_few p (suc d) i =
      omega (arith, length-append (edge_between g p i) (R.gather d (suc i) (edge_between g p)), between_one p i, row_few p d (suc i))

  rows_few : (d p : ℕ) → p + d ≡ g.n → length (R.gather d p (edges_above g)) ≤ pairs d
  unfolding R.gather R.sum
  rows_few zero p e = omega arith
  rows_few (suc d) p e =
      omega (
        arith,
        length-append (edges_above g p) (R.gather d (suc p) (edges_above g)),
        row_few p (g.n - suc p) (suc p),
        rows_few d (suc p) (omega arith),
      )

  most_edges : g.n ≤ 64 → length (ordered_edges g) ≤ 2016
  unfolding ordered_edges
  most_edges h =
      let e : (64 - g.n) + g.n ≡ 64 = omega arith in
      omega (arith, rows_few g.n 0 (omega arith), pairs_more (64 - g.n) g.n, ap pairs e, pairs_64)

  pub longest : g.n ≤ 64 → length (canonical g) ≤ 6179
  longest h = omega (arith, length_form g, most_edges h, size_64 g.masked)

-- all edges between 64 vertices, and all vertices masked
complete : SignedGraph
complete =
    record { n = 64; positive = R.gather 64 0 (λ p. (2 ^ 64 - 1 - 2 ^ p) ∷ []); negative = replicate 64 0; masked = 2 ^ 64 - 1 }

pub longest_reached : (g : SignedGraph) × (sound g ≡ true) × (length (canonical g) ≡ 6179)
unfolding complete sound has_all_rows loopless symmetric confined unambiguous masks_below ordered_edges masks_of entry_bytes R.gather R.all S.mem S.over_members
longest_reached = (complete, refl, refl)
