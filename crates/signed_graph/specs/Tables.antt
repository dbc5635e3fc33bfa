-- For proofs: graphs by their tables. Assumes nothing.
use Rattle.std.specs.Prelude.{ℕ, ◌≡◌, true, ◌&&◌, ◌||◌, List, ltb, get_or}
use Rattle.vertex_set.specs.Sets.{mem, collect}
use Rattle.signed_graph.specs.declared.SignedGraph.{SignedGraph}
use Rattle.signed_graph.specs.Graphs.{with_tables}
use Rattle.signed_graph.specs.Soundness.{sound}

-- what holds of every sound graph with these tables
abbrev pub ForSound : List ℕ → List ℕ → (SignedGraph → Type 0) → Type 0
ForSound positive negative P =
    (any : SignedGraph) → sound (with_tables any positive negative) ≡ true → P (with_tables any positive negative)

-- the partners of v in a graph; v goes in with these
abbrev pub positives : SignedGraph → ℕ → ℕ
positives g v = get_or g.positive v 0

abbrev pub negatives : SignedGraph → ℕ → ℕ
negatives g v = get_or g.negative v 0

-- the members above p of two rows
unfoldable pub members_above : ℕ → ℕ → ℕ → ℕ
members_above x y p = collect 64 (λ q. ltb p q && (mem q x || mem q y))
