-- For proofs: edge lists as a kind of list. Assumes nothing.
use Rattle.std.specs.Prelude.{ℕ, true}
use Rattle.signed_graph.specs.declared.SignedGraph.{SignedGraph}
use Rattle.signed_graph.specs.Graphs.{with_tables}
use Rattle.commands.specs.declared.Sign.{Sign}
use Rattle.commands.specs.declared.Sign.TheVariants.{Positive, Negative}
use Rattle.commands.specs.ListKinds.{Kind}
use Rattle.commands.specs.Tables.{earlier_in, put_edge}

-- a graph with an edge more in the table of its sign
abbrev pub with_edge : Sign → ℕ → ℕ → SignedGraph → SignedGraph
with_edge Positive a b g = with_tables g (put_edge true g.positive a b) g.negative
with_edge Negative a b g = with_tables g g.positive (put_edge true g.negative a b)

-- what was given before a command the graph tells
abbrev pub edge_kind : Kind
edge_kind =
    record {
      checked_as = λ c. c;
      earlier = λ g. earlier_in g.positive g.negative g.masked;
      with_edge = λ c. with_edge;
    }
