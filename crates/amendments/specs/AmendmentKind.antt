-- For proofs: amendment lists as a kind of list. Assumes nothing.
use Rattle.std.specs.Prelude.{ℕ, true, false, [], eqb}
use Rattle.signed_graph.specs.declared.SignedGraph.{SignedGraph}
use Rattle.signed_graph.specs.Graphs.{with_tables}
use Rattle.commands.specs.declared.Sign.{Sign}
use Rattle.commands.specs.declared.Sign.TheVariants.{Positive, Negative}
use Rattle.commands.specs.Entries.{earlier_of}
use Rattle.commands.specs.ListKinds.{Kind}
use Rattle.commands.specs.Tables.{put_edge}
use Rattle.amendments.specs.Faults.{checked_as}

-- a graph with an edge in the table of its sign alone; in neither where the byte that was checked as 21 is not that
abbrev pub amend : ℕ → Sign → ℕ → ℕ → SignedGraph → SignedGraph
amend c Positive a b g = with_tables g (put_edge (eqb c 0x21) g.positive a b) (put_edge false g.negative a b)
amend c Negative a b g = with_tables g (put_edge false g.positive a b) (put_edge true g.negative a b)

-- nothing that was given before counts
abbrev pub amendment_kind : Kind
amendment_kind = record { checked_as = checked_as; earlier = λ g. earlier_of []; with_edge = amend }
