-- A graph as words of an array: n, then the 64 positive rows, then the 64 negative ones, then the masked set. Assumes nothing.
use Rattle.std.specs.Prelude.{ℕ, List, [], ◌∷◌, ◌++◌, get_or, take, drop}
use Rattle.signed_graph.specs.declared.SignedGraph.{SignedGraph}

-- where the rows of either sign begin, and where the masked set is
abbrev pub first_positive : ℕ
first_positive = 1

abbrev pub first_negative : ℕ
first_negative = 65

abbrev pub masked_at : ℕ
masked_at = 129

-- how many words a graph has
abbrev pub graph_words : ℕ
graph_words = 130

-- the words of a graph
abbrev pub words_of : SignedGraph → List ℕ
words_of g = g.n ∷ (g.positive ++ (g.negative ++ g.masked ∷ []))

-- the graph at the front of an array
unfoldable pub graph_at : List ℕ → SignedGraph
graph_at words =
    record {
      n = get_or words 0 0;
      positive = take 64 (drop first_positive words);
      negative = take 64 (drop first_negative words);
      masked = get_or words masked_at 0;
    }
