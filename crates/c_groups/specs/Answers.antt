-- Answers of the calls about groups as words. Assumes nothing.
use Rattle.std.specs.Prelude.{ℕ, ◌-◌, List, [], ◌∷◌, ◌++◌, length, replicate, Result, Ok}
use Rattle.vertex_set.specs.declared.Sides.{Sides}
use Rattle.signed_graph.specs.declared.Refusal.{Refusal}
use Rattle.clique.specs.declared.Verdict.{Verdict}
use Rattle.clique.specs.Verdicts.{classified_values}

-- number and values of a verdict, with zeros behind them, four words together; four zeros where the call was refused
abbrev pub classified_words : Result Verdict Refusal → List ℕ
classified_words x =
    let values = classified_values x in values ++ replicate (4 - length values) 0

abbrev pub verdict_words : Verdict → List ℕ
verdict_words v = classified_words (Ok v)

-- the sides of the largest group
abbrev pub largest_words : Sides → List ℕ
largest_words sides = sides.left ∷ sides.right ∷ []
