-- What a report's parts tell where no write failed; after one that failed they tell nothing. Assumes nothing.
use Rattle.std.specs.Prelude.{ℕ, ◌≡◌, Result, Ok, Err}
use Rattle.report.specs.declared.Line.{Line}
use Rattle.output.specs.declared.Closing.{Closing}

-- the groups were printed: they are so many
abbrev pub Counted : {E : Type 0} → ℕ → Result ℕ E → Type 0
Counted n (Ok count) = count ≡ n
Counted n (Err error) = Unit

-- what is to be printed behind them: these lines
abbrev pub DueBehind : {E : Type 0} → Result Closing Line → Result (Result Closing Line) E → Type 0
DueBehind due (Ok closing) = closing ≡ due
DueBehind due (Err error) = Unit
