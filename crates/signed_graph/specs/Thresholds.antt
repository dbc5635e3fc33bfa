-- Thresholds: what a call asks of the sizes of the sides of a group (document 01: k). Assumes nothing.
use Rattle.std.specs.Prelude.{ℕ}

abbrev pub Threshold : Type 0
Threshold = ℕ
