-- The refusals of a page by the interface itself: 101, 102, then 103. Assumes nothing.
use Rattle.std.specs.Prelude.{ℕ, ltb}
use Rattle.std.proofs.Math.Option.{Option}
use Rattle.vertex_set.specs.Alternatives.{provided, ◌or_else◌}
use Rattle.c_words.specs.Refusals.{short_graph, short_answer}

-- 103: the kind of a bookmark is neither 0 nor 1
abbrev pub no_bookmark : ℕ → Option ℕ
no_bookmark kind = provided (ltb 1 kind) 103

-- the refusal by the kind alone, 0 where there is none
abbrev pub kind_refusal : ℕ → ℕ
kind_refusal kind = no_bookmark kind or_else 0

-- the refusal of a page, 0 where there is none
unfoldable pub page_refusal : ℕ → ℕ → ℕ → ℕ
page_refusal graph answer kind = short_graph graph or_else short_answer answer 4 or_else no_bookmark kind or_else 0
