-- Numbers in decimal, as bytes, and numbers and the members of a set between texts. Assumes nothing.
use Rattle.std.specs.Prelude.{ℕ, List, ◌++◌, decimal}
use Rattle.vertex_set.specs.Sets.{over_members}

-- a number between two texts
abbrev pub between : List ℕ → List ℕ → ℕ → List ℕ
between before after n = before ++ (decimal n ++ after)

-- the members of a set, ascending, each between two texts
abbrev pub members_between : List ℕ → List ℕ → ℕ → List ℕ
members_between before after s = over_members s (between before after)
