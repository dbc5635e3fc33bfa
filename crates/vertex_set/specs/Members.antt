-- What a walk through the members of a set gives. Assumes nothing.
use Rattle.std.specs.Prelude.{◌≡◌, ◌<◌, ◌-◌, Option, None, Some, ℕ}
use Rattle.std.specs.Int.Bits.{bit_and}
use Rattle.vertex_set.specs.declared.traversal.Members.{Members}
use Rattle.vertex_set.specs.Sets.{lowest}

-- q is the lowest vertex of a set, and rest is the set without it
pub record TakesLowest (left q rest : ℕ) : Type 0 where
  pub some : 0 < left
  pub is_lowest : q ≡ lowest left
  pub is_vertex : q < 64
  pub is_rest : rest ≡ bit_and left (left - 1)

-- the lowest vertex that was left is given, and is left no more; none where nothing was left
abbrev pub GivesMember : Members → Option ℕ → Members → Type 0
GivesMember old None new = (old.left ≡ 0) × (new.left ≡ 0)
GivesMember old (Some q) new = TakesLowest old.left q new.left
