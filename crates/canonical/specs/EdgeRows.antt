-- For proofs: the edges that encoding writes for a row; `Canonical` says what they mean. Assumes nothing.
use Rattle.std.specs.Prelude.{ℕ, Bool, true, false, List, [], ◌∷◌}
use Rattle.vertex_set.specs.Sets.{mem, over_members}
use Rattle.commands.specs.declared.Sign.{Sign}
use Rattle.commands.specs.declared.Sign.TheVariants.{Positive, Negative}
use Rattle.commands.specs.Entries.{Entry, link}

-- the sign of an edge, by whether it is positive
abbrev pub sign_by : Bool → Sign
sign_by true = Positive
sign_by false = Negative

-- the edges from p to the members of s, ascending; those to members of `positive` are positive
unfoldable pub edges_to : ℕ → ℕ → ℕ → List Entry
edges_to positive s p = over_members s (λ q. link (sign_by (mem q positive)) p q ∷ [])
