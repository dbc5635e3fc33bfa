-- Tables of 64 rows of 64 columns, each row a set of vertices. Assumes nothing.
use Rattle.std.specs.Prelude.{ℕ, Bool, List, [], ◌∷◌, get_or}
use Rattle.vertex_set.specs.Ranges.{gather}
use Rattle.vertex_set.specs.Sets.{mem, collect}

-- the table that joins p and q where the test f passes: row p is the set of those q
unfoldable pub table_of : (ℕ → ℕ → Bool) → List ℕ
table_of f = gather 64 0 (λ p. collect 64 (f p) ∷ [])

-- vertex q is in row p where p was in row q
unfoldable pub transposed : List ℕ → List ℕ
transposed rows = table_of (λ p q. mem p (get_or rows q 0))
