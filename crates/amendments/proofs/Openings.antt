-- The checks at the opening of an amendment list, one after the other. Assumes nothing.
use Prim.Native.Nat.{ℕ, ◌≤◌, ◌<◌}
use mathlib.Core.Path.{◌≡◌}
use mathlib.Core.List.{List, []}
use lib.ListN.{length, get_or, drop}
use borrow.Author.Tests.{lt-ltb, le-ltb}
use Rattle.std.specs.Prelude.{Err}
use Rattle.commands.specs.declared.Fault.TheVariants.{TooManyVertices, Truncated}
use Rattle.amendments.specs.Decoding.{amended_from, decoded_amendments}

module _ (bytes : List ℕ) where
  pub fault_4_opening : length bytes < 2 → Err (Truncated 0) ≡ decoded_amendments bytes
  unfolding decoded_amendments
  fault_4_opening h = simp (lt-ltb _ _ h)

  module _ (long : 2 ≤ length bytes) where
    pub fault_2 : 64 < get_or bytes 1 0 → Err TooManyVertices ≡ decoded_amendments bytes
    unfolding decoded_amendments
    fault_2 h = simp (le-ltb _ _ long, lt-ltb _ _ h)

    pub opened : get_or bytes 1 0 ≤ 64 → amended_from (get_or bytes 1 0) [] 0 (drop 2 bytes) 2 ≡ decoded_amendments bytes
    unfolding decoded_amendments
    opened h = simp (le-ltb _ _ long, le-ltb _ _ h)
