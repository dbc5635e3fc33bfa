-- A list copied into a buffer element by element. Assumes nothing.
use Prim.Native.Nat.{ℕ, ◌+◌, ◌≤◌, ◌<◌}
use native.Mathlib.Omega.{arith}
use mathlib.Core.Path.{◌≡◌}
use mathlib.Core.List.{List}
use lib.ListN.{length, get_or, drop, set, length-drop, drop_of_length-le}
use Rattle.vertex_set.specs.Buffers.{overwritten}
use Rattle.vertex_set.proofs.Buffers.{Laid, laid_start, laid_as, laid_room, laid_long, laid_store, laid_end, next_left}

module _ {A : Type 0} where
  -- in the buffer `out`, which held `before`, the elements of `list` below i stand; the others are to come
  abbrev pub Copied : List A → List A → List A → ℕ → Type 0
  Copied list before out i = Laid list before out i (drop i list)

  pub copied_none : (list out : List A) → length list ≤ length out → Copied list out out 0
  copied_none list out h = laid_start list out h

  module _ {list before out : List A} {i : ℕ} (l : Copied list before out i) where
    pub copied_long : length out ≡ length before
    copied_long = laid_long l

    pub copied_room : i < length list → i < length out
    copied_room h = omega (arith, laid_room l, laid_long l, length-drop i list)

    pub copied_next : (d : A) → i < length list → Copied list before (set out i (get_or list i d)) (i + 1)
    copied_next d h = laid_store _ _ (laid_as (next_left list i d h) l)

    pub copied_all : length list ≤ i → out ≡ overwritten list before
    copied_all h = laid_end (laid_as (drop_of_length-le list h) l)
