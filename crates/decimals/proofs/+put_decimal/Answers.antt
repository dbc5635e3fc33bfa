-- `decimals::put_decimal` meets its contract. The last digit is stored behind those of a tenth of the number. Assumes nothing.
use Prim.Native.Nat.{ℕ, ◌+◌, ◌/◌, ◌%◌, ◌^◌, ◌≤◌, ◌<◌}
use native.Mathlib.Omega.{arith}
use mathlib.Core.Path.{◌≡◌, sym, ap, subst}
use mathlib.Core.List.{List, [], ◌∷◌, ◌++◌}
use lib.ListN.{length, drop, set, length-append}
use Rattle.vertex_set.proofs.Buffers.{
  Laid,
  laid_start,
  laid_as,
  laid_first,
  laid_room,
  laid_long,
  laid_store,
  laid_length,
  laid_end,
}
use Rattle.std.specs.Prelude.{decimal}
use Rattle.std.proofs.lemmas.Fmt.{decimal_digit, decimal_step}
use Rattle.decimals.proofs.Decimals.{length_decimal}
use Rattle.decimals.proofs.+put_decimal.Goals as goal

-- one digit is stored
module _ (n : ℕ) (out : List ℕ) (room : length (decimal n) ≤ length out) (h : n < 10) where
  one : Laid (decimal n) out (set out 0 (48 + n)) 1 []
  one = laid_store (48 + n) [] (laid_as (decimal_digit n h) (laid_start (decimal n) out room))

-- the last digit is stored behind the others
module _ (n : ℕ) (out : List ℕ) (room : length (decimal n) ≤ length out) (l : 10 ≤ n) (h : n < 2 ^ 64) where
  others_room : length (decimal (n / 10)) ≤ length out
  others_room =
      omega (arith, ap length (decimal_step n l h), length-append (decimal (n / 10)) ((48 + n % 10) ∷ []))

  others : (last : List ℕ) (k : ℕ) → k ≡ length (decimal (n / 10)) → last ≡ decimal (n / 10) ++ drop (length (decimal (n / 10))) out
      → Laid (decimal n) out last k ((48 + n % 10) ∷ [])
  others last k e is =
      subst (λ (x : List ℕ). Laid x out last k ((48 + n % 10) ∷ [])) (sym (decimal_step n l h))
      (laid_first (decimal (n / 10)) ((48 + n % 10) ∷ []) out last k (omega (arith, ap length (decimal_step n l h))) e is)

pub bounds-out-0 : goal.bounds-out-0
bounds-out-0 t c = omega (arith, ap length (decimal_digit c.args.n c.if-n-lt10.true))

pub returns-then-n-lt10-clause-length : goal.returns-then-n-lt10-clause-length
returns-then-n-lt10-clause-length t c = laid_length (one c.args.n c.args.out.now c.requires c.if-n-lt10.true)

pub returns-then-n-lt10-clause-bytes : goal.returns-then-n-lt10-clause-bytes
returns-then-n-lt10-clause-bytes t c = laid_end (one c.args.n c.args.out.now c.requires c.if-n-lt10.true)

pub put_decimal-last-requires : goal.put_decimal-last-requires
put_decimal-last-requires t c =
    (omega arith, others_room c.args.n c.args.out.now c.requires c.if-n-lt10.false c.ranges.n.fits)

-- all digits but the last are written
before_last : (t : ℕ) (c : goal.After-slice_known-2-1 t)
    → Laid (decimal c.args.n) c.args.out.now c.put_decimal-last.new.out c.put_decimal-last.result ((48 + c.args.n % 10) ∷ [])
before_last t c =
    others c.args.n c.args.out.now c.requires c.if-n-lt10.false c.ranges.n.fits _ _
    c.put_decimal-last.ensures.length c.put_decimal-last.ensures.bytes

pub bounds-out-last : goal.bounds-out-last
bounds-out-last t c = omega (arith, laid_room (before_last t c), laid_long (before_last t c))

pub overflow_add-result : goal.overflow_add-result
overflow_add-result t c = omega (arith, length_decimal (c.args.n / 10), c.put_decimal-last.ensures.length)

pub returns-clause-length : goal.returns-clause-length
returns-clause-length t c = laid_length (laid_store _ _ (before_last t c))

pub returns-clause-bytes : goal.returns-clause-bytes
returns-clause-bytes t c = laid_end (laid_store _ _ (before_last t c))
