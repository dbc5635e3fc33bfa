-- `decimals::put_number` meets its contract. The text, the digits and the other text are written one behind another. Assumes nothing.
use Prim.Native.Nat.{ℕ, ◌+◌, ◌-◌, ◌≤◌}
use native.Mathlib.Omega.{arith}
use mathlib.Core.Path.{◌≡◌, refl, sym}
use mathlib.Core.List.{List, [], ◌++◌, append-nil}
use borrow.Rule.Slice.PartMut.{put_mid}
use lib.ListN.{length, take, drop, length-append}
use Rattle.vertex_set.proofs.Buffers.{
  Laid,
  laid_first,
  laid_as,
  laid_room,
  laid_long,
  piece_room,
  laid_piece,
  laid_length,
  laid_end,
}
use Rattle.std.specs.Prelude.{decimal}
use Rattle.decimals.proofs.put_number.Goals as goal

module _ (before : List ℕ) (n : ℕ) (after out : List ℕ) (room : length (before ++ (decimal n ++ after)) ≤ length out) where
  abbrev whole : List ℕ
  whole = before ++ (decimal n ++ after)

  -- the buffer behind the first text
  begun : (o : List ℕ) → o ≡ before ++ drop (length before) out → Laid whole out o (length before) (decimal n ++ after)
  begun o is = laid_first before (decimal n ++ after) out o (length before) room refl is

  -- the buffer behind the digits
  counted : (o : List ℕ) → o ≡ before ++ drop (length before) out → (k : ℕ) → k ≡ length (decimal n) → (last : List ℕ)
      → last ≡ decimal n ++ drop (length (decimal n)) (take (length o - length before) (drop (length before) o))
      → Laid whole out (put_mid (length before) (length o - length before) o last) (length before + k) (after ++ [])
  counted o is k e last l = laid_as (sym (append-nil after)) (laid_piece (decimal n) after last k (begun o is) e l)

pub put_short-requires : goal.put_short-requires
put_short-requires c =
    omega (arith, c.requires, length-append c.args.before.now (decimal c.args.n ++ c.args.after.now))

pub slice_bounds-put_decimal-count : goal.slice_bounds-put_decimal-count
slice_bounds-put_decimal-count c =
    let a = c.args in
    let e = begun a.before.now a.n a.after.now a.out.now c.requires _ c.put_short.ensures in
    omega (arith, laid_room e, laid_long e)

pub slice_bounds-put_decimal-start : goal.slice_bounds-put_decimal-start
slice_bounds-put_decimal-start c =
    let a = c.args in
    let e = begun a.before.now a.n a.after.now a.out.now c.requires _ c.put_short.ensures in
    omega (arith, laid_room e, laid_long e)

pub put_decimal-digits-requires : goal.put_decimal-digits-requires
put_decimal-digits-requires c =
    let a = c.args in
    piece_room (decimal a.n) a.after.now
    (begun a.before.now a.n a.after.now a.out.now c.requires _ c.put_short.ensures)

pub overflow_add-end : goal.overflow_add-end
overflow_add-end c =
    let a = c.args in
    let d = c.put_decimal-digits in
    let e = counted a.before.now a.n a.after.now a.out.now c.requires _ c.put_short.ensures
    d.result d.ensures.length _ d.ensures.bytes in
    omega (arith, laid_room e)

pub slice_bounds-put_short-count : goal.slice_bounds-put_short-count
slice_bounds-put_short-count c =
    let a = c.args in
    let d = c.put_decimal-digits in
    let e = counted a.before.now a.n a.after.now a.out.now c.requires _ c.put_short.ensures
    d.result d.ensures.length _ d.ensures.bytes in
    omega (arith, laid_room e, laid_long e)

pub slice_bounds-put_short-start : goal.slice_bounds-put_short-start
slice_bounds-put_short-start c =
    let a = c.args in
    let d = c.put_decimal-digits in
    let e = counted a.before.now a.n a.after.now a.out.now c.requires _ c.put_short.ensures
    d.result d.ensures.length _ d.ensures.bytes in
    omega (arith, laid_room e, laid_long e)

pub put_short-requires-2 : goal.put_short-requires-2
put_short-requires-2 c =
    let a = c.args in
    let d = c.put_decimal-digits in
    let e = counted a.before.now a.n a.after.now a.out.now c.requires _ c.put_short.ensures
    d.result d.ensures.length _ d.ensures.bytes in
    piece_room a.after.now [] e

pub overflow_add-result : goal.overflow_add-result
overflow_add-result c =
    let a = c.args in
    omega (
      arith,
      c.requires,
      c.put_decimal-digits.ensures.length,
      length-append a.before.now (decimal a.n ++ a.after.now),
      length-append (decimal a.n) a.after.now,
    )

pub returns : goal.returns
returns c =
    let a = c.args in
    let d = c.put_decimal-digits in
    let e = counted a.before.now a.n a.after.now a.out.now c.requires _ c.put_short.ensures
    d.result d.ensures.length _ d.ensures.bytes in
    let f = laid_piece a.after.now [] _ _ e refl c.put_short-2.ensures in
    record { length = laid_length f; bytes = laid_end f }
