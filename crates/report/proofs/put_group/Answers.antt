-- `report::put_group` meets its contract. The left vertices, the bar, the right vertices and the newline are written one behind
-- another. Assumes nothing.
use Prim.Native.Nat.{ℕ, ◌+◌, ◌-◌, ◌≤◌}
use native.Mathlib.Omega.{arith}
use mathlib.Core.Path.{◌≡◌, sym, ap, subst}
use mathlib.Core.List.{List, [], ◌∷◌, ◌++◌}
use borrow.Rule.Slice.PartMut.{put_mid}
use lib.ListN.{length, take, drop, set, length-append}
use Rattle.vertex_set.proofs.Buffers.{
  Laid,
  laid_first,
  laid_room,
  laid_long,
  piece_room,
  laid_piece,
  laid_store,
  laid_length,
  laid_end,
}
use Rattle.report.specs.Lines.{group_line}
use Rattle.report.proofs.Words.{left_part, right_part, group_parts}
use Rattle.report.proofs.put_group.Goals as goal

module _ (l r : ℕ) (out : List ℕ) (room : length (group_line l r) ≤ length out) where
  -- what comes behind the bar
  abbrev behind : List ℕ
  behind = right_part r ++ 0x0a ∷ []

  left_room : length (left_part l) ≤ length out
  left_room = omega (arith, ap length (group_parts l r), length-append (left_part l) (0x7c ∷ behind))

  -- the buffer behind the left vertices, then behind the bar
  module _ (o : List ℕ) (k : ℕ) (e : k ≡ length (left_part l)) (is : o ≡ left_part l ++ drop (length (left_part l)) out) where
    lefts : Laid (group_line l r) out o k (0x7c ∷ behind)
    lefts =
        subst (λ (x : List ℕ). Laid x out o k (0x7c ∷ behind)) (sym (group_parts l r))
        (laid_first (left_part l) (0x7c ∷ behind) out o k (omega (arith, ap length (group_parts l r))) e is)

    barred : Laid (group_line l r) out (set o k 0x7c) (k + 1) behind
    barred = laid_store 0x7c behind lefts

    -- the buffer behind the right vertices
    rights : (last : List ℕ) (j : ℕ) → j ≡ length (right_part r)
        → last ≡ right_part r ++ drop (length (right_part r)) (take (length (set o k 0x7c) - (k + 1)) (drop (k + 1) (set o k 0x7c)))
        → Laid (group_line l r) out (put_mid (k + 1) (length (set o k 0x7c) - (k + 1)) (set o k 0x7c) last) (k + 1 + j) (0x0a ∷ [])
    rights last j f are = laid_piece (right_part r) (0x0a ∷ []) last j barred f are

pub put_members-bar-requires : goal.put_members-bar-requires
put_members-bar-requires c =
    left_room c.args.sides.left c.args.sides.right c.args.out.now c.requires

pub bounds-out-bar : goal.bounds-out-bar
bounds-out-bar c =
    let m = c.put_members-bar in
    let e = lefts c.args.sides.left c.args.sides.right c.args.out.now c.requires _ m.result m.ensures.length m.ensures.bytes in
    omega (arith, laid_room e, laid_long e)

pub overflow_add-behind : goal.overflow_add-behind
overflow_add-behind c =
    let m = c.put_members-bar in
    let e = lefts c.args.sides.left c.args.sides.right c.args.out.now c.requires _ m.result m.ensures.length m.ensures.bytes in
    omega (arith, laid_room e)

pub slice_bounds-put_members-count : goal.slice_bounds-put_members-count
slice_bounds-put_members-count c =
    let m = c.put_members-bar in
    let e = barred c.args.sides.left c.args.sides.right c.args.out.now c.requires _ m.result m.ensures.length m.ensures.bytes in
    omega (arith, laid_room e, laid_long e)

pub slice_bounds-put_members-start : goal.slice_bounds-put_members-start
slice_bounds-put_members-start c =
    let m = c.put_members-bar in
    let e = barred c.args.sides.left c.args.sides.right c.args.out.now c.requires _ m.result m.ensures.length m.ensures.bytes in
    omega (arith, laid_room e, laid_long e)

pub put_members-others-requires : goal.put_members-others-requires
put_members-others-requires c =
    let m = c.put_members-bar in
    piece_room (right_part c.args.sides.right) (0x0a ∷ [])
    (barred c.args.sides.left c.args.sides.right c.args.out.now c.requires _ m.result m.ensures.length m.ensures.bytes)

pub overflow_add-end : goal.overflow_add-end
overflow_add-end c =
    let m = c.put_members-bar in
    let n = c.put_members-others in
    let e = rights c.args.sides.left c.args.sides.right c.args.out.now c.requires _ m.result m.ensures.length m.ensures.bytes
    _ n.result n.ensures.length n.ensures.bytes in
    omega (arith, laid_room e)

pub bounds-out-end : goal.bounds-out-end
bounds-out-end c =
    let m = c.put_members-bar in
    let n = c.put_members-others in
    let e = rights c.args.sides.left c.args.sides.right c.args.out.now c.requires _ m.result m.ensures.length m.ensures.bytes
    _ n.result n.ensures.length n.ensures.bytes in
    omega (arith, laid_room e, laid_long e)

pub overflow_add-result : goal.overflow_add-result
overflow_add-result c =
    let m = c.put_members-bar in
    let n = c.put_members-others in
    let e = rights c.args.sides.left c.args.sides.right c.args.out.now c.requires _ m.result m.ensures.length m.ensures.bytes
    _ n.result n.ensures.length n.ensures.bytes in
    omega (arith, laid_room e)

pub shape_of-out : goal.shape_of-out
shape_of-out c =
    let m = c.put_members-bar in
    let n = c.put_members-others in
    let e = rights c.args.sides.left c.args.sides.right c.args.out.now c.requires _ m.result m.ensures.length m.ensures.bytes
    _ n.result n.ensures.length n.ensures.bytes in
    laid_long (laid_store 0x0a [] e)

pub returns : goal.returns
returns c =
    let m = c.put_members-bar in
    let n = c.put_members-others in
    let e = rights c.args.sides.left c.args.sides.right c.args.out.now c.requires _ m.result m.ensures.length m.ensures.bytes
    _ n.result n.ensures.length n.ensures.bytes in
    record { length = laid_length (laid_store 0x0a [] e); bytes = laid_end (laid_store 0x0a [] e) }
