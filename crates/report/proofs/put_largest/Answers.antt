-- `report::put_largest` meets its contract. The line of the group is written behind the name. Assumes nothing.
use Rattle.std.proofs.Common.{◌≡◌, ℕ, ◌≤◌, List, [], ◌∷◌, ◌++◌, length, drop, refl, ap, arith}
use Rattle.vertex_set.proofs.Buffers.{Laid, piece_room, laid_piece, laid_length, laid_end}
use Rattle.report.specs.Lines.{biggest_word, group_line, largest_line}
use Rattle.report.proofs.Words.{largest_parts}
use Rattle.report.proofs.Pieces.{first_laid}
use Rattle.report.proofs.put_largest.Goals as goal

abbrev name : List ℕ
name = biggest_word ++ 0x20 ∷ []

named : (l r : ℕ) (out o : List ℕ) → length (largest_line l r) ≤ length out → o ≡ name ++ drop 8 out
    → Laid (largest_line l r) out o 8 (group_line l r ++ [])
named l r out o room is = first_laid name (group_line l r) _ out o 8 (largest_parts l r) room refl is

pub overwrite-requires : goal.overwrite-requires
overwrite-requires c = omega (arith, c.requires, ap length (largest_parts c.args.sides.left c.args.sides.right))

pub put_group-group-requires : goal.put_group-group-requires
put_group-group-requires c =
    let s = c.args.sides in
    piece_room (group_line s.left s.right) [] (named s.left s.right c.args.out.now _ c.requires c.overwrite.ensures)

pub returns : goal.returns
returns c =
    let s = c.args.sides in
    let r = c.put_group-group in
    let e = laid_piece (group_line s.left s.right) [] _ r.result (named s.left s.right c.args.out.now _ c.requires c.overwrite.ensures)
    r.ensures.length r.ensures.bytes in
    record { length = laid_length e; bytes = laid_end e }
