-- `report::put_fault` meets its contract. The place is written behind the number. Assumes nothing.
use Rattle.std.proofs.Common.{◌≡◌, ℕ, ◌≤◌, List, [], ◌∷◌, ◌++◌, length, drop, ap, arith, length-append}
use Rattle.vertex_set.proofs.Buffers.{Laid, piece_room, laid_piece, laid_length, laid_end}
use Rattle.decimals.specs.Decimals.{between}
use Rattle.report.specs.Lines.{refused_word, at_word, fault_line}
use Rattle.report.proofs.Words.{fault_parts}
use Rattle.report.proofs.Pieces.{first_laid}
use Rattle.report.proofs.put_fault.Goals as goal

abbrev number_part : ℕ → List ℕ
number_part n = between (refused_word ++ 0x20 ∷ []) (0x20 ∷ (at_word ++ 0x20 ∷ [])) n

abbrev place_part : ℕ → List ℕ
place_part place = between [] (0x0a ∷ []) place

numbered : (n place : ℕ) (out o : List ℕ) (k : ℕ) → length (fault_line n place) ≤ length out → k ≡ length (number_part n)
    → o ≡ number_part n ++ drop (length (number_part n)) out → Laid (fault_line n place) out o k (place_part place ++ [])
numbered n place out o k room e is = first_laid (number_part n) (place_part place) _ out o k (fault_parts n place) room e is

pub put_number-middle-requires : goal.put_number-middle-requires
put_number-middle-requires c =
    let a = c.args in
    omega (arith, c.requires, ap length (fault_parts a.number a.place), length-append (number_part a.number) (place_part a.place))

pub put_number-rest-requires : goal.put_number-rest-requires
put_number-rest-requires c =
    let a = c.args in
    let m = c.put_number-middle in
    piece_room (place_part a.place) [] (numbered a.number a.place a.out.now _ m.result c.requires m.ensures.length m.ensures.bytes)

pub returns : goal.returns
returns c =
    let a = c.args in
    let m = c.put_number-middle in
    let r = c.put_number-rest in
    let e = laid_piece (place_part a.place) [] _ r.result
    (numbered a.number a.place a.out.now _ m.result c.requires m.ensures.length m.ensures.bytes)
    r.ensures.length r.ensures.bytes in
    record { length = laid_length e; bytes = laid_end e }
