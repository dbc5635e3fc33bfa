-- Each line is UTF-8. Assumes nothing.
use Rattle.std.specs.Str.{IsUtf8}
use Rattle.std.proofs.Common.{ℕ, List, [], ◌∷◌, ◌++◌, refl, sym, subst}
use Rattle.std.specs.Fmt.{decimal}
use Rattle.std.proofs.Math.Utf8.{encode}
use Rattle.std.proofs.lemmas.Str.{IsUtf8-nil, IsUtf8-append}
use Rattle.signed_graph.specs.Calls.{refusal_of}
use Rattle.commands.specs.Faults.{fault_number, fault_place}
use Rattle.decimals.proofs.Texts.{text_between, text_members}
use Rattle.report.specs.declared.Line.{Line}
use Rattle.report.specs.declared.Line.TheVariants.{Group, Largest, NoLargest, Count, Refusal, Fault, RefusalNumber, FaultNumber}
use Rattle.report.specs.Lines.{preceded, spaced, line_of, biggest_word, groups_word, refused_word, at_word, group_line, none_line, count_line, refusal_line, fault_line, line_text}
use Rattle.report.proofs.Words.{left_part, right_part, group_parts, largest_parts, number_parts, fault_parts}

space : IsUtf8 (0x20 ∷ [])
unfolding encode
space = (0x20 ∷ [], (refl, refl))

newline : IsUtf8 (0x0a ∷ [])
unfolding encode
newline = (0x0a ∷ [], (refl, refl))

text_group : (l r : ℕ) → IsUtf8 (group_line l r)
unfolding encode
text_group l r =
    subst IsUtf8 (sym (group_parts l r))
    (IsUtf8-append (left_part l) _ (text_members [] (0x20 ∷ []) IsUtf8-nil space l)
    (IsUtf8-append (0x7c ∷ []) _ (0x7c ∷ [], (refl, refl))
    (IsUtf8-append (right_part r) (0x0a ∷ []) (text_members (0x20 ∷ []) [] space IsUtf8-nil r) newline)))

text_number : (name : List ℕ) (n : ℕ) → IsUtf8 (name ++ 0x20 ∷ []) → IsUtf8 (line_of (name ∷ decimal n ∷ []))
text_number name n u = subst IsUtf8 (sym (number_parts name n)) (text_between (name ++ 0x20 ∷ []) (0x0a ∷ []) u newline n)

refused : IsUtf8 (refused_word ++ 0x20 ∷ [])
unfolding encode
refused = (refused_word ++ 0x20 ∷ [], (refl, refl))

text_fault : (n place : ℕ) → IsUtf8 (fault_line n place)
unfolding encode
text_fault n place =
    let at : List ℕ = 0x20 ∷ (at_word ++ 0x20 ∷ []) in
    subst IsUtf8 (sym (fault_parts n place))
    (IsUtf8-append _ _ (text_between (refused_word ++ 0x20 ∷ []) at refused (at, (refl, refl)) n) (text_between [] (0x0a ∷ []) IsUtf8-nil newline place))

pub text_line : (x : Line) → IsUtf8 (line_text x)
unfolding encode none_line line_of spaced preceded count_line refusal_line
text_line (Group sides) = text_group sides.left sides.right
text_line (Largest sides) =
    let name : List ℕ = biggest_word ++ 0x20 ∷ [] in
    subst IsUtf8 (sym (largest_parts sides.left sides.right)) (IsUtf8-append name _ (name, (refl, refl)) (text_group sides.left sides.right))
text_line NoLargest = (none_line, (refl, refl))
text_line (Count n) = text_number groups_word n (groups_word ++ 0x20 ∷ [], (refl, refl))
text_line (Refusal why) = text_number refused_word (refusal_of why) refused
text_line (Fault f) = text_fault (fault_number f) (fault_place f)
text_line (RefusalNumber n) = text_number refused_word n refused
text_line (FaultNumber n place) = text_fault n place
