-- Digits are UTF-8, and so are numbers and the members of a set between texts. Assumes nothing.
use Rattle.std.specs.Prelude.{if◌then◌else◌, ◌==◌, nat_lt, Result, Ok, Err, IsOk, MatchResult}
use Rattle.std.specs.Fmt.{digit_glyph, digits_onto, digits, decimal}
use Rattle.std.specs.Str.{IsAscii, IsUtf8}
use Rattle.std.proofs.Common.{ℕ, zero, suc, ◌+◌, ◌/◌, ◌%◌, ◌<◌, Bool, true, false, List, [], ◌∷◌, refl, arith}
use Rattle.std.proofs.lemmas.Str.{IsUtf8-nil, IsUtf8-append, IsUtf8-from_ascii}
use Rattle.vertex_set.specs.Ranges.{gather}
use Rattle.vertex_set.specs.Sets.{mem, over_members}
use Rattle.decimals.specs.Decimals.{between, members_between}

ascii_byte : (c : ℕ) → c < 128 → IsAscii (c ∷ [])
ascii_byte c h zero = h
ascii_byte c h (suc i) = omega arith

text_byte : (c : ℕ) → c < 128 → IsUtf8 (c ∷ [])
text_byte c h = IsUtf8-from_ascii (c ∷ []) (ascii_byte c h)

text_glyph : (d : ℕ) → d < 10 → IsUtf8 (digit_glyph false d ∷ [])
text_glyph d h = by (nat_lt d 10)
  where
    by : (b : Bool) → IsUtf8 ((if b then 48 + d else 87 + d) ∷ [])
    by true = text_byte (48 + d) (omega arith)
    by false = text_byte (87 + d) (omega arith)

text_onto : (k n : ℕ) (acc : List ℕ) → IsUtf8 acc → IsUtf8 (digits_onto k 10 false n acc)
text_onto zero n acc u = u
text_onto (suc k) n acc u =
    let next = IsUtf8-append _ _ (text_glyph (n % 10) (omega arith)) u in
    by (n / 10 == 0) next (text_onto k (n / 10) (digit_glyph false (n % 10) ∷ acc) next)
  where
    by : (b : Bool) → IsUtf8 (digit_glyph false (n % 10) ∷ acc) → IsUtf8 (digits_onto k 10 false (n / 10) (digit_glyph false (n % 10) ∷ acc))
        → IsUtf8 (if b then digit_glyph false (n % 10) ∷ acc else digits_onto k 10 false (n / 10) (digit_glyph false (n % 10) ∷ acc))
    by true one more = one
    by false one more = more

text_decimal : (n : ℕ) → IsUtf8 (decimal n)
unfolding digits
text_decimal n = text_onto 64 n [] IsUtf8-nil

module _ (before after : List ℕ) (b : IsUtf8 before) (a : IsUtf8 after) where
  pub text_between : (n : ℕ) → IsUtf8 (between before after n)
  text_between n = IsUtf8-append _ _ b (IsUtf8-append _ _ (text_decimal n) a)

  text_gathered : (s d i : ℕ) → IsUtf8 (gather d i (λ p. elim (mem p s) [ true ↦ between before after p | false ↦ [] ]))
  unfolding gather
  text_gathered s zero i = IsUtf8-nil
  text_gathered s (suc d) i = IsUtf8-append _ _ (by (mem i s)) (text_gathered s d (suc i))
    where
      by : (m : Bool) → IsUtf8 (elim m [ true ↦ between before after i | false ↦ [] ])
      by true = text_between i
      by false = IsUtf8-nil

  pub text_members : (s : ℕ) → IsUtf8 (members_between before after s)
  unfolding over_members
  text_members s = text_gathered s 64 0

-- an answer that would be an error only where something false held is none
pub no_error : {T E : Type 0} (r : Result T E) (P : T → Type 0) (Q : E → Type 0) → MatchResult r P Q → ((e : E) → Q e → ⊥) → IsOk r
no_error (Ok x) P Q m h = refl
no_error (Err e) P Q m h = absurd (h e m)
