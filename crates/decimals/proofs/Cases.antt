-- Numbers at the ends of their range, byte for byte, which compute. Assumes nothing.
use mathlib.Core.Path.{◌≡◌, refl}
use mathlib.Core.List.{[], ◌∷◌}
use Rattle.std.specs.Fmt.{digits, decimal}

pub record Numbers : Type 0 where
  -- `0`, `9`, `10`, `63`, and the largest number of 64 bits, `18446744073709551615`
  pub number_0 : decimal 0 ≡ 0x30 ∷ []
  pub number_9 : decimal 9 ≡ 0x39 ∷ []
  pub number_10 : decimal 10 ≡ 0x31 ∷ 0x30 ∷ []
  pub number_63 : decimal 63 ≡ 0x36 ∷ 0x33 ∷ []
  pub number_most : decimal 0xffff_ffff_ffff_ffff
      ≡ 0x31 ∷ 0x38 ∷ 0x34 ∷ 0x34 ∷ 0x36 ∷ 0x37 ∷ 0x34 ∷ 0x34 ∷ 0x30 ∷ 0x37 ∷ 0x33 ∷ 0x37
      ∷ 0x30 ∷ 0x39 ∷ 0x35 ∷ 0x35 ∷ 0x31 ∷ 0x36 ∷ 0x31 ∷ 0x35 ∷ []

pub cases_numbers : Numbers
unfolding digits
cases_numbers = record { number_0 = refl; number_9 = refl; number_10 = refl; number_63 = refl; number_most = refl }
