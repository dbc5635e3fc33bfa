-- The candidates that a vertex does not fit beside. Assumes nothing.
use Prim.Native.Nat.{ℕ, ◌-◌, ◌^◌, ◌<◌}
use mathlib.Core.Path.{◌≡◌, ap, ◌∙◌}
use mathlib.Core.Bool.{true, false, not}
use lib.Bits.{bit_and, bit_or}
use Rattle.vertex_set.specs.Sets.{mem}
use Rattle.vertex_set.proofs.Booleans.{clash, refute, cases, and_intro}
use Rattle.vertex_set.proofs.Membership.{mem_minus, union_left, union_right}
use Rattle.nodes.specs.Nodes.{Conflicts}

-- those that are no partners
module _ (near far positive negative : ℕ) (near_64 : near < 2 ^ 64) (far-64 : far < 2 ^ 64) (positive-64 : positive < 2 ^ 64)
    (negative-64 : negative < 2 ^ 64) where
  abbrev minus : ℕ → ℕ → ℕ
  minus a b = bit_and a (2 ^ 64 - 1 - b)

  partner : (w a b : ℕ) → a < 2 ^ 64 → b < 2 ^ 64 → mem w a ≡ true → mem w (minus a b) ≡ false → mem w b ≡ true
  partner w a b ha hb m off =
      cases (mem w b ≡ true) (mem w b) (λ e. e) (λ e.
      clash (mem w (minus a b)) (mem_minus 64 w a b ha hb ∙ and_intro (mem w a) (not (mem w b)) m (ap not e)) off)

  pub conflicts_are : Conflicts near far positive negative (bit_or (minus near positive) (minus far negative))
  conflicts_are =
      record {
        same = λ w m off. partner w near positive near_64 positive-64 m
            (refute (mem w (minus near positive)) (λ i.
            clash (mem w all) (union_left w (minus near positive) (minus far negative) i) off));
        cross = λ w m off. partner w far negative far-64 negative-64 m
            (refute (mem w (minus far negative)) (λ i.
            clash (mem w all) (union_right w (minus near positive) (minus far negative) i) off));
      }
    where
      all : ℕ
      all = bit_or (minus near positive) (minus far negative)
