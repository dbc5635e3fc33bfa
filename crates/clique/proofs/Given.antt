-- Answers that may not apply, as the code has them. Assumes nothing.
use mathlib.Core.Path.{◌≡◌, refl, ap}
use mathlib.Core.Bool.{Bool, true, false}
use Rattle.std.proofs.Math.Option as M
use Rattle.std.specs.Prelude.{Some, None}
use Rattle.vertex_set.specs.Alternatives.{provided, ◌or_else◌}
use Rattle.clique.specs.Stages.{given}

module _ {A : Type 0} where
  pub given_where : (b : Bool) (v : A) → b ≡ true → given (provided b v) ≡ Some v
  given_where b v e = ap (λ (x : Bool). given (provided x v)) e

  pub given_not : (b : Bool) (v : A) → b ≡ false → given (provided b v) ≡ None
  given_not b v e = ap (λ (x : Bool). given (provided x v)) e

  pub not_given : (b : Bool) (v : A) → given (provided b v) ≡ None → b ≡ false
  not_given true v e = cc
  not_given false v e = refl

  -- the first answer where it applies, else the second
  pub given_first : (x : M.Option A) (v w : A) → given x ≡ Some v → (x or_else w) ≡ v
  given_first (M.some a) v w e = cc
  given_first M.none v w e = cc

  pub given_second : (x : M.Option A) (w : A) → given x ≡ None → (x or_else w) ≡ w
  given_second (M.some a) w e = cc
  given_second M.none w e = refl
