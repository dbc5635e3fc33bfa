-- The lowest vertex, the first two and the first three of which something holds are those that a search by tests finds. Assumes nothing.
use Prim.Native.Nat.{ℕ, suc, ◌+◌, ◌-◌, ◌≤◌, ◌<◌}
use native.Mathlib.Omega.{arith}
use native.Mathlib.Decide.{dec_lt}
use mathlib.Core.Path.{◌≡◌, refl, subst}
use mathlib.Core.Logic.{inl, inr, ⊎_elim}
use mathlib.Core.Bool.{Bool, true}
use lib.Dec.{ltb}
use borrow.Author.Tests.{ltb-true}
use Rattle.vertex_set.specs.Ranges.{seek}
use Rattle.vertex_set.proofs.Booleans.{clash, refute, cases}
use Rattle.vertex_set.proofs.Ranges.{Found, found, seek_is, seek_none}
use Rattle.clique.specs.Verdicts.{Lowest, FirstPair, FirstTriple, above}

-- P holds of numbers from i to n - 1 alone, and f tests it there
pub record Tests (P : ℕ → Type 0) (i n : ℕ) (f : ℕ → Bool) : Type 0 where
  pub range : (p : ℕ) → P p → (i ≤ p) × (p < n)
  pub holds : (p : ℕ) → i ≤ p → p < n → f p ≡ true → P p
  pub passes : (p : ℕ) → P p → f p ≡ true

-- ---- the lowest vertex

module _ {P : ℕ → Type 0} {i n : ℕ} {f : ℕ → Bool} (t : Tests P i n f) (d : ℕ) (e : i + d ≡ n) where
  pub found_lowest : ltb (seek d i f) n ≡ true → Lowest P (seek d i f)
  found_lowest h =
      let r : Found f d i (seek d i f) = found f d i in
      let l : seek d i f < n = ltb-true (seek d i f) n h in
      record { holds = t.holds (seek d i f) r.low l (r.hit (omega arith)); lowest = λ q x. least q x (dec_lt q (seek d i f)) }
    where
      least : (q : ℕ) → P q → Dec (q < seek d i f) → seek d i f ≤ q
      least q x (yes l) = clash (f q) (t.passes q x) ((found f d i).miss q (t.range q x).0 l)
      least q x (no l) = omega arith

  some_found : (p : ℕ) → P p → ltb (seek d i f) n ≡ true
  some_found p x =
      cases (ltb (seek d i f) n ≡ true) (ltb (seek d i f) n) (λ h. h)
      (λ h. clash (f p) (t.passes p x) (seek_none f d i n e h p (t.range p x).0 (t.range p x).1))

  pub lowest_found : (p : ℕ) → Lowest P p → (ltb (seek d i f) n ≡ true) × (seek d i f ≡ p)
  lowest_found p h =
      let b : (i ≤ p) × (p < n) = t.range p h.holds in (
        some_found p h.holds,
        seek_is f d i p b.0 (omega arith) (t.passes p h.holds) (λ m x y.
            refute (f m) (λ z. let l : p ≤ m = h.lowest m (t.holds m x (omega arith) z) in omega arith)),
      )

-- ---- the first two: the lowest that has a second, and the lowest second

module _ {P : ℕ → ℕ → Type 0} {p q : ℕ} where
  lowest_pair : Lowest (λ p. (q : ℕ) × P p q) p → Lowest (P p) q → FirstPair P p q
  lowest_pair a b =
      record {
        holds = b.holds;
        first = λ x y h.
            ⊎_elim (λ l. absurd (let k : p ≤ x = a.lowest x (y, h) in omega arith))
            (λ l. absurd (let k : q ≤ y = b.lowest y (subst (λ (z : ℕ). P z y) l.0 h) in omega arith));
      }

  pair_lowest : FirstPair P p q → Lowest (λ p. (q : ℕ) × P p q) p × Lowest (P p) q
  pair_lowest h = (
    record { holds = (q, h.holds); lowest = λ x y. least x y (dec_lt x p) },
    record { holds = h.holds; lowest = λ x y. second x y (dec_lt x q) },
  )
    where
      least : (x : ℕ) → ((y : ℕ) × P x y) → Dec (x < p) → p ≤ x
      least x y (yes l) = absurd (h.first x y.0 y.1 (inl l))
      least x y (no l) = omega arith

      second : (x : ℕ) → P p x → Dec (x < q) → q ≤ x
      second x y (yes l) = absurd (h.first p x y (inr (refl, l)))
      second x y (no l) = omega arith

module _ {P : ℕ → ℕ → Type 0} {i n : ℕ} {f : ℕ → ℕ → Bool} (low : (p q : ℕ) → P p q → i ≤ p)
    (t : (p : ℕ) → i ≤ p → Tests (P p) (suc p) n (f p)) where
  -- whether there is a second is a test of the first
  nested : Tests (λ p. (q : ℕ) × P p q) i n (λ p. ltb (above n p (f p)) n)
  nested =
      record {
        range = λ p x. (at p x, below p x);
        holds = λ p a l h. (above n p (f p), (found_lowest (t p a) (n - suc p) (omega arith) h).holds);
        passes = λ p x. let l : p < n = below p x in some_found (t p (at p x)) (n - suc p) (omega arith) x.0 x.1;
      }
    where
      at : (p : ℕ) → ((q : ℕ) × P p q) → i ≤ p
      at p x = low p x.0 x.1

      below : (p : ℕ) → ((q : ℕ) × P p q) → p < n
      below p x = omega (arith, (t p (at p x)).range x.0 x.1)

  module _ (d : ℕ) (e : i + d ≡ n) where
    abbrev first : ℕ
    first = seek d i (λ p. ltb (above n p (f p)) n)

    pub found_pair : ltb first n ≡ true → FirstPair P first (above n first (f first))
    found_pair h =
        let a : Lowest (λ p. (q : ℕ) × P p q) first = found_lowest nested d e h in
        let b : (i ≤ first) × (first < n) = nested.range first a.holds in
        lowest_pair a (found_lowest (t first b.0) (n - suc first) (omega arith) (nested.passes first a.holds))

    pub pair_found : (p q : ℕ) → FirstPair P p q → (ltb first n ≡ true) × (first ≡ p) × (above n p (f p) ≡ q)
    pair_found p q h =
        let a = pair_lowest h in
        let b : (i ≤ p) × (p < n) = nested.range p (q, h.holds) in
        let c = lowest_found nested d e p a.0 in
        (c.0, c.1, (lowest_found (t p b.0) (n - suc p) (omega arith) q a.1).1)

-- ---- the first three: the lowest that has a pair behind it, and the first such pair

module _ {P : ℕ → ℕ → ℕ → Type 0} {p q r : ℕ} where
  lowest_triple : Lowest (λ p. (q : ℕ) × ((r : ℕ) × P p q r)) p → FirstPair (P p) q r → FirstTriple P p q r
  lowest_triple a b =
      record {
        holds = b.holds;
        first = λ x y z h.
            ⊎_elim (λ l. absurd (let k : p ≤ x = a.lowest x (y, (z, h)) in omega arith))
            (λ l. b.first y z (subst (λ (u : ℕ). P u y z) l.0 h) l.1);
      }

  triple_lowest : FirstTriple P p q r → Lowest (λ p. (q : ℕ) × ((r : ℕ) × P p q r)) p × FirstPair (P p) q r
  triple_lowest h = (
    record { holds = (q, (r, h.holds)); lowest = λ x y. least x y (dec_lt x p) },
    record { holds = h.holds; first = λ y z x l. h.first p y z x (inr (refl, l)) },
  )
    where
      least : (x : ℕ) → ((y : ℕ) × ((z : ℕ) × P x y z)) → Dec (x < p) → p ≤ x
      least x y (yes l) = absurd (h.first x y.0 y.1.0 y.1.1 (inl l))
      least x y (no l) = omega arith

module _ {P : ℕ → ℕ → ℕ → Type 0} {n : ℕ} {f : ℕ → ℕ → ℕ → Bool} (low : (p q r : ℕ) → P p q r → p < q)
    (t : (p q : ℕ) → p < q → Tests (P p q) (suc q) n (f p q)) where
  begins : Tests (λ p. (q : ℕ) × ((r : ℕ) × P p q r)) 0 n (λ p. ltb (above n p (λ q. ltb (above n q (f p q)) n)) n)
  begins = nested (λ p q x. omega arith) (λ p _. nested (low p) (t p))

  abbrev second : ℕ → ℕ
  second p = above n p (λ q. ltb (above n q (f p q)) n)

  abbrev start : ℕ
  start = seek n 0 (λ p. ltb (second p) n)

  pub found_triple : ltb start n ≡ true → FirstTriple P start (second start) (above n (second start) (f start (second start)))
  found_triple h =
      let a : Lowest (λ p. (q : ℕ) × ((r : ℕ) × P p q r)) start = found_lowest begins n (omega arith) h in
      let l : start < n = (begins.range start a.holds).1 in
      lowest_triple a (found_pair (low start) (t start) (n - suc start) (omega arith) (begins.passes start a.holds))

  pub triple_found : (p q r : ℕ) → FirstTriple P p q r
      → (ltb start n ≡ true) × (start ≡ p) × (second p ≡ q) × (above n q (f p q) ≡ r)
  triple_found p q r h =
      let a = triple_lowest h in
      let l : p < n = (begins.range p (q, (r, h.holds))).1 in
      let b = lowest_found begins n (omega arith) p a.0 in
      let c = pair_found (low p) (t p) (n - suc p) (omega arith) q r a.1 in
      (b.0, b.1, c.1, c.2)
