-- Rows that lose what joins one vertex and the members of a set, one member after another. Assumes nothing.
use Prim.Native.Nat.{ℕ, ◌-◌, ◌^◌, ◌≤◌, ◌<◌}
use native.Mathlib.Omega.{arith}
use native.Mathlib.Decide.{ℕ_discrete}
use mathlib.Core.Path.{◌≡◌, refl, sym, ap, ap₂, ◌∙◌, subst}
use mathlib.Core.Bool.{Bool, true, false, not, ◌&&◌, ◌||◌, and-true}
use mathlib.Core.List.{List}
use lib.Dec.{eqb}
use lib.Bits.{bit_and, and_le_l}
use lib.ListN.{length, get_or, set, length-set}
use lib.Seq.{get_or-set_same, get_or-set_other}
use borrow.Author.Tests.{eqb-true, eq-eqb, ne_eqb}
use Rattle.vertex_set.specs.Sets.{mem, single}
use Rattle.vertex_set.specs.Members.{TakesLowest}
use Rattle.vertex_set.proofs.Booleans.{and_left}
use Rattle.vertex_set.proofs.Membership.{mem_none, mem_and, mem_not}
use Rattle.vertex_set.proofs.Collections.{collect_lt, mem_single}
use Rattle.vertex_set.proofs.LowestVertex.{rest_lt, mem_rest, lowest_in}
use Rattle.reduction.specs.RoundTables.{Parted}

-- ---- one row

pub minus : (b a x : ℕ) → b < 64 → x < 2 ^ 64 → mem b (bit_and a ((2 ^ 64 - 1) - x)) ≡ (mem b a && not (mem b x))
minus b a x l h = mem_and b a ((2 ^ 64 - 1) - x) ∙ ap (λ (t : Bool). mem b a && t) (mem_not 64 b x l h)

-- the rows with the row q replaced by what it has outside x
module _ (rows : List ℕ) (q x : ℕ) (long : length rows ≡ 64) (l : q < 64) where
  abbrev row : ℕ
  row = bit_and (get_or rows q 0) ((2 ^ 64 - 1) - x)

  at_row : get_or (set rows q row) q 0 ≡ row
  at_row = get_or-set_same rows q row 0 (subst (λ (z : ℕ). q < z) (sym long) l)

  replaced_less : (a : ℕ) → get_or (set rows q row) a 0 ≤ get_or rows a 0
  replaced_less a = go (ℕ_discrete a q)
    where
      go : Dec (a ≡ q) → get_or (set rows q row) a 0 ≤ get_or rows a 0
      go (yes e) =
          subst (λ (z : ℕ). get_or (set rows q row) z 0 ≤ get_or rows z 0) (sym e)
          (subst (λ (z : ℕ). z ≤ get_or rows q 0) (sym at_row) (and_le_l (get_or rows q 0) ((2 ^ 64 - 1) - x)))
      go (no e) = omega (arith, get_or-set_other rows q a row 0 e)

  replaced_has : x < 2 ^ 64 → (a b : ℕ) → b < 64
      → mem b (get_or (set rows q row) a 0) ≡ (mem b (get_or rows a 0) && not (eqb a q && mem b x))
  replaced_has h a b k = go (ℕ_discrete a q)
    where
      kept : (t u e : Bool) → e ≡ false → t ≡ (t && not (e && u))
      kept true u e z = sym (ap (λ (s : Bool). not (s && u)) z)
      kept false u e z = refl

      go : Dec (a ≡ q) → mem b (get_or (set rows q row) a 0) ≡ (mem b (get_or rows a 0) && not (eqb a q && mem b x))
      go (yes e) =
          ap (λ (z : ℕ). mem b (get_or (set rows q row) z 0)) e ∙ ap (mem b) at_row ∙ minus b (get_or rows q 0) x k h
          ∙ sym (ap₂ (λ (z : ℕ) (t : Bool). mem b (get_or rows z 0) && not (t && mem b x)) e (eq-eqb a q e))
      go (no e) = ap (mem b) (get_or-set_other rows q a row 0 e) ∙ kept (mem b (get_or rows a 0)) (mem b x) (eqb a q) (ne_eqb a q e)

-- ---- the loop over the members of out

-- the rows of those members that are not left lost p
pub record Parting (before : List ℕ) (p out left : ℕ) (rows : List ℕ) : Type 0 where
  pub fits : left < 2 ^ 64
  pub sub : (a : ℕ) → mem a left ≡ true → mem a out ≡ true
  pub long : length rows ≡ 64
  pub less : (a : ℕ) → get_or rows a 0 ≤ get_or before a 0
  pub has : (a b : ℕ) → b < 64 → mem b (get_or rows a 0) ≡ (mem b (get_or before a 0) && not (eqb b p && (mem a out && not (mem a left))))

module _ {before rows : List ℕ} {p out left : ℕ} (d : Parting before p out left rows) where
  module _ {q after : ℕ} (t : TakesLowest left q after) (one : ℕ) (i : one ≡ single p) where
    one_fits : one < 2 ^ 64
    unfolding single
    one_fits = subst (λ (z : ℕ). z < 2 ^ 64) (sym i) (collect_lt (λ q. eqb q p) 64)

    fewer : (a : ℕ) → mem a after ≡ (mem a left && not (eqb a q))
    fewer a = ap (mem a) t.is_rest ∙ mem_rest left t.some d.fits a ∙ ap (λ (z : ℕ). mem a left && not (eqb a z)) (sym t.is_lowest)

    -- q is left, and so it is a member of out
    here : (a : ℕ) → eqb a q ≡ true → (mem a out ≡ true) × (mem a left ≡ true)
    here a same =
        let m : mem a left ≡ true = ap (λ (z : ℕ). mem z left) (eqb-true a q same ∙ t.is_lowest) ∙ lowest_in left t.some d.fits in
        (d.sub a m, m)

    pub parting_step : Parting before p out after (set rows q (bit_and (get_or rows q 0) ((2 ^ 64 - 1) - one)))
    parting_step =
        record {
          fits = subst (λ (z : ℕ). z < 2 ^ 64) (sym t.is_rest) (rest_lt 64 left d.fits);
          sub = λ a m. d.sub a (and_left (mem a left) _ (sym (fewer a) ∙ m));
          long = length-set rows q _ ∙ d.long;
          less = λ a. omega (arith, replaced_less rows q one d.long t.is_vertex a, d.less a);
          has = λ a b k.
              replaced_has rows q one d.long t.is_vertex one_fits a b k
              ∙ ap₂ (λ (s t : Bool). s && not (eqb a q && t)) (d.has a b k) (ap (mem b) i ∙ mem_single p b k)
              ∙ go (mem b (get_or before a 0)) (eqb b p) (mem a out) (mem a left) (eqb a q) (here a)
              ∙ ap (λ (t : Bool). mem b (get_or before a 0) && not (eqb b p && (mem a out && not t))) (sym (fewer a));
        }
      where
        settle : (s y : Bool) → ((s && not (y && (true && not true))) && not (true && y)) ≡ (s && not (y && (true && not (true && not true))))
        settle true true = refl
        settle true false = refl
        settle false y = refl

        go : (s y o l t : Bool) → (t ≡ true → (o ≡ true) × (l ≡ true))
            → ((s && not (y && (o && not l))) && not (t && y)) ≡ (s && not (y && (o && not (l && not t))))
        go s y o l true h =
            ap₂ (λ (o l : Bool). (s && not (y && (o && not l))) && not (true && y)) (h refl).0 (h refl).1 ∙ settle s y
            ∙ sym (ap₂ (λ (o l : Bool). s && not (y && (o && not (l && not true)))) (h refl).0 (h refl).1)
        go s y o l false h =
            and-true (s && not (y && (o && not l))) ∙ ap (λ (l : Bool). s && not (y && (o && not l))) (sym (and-true l))

  -- in the end the row of p loses out
  pub parting_end : left ≡ 0 → p < 64 → out < 2 ^ 64 → Parted before p out (set rows p (bit_and (get_or rows p 0) ((2 ^ 64 - 1) - out)))
  parting_end z l h =
      record {
        long = length-set rows p _ ∙ d.long;
        less = λ a. omega (arith, replaced_less rows p out d.long l a, d.less a);
        has = λ a b _ k.
            replaced_has rows p out d.long l h a b k
            ∙ ap (λ (t : Bool). t && not (eqb a p && mem b out))
            (d.has a b k
            ∙ ap (λ (t : Bool). mem b (get_or before a 0) && not (eqb b p && t))
            (ap (λ (t : Bool). mem a out && not t) (ap (mem a) z ∙ mem_none a) ∙ and-true (mem a out)))
            ∙ go (mem b (get_or before a 0)) (eqb a p && mem b out) (eqb b p && mem a out);
      }
    where
      go : (s x y : Bool) → ((s && not y) && not x) ≡ (s && not (x || y))
      go false x y = refl
      go true true true = refl
      go true true false = refl
      go true false y = and-true (not y)
