-- Listing order is a strict total order, and all sets of vertices below n stand in it, each once. Assumes nothing.
use Prim.Native.Nat.{ℕ, zero, suc, ◌+◌, ◌^◌, ◌≤◌, ◌<◌}
use native.Mathlib.Nat.{two-pow-succ, eq-or-lt_of_le, le_of_suc-le-suc}
use native.Mathlib.Omega.{arith}
use native.Mathlib.Decide.{dec_lt}
use mathlib.Core.Path.{◌≡◌, refl, sym, ap, ap₂, ◌∙◌, subst}
use mathlib.Core.Logic.{◌≢◌, ◌⊎◌, inl, inr}
use mathlib.Core.Bool.{Bool, true, false, not, ◌&&◌, ◌||◌, beq, not-not, or-false}
use mathlib.Core.List.Memᴰ
use mathlib.Core.List.{◌++◌, Memᴰ}
use lib.Dec.{ltb}
use lib.Bits.{bit_xor, or_lt}
use lib.Pow.{pow_pos}
use borrow.Author.Tests.{ltb-true, lt-ltb, ne_eqb, not-true, not-false, ltb-false}
use Rattle.vertex_set.specs.Lists.{All, Sorted}
use Rattle.vertex_set.specs.Sets.{mem, insert, lowest}
use Rattle.vertex_set.proofs.Lists.{all_append, all_imp, sorted_append}
use Rattle.vertex_set.proofs.Booleans.{clash, refute, cases, and_intro, and_left, and_right, beq_eq, eq_beq, beq_ne}
use Rattle.vertex_set.proofs.Membership.{mem_past, mem_xor, mem_ext}
use Rattle.vertex_set.proofs.Collections.{mem_insert, insert_in}
use Rattle.vertex_set.proofs.LowestVertex.{lowest_hit, lowest_least, lowest_is}
use Rattle.vertex_set.specs.Order.{difference, precedes, choices, subsets}

-- ---- where two sets differ first

module _ (a b : ℕ) where
  pub agree_below : (j : ℕ) → j < difference a b → mem j a ≡ mem j b
  unfolding difference
  agree_below j l =
      beq_eq (mem j a) (mem j b) (not-false (beq (mem j a) (mem j b)) (sym (mem_xor j a b) ∙ lowest_least (bit_xor a b) j l))

  pub differ_at : difference a b < 64 → mem (difference a b) b ≡ not (mem (difference a b) a)
  unfolding difference
  differ_at h =
      let d : ℕ = lowest (bit_xor a b) in
      let e : mem d a ≡ not (mem d b) =
      beq_ne (mem d a) (mem d b) (not-true (beq (mem d a) (mem d b)) (sym (mem_xor d a b) ∙ lowest_hit (bit_xor a b) h)) in
      sym (not-not (mem d b)) ∙ ap not (sym e)

-- ---- a comes before b: they agree below d, which a holds and b does not

pub record Before (a b d : ℕ) : Type 0 where
  pub small : d < 64
  pub same : (j : ℕ) → j < d → mem j a ≡ mem j b
  pub held : mem d a ≡ true
  pub lacked : mem d b ≡ false

module _ (a b : ℕ) where
  to_before : precedes a b ≡ true → Before a b (difference a b)
  unfolding precedes
  to_before e =
      let d : ℕ = difference a b in
      let small : d < 64 = ltb-true d 64 (and_left (ltb d 64) (mem d a) e) in
      let held : mem d a ≡ true = and_right (ltb d 64) (mem d a) e in
      record { small = small; same = agree_below a b; held = held; lacked = differ_at a b small ∙ ap not held }

  pub from_before : (d : ℕ) → Before a b d → precedes a b ≡ true
  unfolding precedes difference
  from_before d h =
      ap (λ (z : ℕ). ltb z 64 && mem z a) e ∙ and_intro (ltb d 64) (mem d a) (lt-ltb d 64 h.small) h.held
    where
      e : lowest (bit_xor a b) ≡ d
      e =
          lowest_is (bit_xor a b) d h.small
          (mem_xor d a b ∙ ap₂ (λ (x y : Bool). not (beq x y)) h.held h.lacked)
          (λ j l. mem_xor j a b ∙ ap not (eq_beq (mem j a) (mem j b) (h.same j l)))

-- ---- a strict total order

pub irreflexive : (a : ℕ) → precedes a a ≡ false
irreflexive a =
    refute (precedes a a)
    (λ e. let h : Before a a (difference a a) = to_before a a e in clash (mem (difference a a) a) h.held h.lacked)

pub transitive : (a b c : ℕ) → precedes a b ≡ true → precedes b c ≡ true → precedes a c ≡ true
transitive a b c x y = go (dec_lt d e) (dec_lt e d)
  where
    d : ℕ
    d = difference a b

    e : ℕ
    e = difference b c

    h : Before a b d
    h = to_before a b x

    k : Before b c e
    k = to_before b c y

    go : Dec (d < e) → Dec (e < d) → precedes a c ≡ true
    go (yes l) m =
        from_before a c d (record {
          small = h.small;
          same = λ j i. h.same j i ∙ k.same j (omega arith);
          held = h.held;
          lacked = sym (k.same d l) ∙ h.lacked;
        })
    go (no l) (yes m) =
        from_before a c e (record {
          small = k.small;
          same = λ j i. h.same j (omega arith) ∙ k.same j i;
          held = h.same e m ∙ k.held;
          lacked = k.lacked;
        })
    go (no l) (no m) =
        let z : d ≡ e = omega arith in clash (mem e b) k.held (ap (λ (v : ℕ). mem v b) (sym z) ∙ h.lacked)

pub asymmetric : (a b : ℕ) → precedes a b ≡ true → precedes b a ≡ false
asymmetric a b x =
    refute (precedes b a) (λ y. clash (precedes a a) (transitive a b a x y) (irreflexive a))

pub total : (a b : ℕ) → a < 2 ^ 64 → b < 2 ^ 64 → a ≢ b → (precedes a b ≡ true) ⊎ (precedes b a ≡ true)
total a b ha hb ne = go (dec_lt d 64)
  where
    d : ℕ
    d = difference a b

    go : Dec (d < 64) → (precedes a b ≡ true) ⊎ (precedes b a ≡ true)
    go (no x) = absurd (ne (mem_ext 64 a b ha hb (λ j l. agree_below a b j (omega arith))))
    go (yes x) =
        cases ((precedes a b ≡ true) ⊎ (precedes b a ≡ true)) (mem d a)
        (λ m. inl (from_before a b d (record { small = x; same = agree_below a b; held = m; lacked = differ_at a b x ∙ ap not m })))
        (λ m. inr (from_before b a d (record {
          small = x;
          same = λ j l. sym (agree_below a b j l);
          held = differ_at a b x ∙ ap not m;
          lacked = m;
        })))

-- ---- the choices that hold s below i

-- t has the same vertices below i as s
abbrev pub Agree : ℕ → ℕ → ℕ → Type 0
Agree i s t = (j : ℕ) → j < i → mem j t ≡ mem j s

insert_below : (i s : ℕ) → Agree i s (insert i s)
insert_below i s j h = mem_insert j i s ∙ ap (λ (b : Bool). mem j s || b) (ne_eqb j i (omega arith)) ∙ or-false (mem j s)

insert_lt : (i s : ℕ) → s < 2 ^ i → insert i s < 2 ^ suc i
insert_lt i s h = or_lt (suc i) s (2 ^ i) (omega (arith, two-pow-succ i)) (omega (arith, two-pow-succ i, pow_pos i))

skip_lt : (i s : ℕ) → s < 2 ^ i → s < 2 ^ suc i
skip_lt i s h = omega (arith, two-pow-succ i)

choices_agree : (d i s : ℕ) → All (Agree i s) (choices d i s)
unfolding choices
choices_agree zero i s = (λ j h. refl, tt)
choices_agree (suc d) i s =
    all_append (Agree i s) (choices d (suc i) (insert i s)) (choices d (suc i) s)
    (all_imp (Agree (suc i) (insert i s)) (Agree i s) (λ t k j h. k j (omega arith) ∙ insert_below i s j h)
    (choices d (suc i) (insert i s)) (choices_agree d (suc i) (insert i s)))
    (all_imp (Agree (suc i) s) (Agree i s) (λ t k j h. k j (omega arith)) (choices d (suc i) s) (choices_agree d (suc i) s))

in_before_out : (i s x y : ℕ) → i < 64 → s < 2 ^ i → Agree (suc i) (insert i s) x → Agree (suc i) s y → precedes x y ≡ true
in_before_out i s x y h k ax ay =
    from_before x y i (record {
      small = h;
      same = λ j l. ax j (omega arith) ∙ insert_below i s j l ∙ sym (ay j (omega arith));
      held = ax i (omega arith) ∙ insert_in i s;
      lacked = ay i (omega arith) ∙ mem_past i i s k (omega arith);
    })

choices_sorted : (d i s : ℕ) → i + d ≤ 64 → s < 2 ^ i → Sorted precedes (choices d i s)
unfolding choices
choices_sorted zero i s h k = (tt, tt)
choices_sorted (suc d) i s h k =
    sorted_append precedes (choices d (suc i) (insert i s)) (choices d (suc i) s)
    (choices_sorted d (suc i) (insert i s) (omega arith) (insert_lt i s k))
    (choices_sorted d (suc i) s (omega arith) (skip_lt i s k))
    (all_imp (Agree (suc i) (insert i s)) (λ (x : ℕ). All (λ (y : ℕ). precedes x y ≡ true) (choices d (suc i) s))
    (λ x ax. all_imp (Agree (suc i) s) (λ (y : ℕ). precedes x y ≡ true) (λ y ay. in_before_out i s x y (omega arith) k ax ay)
    (choices d (suc i) s) (choices_agree d (suc i) s))
    (choices d (suc i) (insert i s)) (choices_agree d (suc i) (insert i s)))

choices_all : (d i s x : ℕ) → s < 2 ^ i → x < 2 ^ (i + d) → Agree i s x → Memᴰ x (choices d i s)
unfolding choices
choices_all zero i s x h k ag =
    Memᴰ.head (mem_ext i x s (subst (λ (z : ℕ). x < 2 ^ z) (omega arith) k) h ag)
choices_all (suc d) i s x h k ag =
    go (mem i x) refl (choices_all d (suc i) (insert i s) x (insert_lt i s h) k') (choices_all d (suc i) s x (skip_lt i s h) k')
  where
    k' : x < 2 ^ (suc i + d)
    k' = subst (λ (z : ℕ). x < 2 ^ z) (omega arith) k

    more : (b : Bool) (t : ℕ) → mem i x ≡ b → mem i t ≡ b → Agree i s t → Agree (suc i) t x
    more b t e f at j l = at_or j (last j l)
      where
        last : (j : ℕ) → j < suc i → (j ≡ i) ⊎ (j < i)
        last j l = eq-or-lt_of_le (le_of_suc-le-suc l)

        at_or : (j : ℕ) → (j ≡ i) ⊎ (j < i) → mem j x ≡ mem j t
        at_or j (inl z) = ap (λ (v : ℕ). mem v x) z ∙ e ∙ sym f ∙ ap (λ (v : ℕ). mem v t) (sym z)
        at_or j (inr z) = ag j z ∙ sym (at j z)

    go : (b : Bool) → mem i x ≡ b → (Agree (suc i) (insert i s) x → Memᴰ x (choices d (suc i) (insert i s)))
        → (Agree (suc i) s x → Memᴰ x (choices d (suc i) s)) → Memᴰ x (choices d (suc i) (insert i s) ++ choices d (suc i) s)
    go true e f o = Memᴰ.append_left (choices d (suc i) s) (f (more true (insert i s) e (insert_in i s) (insert_below i s)))
    go false e f o = Memᴰ.append_right (choices d (suc i) (insert i s)) (o (more false s e (mem_past i i s h (omega arith)) (λ j l. refl)))

-- ---- all sets

pub subsets_sorted : (n : ℕ) → n ≤ 64 → Sorted precedes (subsets n)
unfolding subsets
subsets_sorted n h = choices_sorted n 0 0 (omega arith) (pow_pos 0)

pub subsets_all : (n s : ℕ) → s < 2 ^ n → Memᴰ s (subsets n)
unfolding subsets
subsets_all n s h = choices_all n 0 0 s (pow_pos 0) (subst (λ (z : ℕ). s < 2 ^ z) (omega arith) h) (λ j l. absurd (omega arith))

-- a comes before b exactly where it holds the lowest vertex that only one of them holds
pub first_holds : (a b : ℕ) → a < 2 ^ 64 → mem (difference a b) a ≡ precedes a b
unfolding precedes
first_holds a b h =
    let d : ℕ = difference a b in
    cases (mem d a ≡ (ltb d 64 && mem d a)) (ltb d 64) (λ e. sym (ap (λ (x : Bool). x && mem d a) e))
    (λ e. mem_past 64 d a h (ltb-false d 64 e) ∙ sym (ap (λ (x : Bool). x && mem d a) e))
