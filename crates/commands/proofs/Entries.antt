-- Which vertices a list of entries joins and masks, and when a list is proper. Assumes nothing.
use Prim.Native.Nat.{ℕ, suc, ◌<◌}
use native.Mathlib.Omega.{arith}
use mathlib.Core.Path.{◌≡◌, refl, sym, ap, ap₂, ◌∙◌}
use mathlib.Core.Logic.{◌≢◌}
use mathlib.Core.Bool.{Bool, true, false, not, ◌&&◌, ◌||◌, or_comm, or_assoc, and_comm}
use mathlib.Core.List.{List, [], ◌∷◌, ◌++◌}
use lib.Dec.{ltb, eqb}
use lib.ListN.{length, drop}
use borrow.Author.Tests.{ltb-true, lt-ltb, eqb-true, eqb-false, ne_eqb, not-true}
use Rattle.vertex_set.proofs.Booleans.{clash, refute, and_intro, and_left, and_right, or_left, or_cases, neither_left, neither_right, eqb_comm}
use Rattle.vertex_set.proofs.Lists.{any_append, any_snoc, any_cong}
use Rattle.vertex_set.specs.Lists.{any}
use Rattle.commands.specs.declared.Sign.{Sign}
use Rattle.commands.specs.declared.Sign.TheVariants.{Positive, Negative}
use Rattle.commands.specs.Entries.{Entry, link, mask, same_sign, joins, joins_as, masks, given, given_as, masked, proper, bytes_of, operands_of, entry_bytes}
use Rattle.commands.proofs.Reading.{Written}

-- ---- joined either way round

pub joins_cases : (A : Type 0) (p q : ℕ) (s : Sign) (a b : ℕ) → joins p q (link s a b) ≡ true
    → (a ≡ p → b ≡ q → A) → (a ≡ q → b ≡ p → A) → A
joins_cases A p q s a b e f g =
    or_cases A (eqb a p && eqb b q) (eqb a q && eqb b p) e
    (λ h. f (eqb-true a p (and_left (eqb a p) (eqb b q) h)) (eqb-true b q (and_right (eqb a p) (eqb b q) h)))
    (λ h. g (eqb-true a q (and_left (eqb a q) (eqb b p) h)) (eqb-true b p (and_right (eqb a q) (eqb b p) h)))

joins_comm : (p q : ℕ) (e : Entry) → joins p q e ≡ joins q p e
joins_comm p q (link s a b) = or_comm (eqb a p && eqb b q) (eqb a q && eqb b p)
joins_comm p q (mask a) = refl

-- one edge joins the vertices of another as that one joins its own
joins_turn : (s t : Sign) (a b c d : ℕ) → joins c d (link s a b) ≡ joins a b (link t c d)
joins_turn s t a b c d =
    ap₂ (λ (x y : Bool). x || y)
    (ap₂ (λ (x y : Bool). x && y) (eqb_comm a c) (eqb_comm b d))
    (and_comm (eqb a d) (eqb b c) ∙ ap₂ (λ (x y : Bool). x && y) (eqb_comm b c) (eqb_comm a d))

given_comm : (es : List Entry) (p q : ℕ) → given es p q ≡ given es q p
given_comm es p q = any_cong (joins p q) (joins q p) (joins_comm p q) es

-- vertices that an edge joins are joined as its own are
pub joined_given : (es : List Entry) (p q : ℕ) (s : Sign) (a b : ℕ) → joins p q (link s a b) ≡ true → given es p q ≡ given es a b
joined_given es p q s a b j =
    joins_cases (given es p q ≡ given es a b) p q s a b j
    (λ x y. ap₂ (given es) (sym x) (sym y)) (λ x y. given_comm es p q ∙ ap₂ (given es) (sym x) (sym y))

pub as_comm : (s : Sign) (es : List Entry) (p q : ℕ) → given_as s es p q ≡ given_as s es q p
as_comm s es p q = any_cong (joins_as s p q) (joins_as s q p) one es
  where
    one : (e : Entry) → joins_as s p q e ≡ joins_as s q p e
    one (link t a b) = ap (λ (x : Bool). same_sign s t && x) (joins_comm p q (link t a b))
    one (mask a) = refl

-- ---- with either sign

pub given_signs : (es : List Entry) (p q : ℕ) → given es p q ≡ (given_as Positive es p q || given_as Negative es p q)
unfolding any
given_signs [] p q = refl
given_signs (mask a ∷ es) p q = given_signs es p q
given_signs (link Positive a b ∷ es) p q =
    ap (λ (x : Bool). joins p q (link Positive a b) || x) (given_signs es p q)
    ∙ sym (or_assoc (joins p q (link Positive a b)) (given_as Positive es p q) (given_as Negative es p q))
given_signs (link Negative a b ∷ es) p q =
    ap (λ (x : Bool). joins p q (link Negative a b) || x) (given_signs es p q)
    ∙ between (joins p q (link Negative a b)) (given_as Positive es p q) (given_as Negative es p q)
  where
    between : (x y z : Bool) → (x || (y || z)) ≡ (y || (x || z))
    between true true z = refl
    between true false z = refl
    between false true z = refl
    between false false z = refl

pub as_given : (s : Sign) (es : List Entry) (p q : ℕ) → given_as s es p q ≡ true → given es p q ≡ true
as_given Positive es p q e = given_signs es p q ∙ or_left (given_as Positive es p q) (given_as Negative es p q) e
as_given Negative es p q e =
    given_signs es p q ∙ or_comm (given_as Positive es p q) (given_as Negative es p q)
    ∙ or_left (given_as Negative es p q) (given_as Positive es p q) e

pub sign_self : (s : Sign) → same_sign s s ≡ true
sign_self Positive = refl
sign_self Negative = refl

-- ---- proper lists

-- what a command may give: vertices below n, two different ones where it joins them
abbrev pub Allowed : ℕ → Entry → Type 0
Allowed n (link s a b) = (a < n) × (b < n) × (a ≢ b)
Allowed n (mask a) = a < n

-- an entry joins the vertices of another, or masks the vertex that it masks
abbrev pub repeats : Entry → Entry → Bool
repeats (link s a b) = joins a b
repeats (mask a) = masks a

repeats_turn : (e f : Entry) → repeats e f ≡ repeats f e
repeats_turn (link s a b) (link t c d) = sym (joins_turn s t a b c d)
repeats_turn (link s a b) (mask c) = refl
repeats_turn (mask a) (link t c d) = refl
repeats_turn (mask a) (mask c) = eqb_comm c a

-- an entry that may stand before or behind these: it is allowed, and none of them says the same
pub record Fresh (n : ℕ) (es : List Entry) (e : Entry) : Type 0 where
  pub allowed : Allowed n e
  pub new : any (repeats e) es ≡ false

module _ (n : ℕ) (s : Sign) (a b : ℕ) (es : List Entry) where
  abbrev c2 : Bool
  c2 = ltb a n && ltb b n

  abbrev c3 : Bool
  c3 = c2 && not (eqb a b)

  abbrev c4 : Bool
  c4 = c3 && not (given es a b)

  first_link : proper n (link s a b ∷ es) ≡ true → Fresh n es (link s a b)
  unfolding proper
  first_link e =
      let e4 : c4 ≡ true = and_left c4 (proper n es) e in
      let e3 : c3 ≡ true = and_left c3 (not (given es a b)) e4 in
      let e2 : c2 ≡ true = and_left c2 (not (eqb a b)) e3 in
      record {
        allowed = (
          ltb-true a n (and_left (ltb a n) (ltb b n) e2),
          ltb-true b n (and_right (ltb a n) (ltb b n) e2),
          eqb-false a b (not-true (eqb a b) (and_right c2 (not (eqb a b)) e3)),
        );
        new = not-true (given es a b) (and_right c3 (not (given es a b)) e4);
      }

  cons_link : Fresh n es (link s a b) → proper n es ≡ true → proper n (link s a b ∷ es) ≡ true
  unfolding proper
  cons_link f e =
      and_intro c4 (proper n es)
      (and_intro c3 (not (given es a b))
      (and_intro c2 (not (eqb a b))
      (and_intro (ltb a n) (ltb b n) (lt-ltb a n f.allowed.0) (lt-ltb b n f.allowed.1))
      (ap not (ne_eqb a b f.allowed.2)))
      (ap not f.new))
      e

module _ (n : ℕ) where
  pub proper_first : (e : Entry) (es : List Entry) → proper n (e ∷ es) ≡ true → Fresh n es e
  unfolding proper
  proper_first (link s a b) es h = first_link n s a b es h
  proper_first (mask a) es h =
      let k = and_left (ltb a n && not (masked es a)) (proper n es) h in
      record {
        allowed = ltb-true a n (and_left (ltb a n) (not (masked es a)) k);
        new = not-true (masked es a) (and_right (ltb a n) (not (masked es a)) k);
      }

  pub proper_rest : (e : Entry) (es : List Entry) → proper n (e ∷ es) ≡ true → proper n es ≡ true
  unfolding proper
  proper_rest (link s a b) es h = and_right (c4 n s a b es) (proper n es) h
  proper_rest (mask a) es h = and_right (ltb a n && not (masked es a)) (proper n es) h

  pub proper_cons : (e : Entry) (es : List Entry) → Fresh n es e → proper n es ≡ true → proper n (e ∷ es) ≡ true
  unfolding proper
  proper_cons (link s a b) es f h = cons_link n s a b es f h
  proper_cons (mask a) es f h =
      and_intro (ltb a n && not (masked es a)) (proper n es)
      (and_intro (ltb a n) (not (masked es a)) (lt-ltb a n f.allowed) (ap not f.new)) h

module _ (n : ℕ) (e : Entry) where
  -- an entry that is fresh behind a proper list
  pub proper_snoc : (es : List Entry) → proper n es ≡ true → Fresh n es e → proper n (es ++ e ∷ []) ≡ true
  unfolding any
  proper_snoc [] h f = proper_cons n e [] f h
  proper_snoc (d ∷ es) h f =
      let k : Fresh n es d = proper_first n d es h in
      proper_cons n d (es ++ e ∷ [])
      (record {
        allowed = k.allowed;
        new = any_snoc (repeats d) es e
            ∙ ap₂ ◌||◌ k.new (repeats_turn d e ∙ neither_left (repeats e d) (any (repeats e) es) f.new);
      })
      (proper_snoc es (proper_rest n d es h)
      (record { allowed = f.allowed; new = neither_right (repeats e d) (any (repeats e) es) f.new }))

  -- an entry of a proper list is fresh behind those before it
  pub proper_at : (before after : List Entry) → proper n (before ++ e ∷ after) ≡ true → Fresh n before e
  unfolding any
  proper_at [] after h = record { allowed = (proper_first n e after h).allowed; new = refl }
  proper_at (d ∷ before) after h =
      let k : Fresh n (before ++ e ∷ after) d = proper_first n d (before ++ e ∷ after) h in
      let r : Fresh n before e = proper_at before after (proper_rest n d (before ++ e ∷ after) h) in
      let tail : any (repeats d) (e ∷ after) ≡ false =
      neither_right (any (repeats d) before) (any (repeats d) (e ∷ after)) (sym (any_append (repeats d) before (e ∷ after)) ∙ k.new) in
      record {
        allowed = r.allowed;
        new = ap₂ ◌||◌ (repeats_turn e d ∙ neither_left (repeats d e) (any (repeats d) after) tail) r.new;
      }

module _ (n : ℕ) where
  -- joined vertices are different and below n
  pub proper_joins : (es : List Entry) → proper n es ≡ true → (p q : ℕ) → given es p q ≡ true → (p < n) × (q < n) × (p ≢ q)
  unfolding any
  proper_joins [] e p q g = clash false g refl
  proper_joins (mask a ∷ es) e p q g = proper_joins es (proper_rest n (mask a) es e) p q g
  proper_joins (link s a b ∷ es) e p q g =
      or_cases Goal (joins p q (link s a b)) (given es p q) g
      (λ j. joins_cases Goal p q s a b j
      (λ x y. (omega (arith, h.0), omega (arith, h.1), λ z. h.2 (x ∙ z ∙ sym y)))
      (λ x y. (omega (arith, h.1), omega (arith, h.0), λ z. h.2 (x ∙ sym z ∙ sym y))))
      (proper_joins es (proper_rest n (link s a b) es e) p q)
    where
      Goal : Type 0
      Goal = (p < n) × (q < n) × (p ≢ q)

      h : (a < n) × (b < n) × (a ≢ b)
      h = (proper_first n (link s a b) es e).allowed

  -- masked vertices are below n
  pub proper_masks : (es : List Entry) → proper n es ≡ true → (p : ℕ) → masked es p ≡ true → p < n
  unfolding any
  proper_masks [] e p m = clash false m refl
  proper_masks (link s a b ∷ es) e p m = proper_masks es (proper_rest n (link s a b) es e) p m
  proper_masks (mask a ∷ es) e p m =
      or_cases (p < n) (eqb a p) (masked es p) m (λ x. omega (arith, eqb-true a p x, (proper_first n (mask a) es e).allowed))
      (proper_masks es (proper_rest n (mask a) es e) p)

  -- an edge of a proper list joins what no other does
  none_other : (s t : Sign) (es : List Entry) (a b : ℕ) → proper n (link s a b ∷ es) ≡ true → (p q : ℕ)
      → joins p q (link s a b) ≡ true → given_as t es p q ≡ true → ⊥
  none_other s t es a b e p q j g =
      clash (given es p q) (as_given t es p q g) (joined_given es p q s a b j ∙ (proper_first n (link s a b) es e).new)

  -- two vertices are joined with one sign
  pub one_sign : (es : List Entry) → proper n es ≡ true → (p q : ℕ) → given_as Positive es p q ≡ true → given_as Negative es p q ≡ false
  unfolding any
  one_sign [] e p q g = refl
  one_sign (mask a ∷ es) e p q g = one_sign es (proper_rest n (mask a) es e) p q g
  one_sign (link Positive a b ∷ es) e p q g =
      or_cases (given_as Negative es p q ≡ false) (joins p q (link Positive a b)) (given_as Positive es p q) g
      (λ j. refute (given_as Negative es p q) (none_other Positive Negative es a b e p q j))
      (one_sign es (proper_rest n (link Positive a b) es e) p q)
  one_sign (link Negative a b ∷ es) e p q g =
      ap₂ (λ (x y : Bool). x || y)
      (refute (joins p q (link Negative a b)) (λ j. none_other Negative Positive es a b e p q j g))
      (one_sign es (proper_rest n (link Negative a b) es e) p q g)

-- ---- their bytes

-- the command byte, and the operands
pub length_of : (e : Entry) → length (bytes_of e) ≡ suc (operands_of e)
length_of (link s a b) = refl
length_of (mask a) = refl

pub past_command : (e : Entry) (l : List ℕ) → drop (suc (operands_of e)) (bytes_of e ++ l) ≡ l
past_command (link s a b) l = refl
past_command (mask a) l = refl

pub none_bytes : entry_bytes [] ≡ []
unfolding entry_bytes
none_bytes = refl

pub first_bytes : (e : Entry) (es : List Entry) → entry_bytes (e ∷ es) ≡ bytes_of e ++ entry_bytes es
unfolding entry_bytes
first_bytes e es = refl

abbrev pub entries_written : Written Entry
entries_written = record { operands = operands_of; bytes = bytes_of; all = entry_bytes; none = none_bytes; first = first_bytes; sized = length_of }
