-- What a list of amendments says: the last command that names two vertices decides, whichever way it is read. Assumes nothing.
use Prim.Native.Nat.{ℕ, suc, ◌<◌}
use native.Mathlib.Omega.{arith}
use mathlib.Core.Path.{◌≡◌, refl, sym, ap, ap₂, ◌∙◌, subst}
use mathlib.Core.Logic.{◌≢◌, ◌⊎◌, inl, inr}
use mathlib.Core.Bool.{Bool, true, false, ◌&&◌, ◌||◌, or_comm}
use mathlib.Core.List.{List, [], ◌∷◌, ◌++◌}
use lib.Dec.{eqb}
use lib.ListN.{length, drop}
use borrow.Author.Tests.{eqb-true}
use Rattle.vertex_set.specs.Lists.{All, any}
use Rattle.vertex_set.proofs.Booleans.{clash, cases, or_cases, neither_left, neither_right}
use Rattle.vertex_set.proofs.Alternatives.{applies, passes_by}
use Rattle.vertex_set.proofs.Lists.{any_append}
use Rattle.commands.specs.declared.Sign.{Sign}
use Rattle.commands.specs.declared.Sign.TheVariants.{Positive, Negative}
use Rattle.commands.proofs.Reading.{Written}
use Rattle.commands.proofs.Entries.{joins_cases}
use Rattle.amendments.specs.Amendments.{EdgeState, present, absent, Amendment, amend_edge, amend_mask, names, LastSays, said, unsaid, state_after, state_from, state_of, is_present, amended_as, masking, amended_mask, Permitted, bytes_of_amendment, operands_of_amendment, amendment_bytes}

-- ---- one command

-- a command that names p and q speaks of an edge, and its state stands behind it
module _ (p q : ℕ) (v w : EdgeState) (a b : ℕ) where
  named_after : names p q (amend_edge v a b) ≡ true → state_after w p q (amend_edge v a b) ≡ v
  named_after = applies (names p q (amend_edge v a b)) v w

pub unnamed_after : (p q : ℕ) (w : EdgeState) (c : Amendment) → names p q c ≡ false → state_after w p q c ≡ w
unnamed_after p q w (amend_edge v a b) e = passes_by (names p q (amend_edge v a b)) v w e
unnamed_after p q w (amend_mask a) e = refl

names_comm : (p q : ℕ) (c : Amendment) → names p q c ≡ names q p c
names_comm p q (amend_edge v a b) = or_comm (eqb a p && eqb b q) (eqb a q && eqb b p)
names_comm p q (amend_mask a) = refl

after_comm : (w : EdgeState) (p q : ℕ) (c : Amendment) → state_after w p q c ≡ state_after w q p c
after_comm w p q (amend_edge v a b) = rw (names_comm p q (amend_edge v a b))
after_comm w p q (amend_mask a) = refl

-- given again behind itself a command changes nothing
after_again : (w : EdgeState) (p q : ℕ) (c : Amendment) → state_after (state_after w p q c) p q c ≡ state_after w p q c
after_again w p q (amend_mask a) = refl
after_again w p q (amend_edge v a b) =
    cases _ (names p q (amend_edge v a b))
    (λ e. named_after p q v (state_after w p q (amend_edge v a b)) a b e ∙ sym (named_after p q v w a b e))
    (unnamed_after p q (state_after w p q (amend_edge v a b)) (amend_edge v a b))

-- ---- many

pub state_append : (w : EdgeState) (p q : ℕ) (cs ds : List Amendment) → state_from w p q (cs ++ ds) ≡ state_from (state_from w p q cs) p q ds
unfolding state_from
state_append w p q [] ds = refl
state_append w p q (c ∷ cs) ds = state_append (state_after w p q c) p q cs ds

pub state_snoc : (cs : List Amendment) (c : Amendment) (p q : ℕ) → state_of (cs ++ c ∷ []) p q ≡ state_after (state_of cs p q) p q c
unfolding state_from
state_snoc cs c p q = state_append absent p q cs (c ∷ [])

-- commands that do not name p and q leave what was said of them
pub unnamed : (p q : ℕ) (w : EdgeState) (cs : List Amendment) → any (names p q) cs ≡ false → state_from w p q cs ≡ w
unfolding state_from any
unnamed p q w [] e = refl
unnamed p q w (c ∷ cs) e =
    unnamed p q (state_after w p q c) cs (neither_right (names p q c) (any (names p q) cs) e)
    ∙ unnamed_after p q w c (neither_left (names p q c) (any (names p q) cs) e)

state_comm : (w : EdgeState) (p q : ℕ) (cs : List Amendment) → state_from w p q cs ≡ state_from w q p cs
unfolding state_from
state_comm w p q [] = refl
state_comm w p q (c ∷ cs) = rw (after_comm w p q c) (state_comm (state_after w q p c) p q cs)

pub amended_comm : (s : Sign) (cs : List Amendment) (p q : ℕ) → amended_as s cs p q ≡ amended_as s cs q p
amended_comm s cs p q = ap (is_present s) (state_comm absent p q cs)

-- ---- the last command that names p and q decides

pub last_state : (p q : ℕ) (cs : List Amendment) (v : EdgeState) → LastSays p q cs v → state_of cs p q ≡ v
unfolding state_from
last_state p q cs v (unsaid none) = unnamed p q absent cs none
last_state p q cs v (said before after w a b e n none) =
    ap (λ (l : List Amendment). state_of l p q) e ∙ state_append absent p q before (amend_edge w a b ∷ after)
    ∙ unnamed p q (state_after (state_of before p q) p q (amend_edge w a b)) after none
    ∙ named_after p q w (state_of before p q) a b n

-- the last command that names p and q, and that it says v
record Deciding (p q : ℕ) (cs : List Amendment) (v : EdgeState) : Type 0 where
  pub before : List Amendment
  pub after : List Amendment
  pub a : ℕ
  pub b : ℕ
  pub split : cs ≡ before ++ amend_edge v a b ∷ after
  pub named : names p q (amend_edge v a b) ≡ true
  pub none : any (names p q) after ≡ false

module _ (p q : ℕ) where
  -- no command names p and q, or the last that does says what stands
  abbrev Decided : EdgeState → List Amendment → Type 0
  Decided w cs = (any (names p q) cs ≡ false) ⊎ Deciding p q cs (state_from w p q cs)

  -- a command before others that do not name p and q
  first_decides : (w : EdgeState) (c : Amendment) (cs : List Amendment) → any (names p q) cs ≡ false → Decided w (c ∷ cs)
  unfolding state_from any
  first_decides w (amend_mask a) cs none = inl none
  first_decides w (amend_edge v a b) cs none =
      cases (Decided w (amend_edge v a b ∷ cs)) (names p q (amend_edge v a b))
      (λ e. inr (subst (Deciding p q (amend_edge v a b ∷ cs))
      (sym (unnamed p q (state_after w p q (amend_edge v a b)) cs none ∙ named_after p q v w a b e))
      (record { before = []; after = cs; a = a; b = b; split = refl; named = e; none = none })))
      (λ e. inl (ap₂ ◌||◌ e none))

  decided : (w : EdgeState) (cs : List Amendment) → Decided w cs
  unfolding state_from any
  decided w [] = inl refl
  decided w (c ∷ cs) = go (decided (state_after w p q c) cs)
    where
      go : Decided (state_after w p q c) cs → Decided w (c ∷ cs)
      go (inl none) = first_decides w c cs none
      go (inr d) =
          inr (record {
            before = c ∷ d.before;
            after = d.after;
            a = d.a;
            b = d.b;
            split = ap (λ (l : List Amendment). c ∷ l) d.split;
            named = d.named;
            none = d.none;
          })

  pub state_last : (cs : List Amendment) → LastSays p q cs (state_of cs p q)
  state_last cs = go (decided absent cs)
    where
      go : Decided absent cs → LastSays p q cs (state_of cs p q)
      go (inl none) = subst (LastSays p q cs) (sym (unnamed p q absent cs none)) (unsaid none)
      go (inr d) = said d.before d.after (state_of cs p q) d.a d.b d.split d.named d.none

-- ---- what stands is permitted

-- the vertices of an edge that is present are different and below n
pub present_permitted : (n : ℕ) (s : Sign) (p q : ℕ) (cs : List Amendment) → All (Permitted n) cs → amended_as s cs p q ≡ true
    → (p < n) × (q < n) × (p ≢ q)
unfolding state_from
present_permitted n s p q cs = from absent cs (λ e. clash false e refl)
  where
    Fine : Type 0
    Fine = (p < n) × (q < n) × (p ≢ q)

    after : (w : EdgeState) (c : Amendment) → Permitted n c → (is_present s w ≡ true → Fine) → is_present s (state_after w p q c) ≡ true → Fine
    after w (amend_mask a) h k e = k e
    after w (amend_edge v a b) h k e =
        cases Fine (names p q (amend_edge v a b))
        (λ j. joins_cases Fine p q Positive a b j
        (λ x y. (omega (arith, h.0), omega (arith, h.1), λ z. h.2 (x ∙ z ∙ sym y)))
        (λ x y. (omega (arith, h.1), omega (arith, h.0), λ z. h.2 (x ∙ sym z ∙ sym y))))
        (λ j. k (ap (is_present s) (sym (unnamed_after p q w (amend_edge v a b) j)) ∙ e))

    from : (w : EdgeState) (cs : List Amendment) → (is_present s w ≡ true → Fine) → All (Permitted n) cs
        → is_present s (state_from w p q cs) ≡ true → Fine
    from w [] k h e = k e
    from w (c ∷ cs) k h e = from (state_after w p q c) cs (after w c h.0 k) h.1 e

-- masked vertices are below n
pub mask_permitted : (n p : ℕ) (cs : List Amendment) → All (Permitted n) cs → amended_mask cs p ≡ true → p < n
unfolding any
mask_permitted n p [] h m = clash false m refl
mask_permitted n p (amend_edge v a b ∷ cs) h m = mask_permitted n p cs h.1 m
mask_permitted n p (amend_mask a ∷ cs) h m =
    or_cases (p < n) (eqb a p) (amended_mask cs p) m (λ x. omega (arith, eqb-true a p x, h.0)) (mask_permitted n p cs h.1)

-- an edge is present with one sign
pub one_state : (w : EdgeState) → is_present Positive w ≡ true → is_present Negative w ≡ false
one_state (present Positive) e = refl
one_state (present Negative) e = clash false e refl
one_state absent e = refl

-- ---- a command given again behind itself changes nothing

pub state_again : (p q : ℕ) (cs : List Amendment) (c : Amendment) (ds : List Amendment)
    → state_of (cs ++ c ∷ c ∷ ds) p q ≡ state_of (cs ++ c ∷ ds) p q
unfolding state_from
state_again p q cs c ds =
    state_append absent p q cs (c ∷ c ∷ ds) ∙ ap (λ (w : EdgeState). state_from w p q ds) (after_again (state_of cs p q) p q c)
    ∙ sym (state_append absent p q cs (c ∷ ds))

pub mask_again : (p : ℕ) (cs : List Amendment) (c : Amendment) (ds : List Amendment)
    → amended_mask (cs ++ c ∷ c ∷ ds) p ≡ amended_mask (cs ++ c ∷ ds) p
unfolding any
mask_again p cs c ds =
    any_append (masking p) cs (c ∷ c ∷ ds) ∙ ap (λ (b : Bool). amended_mask cs p || b) (twice (masking p c) (amended_mask ds p))
    ∙ sym (any_append (masking p) cs (c ∷ ds))
  where
    twice : (x y : Bool) → (x || (x || y)) ≡ (x || y)
    twice true y = refl
    twice false y = refl

-- ---- their bytes

pub length_of : (c : Amendment) → length (bytes_of_amendment c) ≡ suc (operands_of_amendment c)
length_of (amend_edge v a b) = refl
length_of (amend_mask a) = refl

pub past_command : (c : Amendment) (l : List ℕ) → drop (suc (operands_of_amendment c)) (bytes_of_amendment c ++ l) ≡ l
past_command (amend_edge v a b) l = refl
past_command (amend_mask a) l = refl

pub none_bytes : amendment_bytes [] ≡ []
unfolding amendment_bytes
none_bytes = refl

pub first_bytes : (c : Amendment) (cs : List Amendment) → amendment_bytes (c ∷ cs) ≡ bytes_of_amendment c ++ amendment_bytes cs
unfolding amendment_bytes
first_bytes c cs = refl

abbrev pub amendments_written : Written Amendment
amendments_written =
    record {
      operands = operands_of_amendment;
      bytes = bytes_of_amendment;
      all = amendment_bytes;
      none = none_bytes;
      first = first_bytes;
      sized = length_of;
    }
