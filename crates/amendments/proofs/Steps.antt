-- What a command of an amendment list does, by its bytes. Assumes nothing.
use Prim.Native.Nat.{ℕ, suc, ◌≤◌, ◌<◌}
use native.Mathlib.Omega.{arith}
use mathlib.Core.Path.{◌≡◌, refl, sym, ap, ap₂, ◌∙◌}
use mathlib.Core.Logic.{◌≢◌}
use mathlib.Core.List.{List, [], ◌∷◌, ◌++◌}
use lib.Dec.{eqb}
use lib.ListN.{length, get_or, drop}
use borrow.Author.Tests.{eqb-true, eqb-false, eq-eqb, ne_eqb}
use Rattle.commands.specs.declared.Fault.{Fault}
use Rattle.signed_graph.specs.declared.SignedGraph.{SignedGraph}
use Rattle.std.specs.Prelude.{false, Result, Ok, Err}
use Rattle.vertex_set.specs.Lists.{any}
use Rattle.vertex_set.proofs.Booleans.{cases}
use Rattle.vertex_set.proofs.Alternatives.{applies, passes_by}
use Rattle.commands.specs.declared.Sign.{Sign}
use Rattle.commands.specs.declared.Sign.TheVariants.{Positive, Negative}
use Rattle.commands.specs.declared.Step.{Step}
use Rattle.commands.specs.declared.Step.TheVariants.{Edge, Mask, Close}
use Rattle.commands.specs.Entries.{Entry, link, mask, earlier_of, command_byte}
use Rattle.commands.proofs.Entries.{Allowed, Fresh}
use Rattle.commands.proofs.Steps.{Means, step_means, step_of_law}
use Rattle.amendments.specs.Amendments.{present, absent, Amendment, amend_edge, amend_mask, Permitted, state_byte, bytes_of_amendment, operands_of_amendment}
use Rattle.amendments.specs.Faults.{checked_as, AmendmentFaultAt}
use Rattle.amendments.specs.Decoding.{amendment_step, byte_state, follow_amendment}

-- ---- the command byte

-- 24 is checked as 21, and other bytes as themselves
pub checked_24 : (c : ℕ) → c ≡ 0x24 → checked_as c ≡ 0x21
checked_24 c e = applies (eqb c 0x24) 0x21 c (eq-eqb c 0x24 e)

pub checked_other : (c : ℕ) → c ≢ 0x24 → checked_as c ≡ c
checked_other c d = passes_by (eqb c 0x24) 0x21 c (ne_eqb c 0x24 d)

-- a byte that is checked as that of an edge is that of the state of an edge
edge_byte : (c : ℕ) (s : Sign) → checked_as c ≡ command_byte s → state_byte (byte_state c) ≡ c
edge_byte c s e =
    cases (state_byte (byte_state c) ≡ c) (eqb c 0x24)
    (λ h. let is : c ≡ 0x24 = eqb-true c 0x24 h in rw is)
    (λ h. plain s (sym (checked_other c (eqb-false c 0x24 h)) ∙ e))
  where
    plain : (s : Sign) → c ≡ command_byte s → state_byte (byte_state c) ≡ c
    plain Positive is = rw is
    plain Negative is = rw is

-- and one that is checked as another is itself
other_byte : (c d : ℕ) → checked_as c ≡ d → (0x21 ≡ d → ⊥) → c ≡ d
other_byte c d e not-edge =
    cases (c ≡ d) (eqb c 0x24) (λ h. absurd (not-edge (sym (checked_24 c (eqb-true c 0x24 h)) ∙ e)))
    (λ h. sym (checked_other c (eqb-false c 0x24 h)) ∙ e)

-- the sign of an edge is that of its byte, but for 24
pub positive_byte : (c : ℕ) → checked_as c ≡ 0x21 → eqb c 0x22 ≡ false
positive_byte c e =
    ne_eqb c 0x22 (λ h.
    let z : ◌≡◌ {A = ℕ} 0x22 0x21 = sym (checked_other c (λ k. omega (arith, h, k)) ∙ h) ∙ e in omega arith)

pub negative_byte : (c : ℕ) → checked_as c ≡ 0x22 → c ≡ 0x22
negative_byte c e = other_byte c 0x22 e (λ h. omega arith)

-- ---- what each step means

module _ (n : ℕ) (part : List ℕ) where
  -- the part begins with the command of c
  pub record Begins (c : Amendment) : Type 0 where
    pub room : suc (operands_of_amendment c) ≤ length part
    pub spelled : part ≡ bytes_of_amendment c ++ drop (suc (operands_of_amendment c)) part
    pub permitted : Permitted n c

  abbrev pub MeansHere : ℕ → Result Step Fault → Type 0
  MeansHere at (Ok (Edge s a b)) = (checked_as (get_or part 0 0) ≡ command_byte s) × Begins (amend_edge (byte_state (get_or part 0 0)) a b)
  MeansHere at (Ok (Mask a)) = Begins (amend_mask a)
  MeansHere at (Ok Close) = (get_or part 0 0 ≡ 0xff) × (length part ≤ 1)
  MeansHere at (Err f) = AmendmentFaultAt n part at f

pub amendment_means : (n : ℕ) (part : List ℕ) (at : ℕ) → 0 < length part → MeansHere n part at (amendment_step n part at)
amendment_means n [] at some = absurd (omega arith)
amendment_means n (c ∷ rest) at some =
    go (amendment_step n (c ∷ rest) at) (step_means (earlier_of []) n (checked_as c ∷ rest) at (omega arith))
  where
    -- the byte, and what is behind it
    byte : {d : ℕ} {l : List ℕ} → checked_as c ∷ rest ≡ d ∷ l → checked_as c ≡ d
    byte e = ap (λ (x : List ℕ). get_or x 0 0) e

    operands : {d : ℕ} {l : List ℕ} → checked_as c ∷ rest ≡ d ∷ l → rest ≡ l
    operands e = ap (drop 1) e

    go : (x : Result Step Fault) → Means (earlier_of []) n (checked_as c ∷ rest) at x → MeansHere n (c ∷ rest) at x
    go (Ok (Edge s a b)) k = (
      byte k.spelled,
      record {
        room = k.room;
        spelled = ap₂ (λ (x : ℕ) (l : List ℕ). x ∷ l) (sym (edge_byte c s (byte k.spelled))) (operands k.spelled);
        permitted = k.allowed;
      },
    )
    go (Ok (Mask a)) k =
        record {
          room = k.room;
          spelled = ap₂ (λ (x : ℕ) (l : List ℕ). x ∷ l) (other_byte c 0x23 (byte k.spelled) (λ e. omega arith)) (operands k.spelled);
          permitted = k.allowed;
        }
    go (Ok Close) k = (other_byte c 0xff k.0 (λ e. omega arith), k.1)
    go (Err f) k = k

-- ---- a command is read as what it says

-- nothing given before is an entry that may stand
fresh : (n : ℕ) (e : Entry) → Allowed n e → Fresh n [] e
unfolding any
fresh n e h = record { allowed = h; new = refl }

pub amendment_read : (n : ℕ) (c : Amendment) (l : List ℕ) (at : ℕ) (cs : List Amendment) (next : Amendment → Result SignedGraph Fault) → Permitted n c
    → follow_amendment (amendment_step n (bytes_of_amendment c ++ l) at) (get_or (bytes_of_amendment c ++ l) 0 0) n cs next ≡ next c
amendment_read n (amend_edge (present Positive) a b) l at cs next h =
    ap (λ (x : Result Step Fault). follow_amendment x 0x21 n cs next) (step_of_law n [] (link Positive a b) l at (fresh n (link Positive a b) h))
amendment_read n (amend_edge (present Negative) a b) l at cs next h =
    ap (λ (x : Result Step Fault). follow_amendment x 0x22 n cs next) (step_of_law n [] (link Negative a b) l at (fresh n (link Negative a b) h))
amendment_read n (amend_edge absent a b) l at cs next h =
    ap (λ (x : Result Step Fault). follow_amendment x 0x24 n cs next) (step_of_law n [] (link Positive a b) l at (fresh n (link Positive a b) h))
amendment_read n (amend_mask a) l at cs next h =
    ap (λ (x : Result Step Fault). follow_amendment x 0x23 n cs next) (step_of_law n [] (mask a) l at (fresh n (mask a) h))
