-- Commands of any kind read one after the other: every list of them closes or has a fault. Assumes nothing.
use Prim.Native.Nat.{ℕ, zero, suc, ◌+◌, ◌≤◌, ◌<◌}
use native.Mathlib.Nat.{add-zero}
use native.Mathlib.Omega.{arith}
use mathlib.Core.Path.{◌≡◌, refl, sym, ap, ap₂, ◌∙◌, subst}
use mathlib.Core.List.{List, [], ◌∷◌, ◌++◌, append_assoc, append-nil}
use lib.ListN.{length, drop, length-append, length-drop}
use lib.Seq.{drop-drop}
use Rattle.commands.specs.declared.Fault.{Fault}

-- ---- the operands of a command are passed over

-- `from` reads on where it stands so far, with so many operands to be passed over, from a place on
module _ {S D : Type 0} (from : S → ℕ → List ℕ → ℕ → D) (skips : (s : S) (k x : ℕ) (rest : List ℕ) (at : ℕ) → from s (suc k) (x ∷ rest) at ≡ from s k rest (suc at)) where
  pub passed_over_law : (s : S) (k : ℕ) (part : List ℕ) (at : ℕ) → k ≤ length part → from s k part at ≡ from s 0 (drop k part) (at + k)
  passed_over_law s zero part at h = ap (from s 0 part) (sym (add-zero at))
  passed_over_law s (suc k) [] at h = absurd (omega arith)
  passed_over_law s (suc k) (x ∷ part) at h =
      let e : suc at + k ≡ at + suc k = omega arith in
      skips s k x part at ∙ passed_over_law s k part (suc at) (omega arith) ∙ ap (from s 0 (drop k part)) e

  -- behind the command byte at the front of a part
  pub behind_operands : (s : S) (k : ℕ) (part : List ℕ) (at : ℕ) → suc k ≤ length part
      → from s k (drop 1 part) (suc at) ≡ from s 0 (drop (suc k) part) (at + suc k)
  behind_operands s k part at room =
      let place : suc at + k ≡ at + suc k = omega arith in
      let count : 1 + k ≡ suc k = omega arith in
      passed_over_law s k (drop 1 part) (suc at) (omega (arith, length-drop 1 part))
      ∙ ap₂ (from s 0) (drop-drop k 1 part ∙ ap (λ (j : ℕ). drop j part) count) place

-- two readers that come to the same behind the operands come to the same
module _ {S T D : Type 0} (from : S → ℕ → List ℕ → ℕ → D) (skips : (s : S) (k x : ℕ) (rest : List ℕ) (at : ℕ) → from s (suc k) (x ∷ rest) at ≡ from s k rest (suc at))
    (other : T → ℕ → List ℕ → ℕ → D) (passes : (t : T) (k x : ℕ) (rest : List ℕ) (at : ℕ) → other t (suc k) (x ∷ rest) at ≡ other t k rest (suc at)) where
  pub past_alike : (s : S) (t : T) (k : ℕ) (part : List ℕ) (at : ℕ) → k ≤ length part → from s 0 (drop k part) (at + k) ≡ other t 0 (drop k part) (at + k)
      → from s k part at ≡ other t k part at
  past_alike s t k part at h e = passed_over_law from skips s k part at h ∙ e ∙ sym (passed_over_law other passes t k part at h)

-- ---- many commands

-- how commands are written: each has a byte and its operands, and they stand one behind the other
pub record Written (E : Type 0) : Type 0 where
  pub operands : E → ℕ
  pub bytes : E → List ℕ
  pub all : List E → List ℕ
  pub none : all [] ≡ []
  pub first : (e : E) (es : List E) → all (e ∷ es) ≡ bytes e ++ all es
  pub sized : (e : E) → length (bytes e) ≡ suc (operands e)

module _ {E : Type 0} (w : Written E) where
  abbrev operands : E → ℕ
  operands = w.operands

  abbrev bytes : E → List ℕ
  bytes = w.bytes

  abbrev written : List E → List ℕ
  written = w.all

  front : (e : E) (es : List E) (l : List ℕ) → written (e ∷ es) ++ l ≡ bytes e ++ (written es ++ l)
  front e es l = ap (λ (x : List ℕ). x ++ l) (w.first e es) ∙ append_assoc (bytes e) (written es) l

  -- the place behind a command more
  further : (e : E) (es : List E) (at : ℕ) → at + suc (operands e) + length (written es) ≡ at + length (written (e ∷ es))
  further e es at = omega (arith, ap length (w.first e es), length-append (bytes e) (written es), w.sized e)

  -- commands may stand behind others where `Ok` says so
  module _ (Ok : List E → Type 0) where
    -- reading goes past commands that it goes past one by one
    pub past : {D : Type 0} (from : List E → List ℕ → ℕ → D)
        → ((es : List E) (e : E) (more : List E) (l : List ℕ) (at : ℕ) → Ok (es ++ e ∷ more)
        → from es (bytes e ++ l) at ≡ from (es ++ e ∷ []) l (at + suc (operands e)))
        → (more es : List E) (part : List ℕ) (at : ℕ) → Ok (es ++ more)
        → from es (written more ++ part) at ≡ from (es ++ more) part (at + length (written more))
    past from reads [] es part at ok =
        ap₂ (λ (x : List E) (l : List ℕ). from x (l ++ part) at) (sym (append-nil es)) w.none
        ∙ ap (from (es ++ []) part) (sym (ap (λ (l : List ℕ). at + length l) w.none ∙ add-zero at))
    past from reads (e ∷ more) es part at ok =
        let same : (es ++ e ∷ []) ++ more ≡ es ++ e ∷ more = append_assoc es (e ∷ []) more in
        ap (λ (l : List ℕ). from es l at) (front e more part) ∙ reads es e more (written more ++ part) at ok
        ∙ past from reads more (es ++ e ∷ []) part (at + suc (operands e)) (subst Ok (sym same) ok)
        ∙ ap₂ (λ (x : List E) (i : ℕ). from x part i) same (further e more at)

    -- and a command has a fault where `Faulty` says so
    module _ (Faulty : List E → List ℕ → ℕ → Fault → Type 0) where
      -- the command at the front of a part is one of these, closes the list, or has a fault
      pub data Turn (es : List E) (part : List ℕ) (at : ℕ) : Type 0 where
        gives : (e : E) → suc (operands e) ≤ length part → part ≡ bytes e ++ drop (suc (operands e)) part → Ok (es ++ e ∷ []) → Turn es part at
        closes : part ≡ 0xff ∷ [] → Turn es part at
        fails : (f : Fault) → Faulty es part at f → Turn es part at

      -- a part closes behind some commands, or has a fault behind some
      pub data Ending (es : List E) (part : List ℕ) (at : ℕ) : Type 0 where
        closing : (more : List E) → Ok (es ++ more) → part ≡ written more ++ 0xff ∷ [] → Ending es part at
        failing : (more : List E) (rest : List ℕ) (f : Fault) → Ok (es ++ more) → part ≡ written more ++ rest
            → Faulty (es ++ more) rest (at + length (written more)) f → Ending es part at

      module _ (es : List E) (part : List ℕ) (at : ℕ) where
        at_once : (l : List ℕ) → part ≡ l → part ≡ written [] ++ l
        at_once l e = e ∙ ap (λ (x : List ℕ). x ++ l) (sym w.none)

        fails_here : Ok es → (f : Fault) → Faulty es part at f → Ending es part at
        fails_here ok f h =
            failing [] part f (subst Ok (sym (append-nil es)) ok) (at_once part refl)
            (subst (λ (x : List E). Faulty x part (at + length (written [])) f) (sym (append-nil es))
            (subst (λ (i : ℕ). Faulty es part i f) (sym (ap (λ (l : List ℕ). at + length l) w.none ∙ add-zero at)) h))

        goes_on : (e : E) → part ≡ bytes e ++ drop (suc (operands e)) part
            → Ending (es ++ e ∷ []) (drop (suc (operands e)) part) (at + suc (operands e)) → Ending es part at
        goes_on e spelled (closing more ok h) =
            closing (e ∷ more) (subst Ok (append_assoc es (e ∷ []) more) ok)
            (spelled ∙ ap (λ (l : List ℕ). bytes e ++ l) h ∙ sym (front e more (0xff ∷ [])))
        goes_on e spelled (failing more rest f ok h k) =
            failing (e ∷ more) rest f (subst Ok (append_assoc es (e ∷ []) more) ok)
            (spelled ∙ ap (λ (l : List ℕ). bytes e ++ l) h ∙ sym (front e more rest))
            (subst (λ (x : List E). Faulty x rest (at + length (written (e ∷ more))) f) (append_assoc es (e ∷ []) more)
            (subst (λ (i : ℕ). Faulty ((es ++ e ∷ []) ++ more) rest i f) (further e more at) k))

      -- every part ends so
      pub ending : ((es : List E) (part : List ℕ) (at : ℕ) → Ok es → Turn es part at) → (m : ℕ) (part : List ℕ) → length part < m
          → (es : List E) (at : ℕ) → Ok es → Ending es part at
      ending turn zero part h es at ok = absurd (omega arith)
      ending turn (suc m) part h es at ok = go (turn es part at ok) (ending turn m)
        where
          go : Turn es part at → ((part : List ℕ) → length part < m → (es : List E) (at : ℕ) → Ok es → Ending es part at) → Ending es part at
          go (gives e room spelled k) shorter =
              let less : length (drop (suc (operands e)) part) < m = omega (arith, length-drop (suc (operands e)) part) in
              goes_on es part at e spelled (shorter (drop (suc (operands e)) part) less (es ++ e ∷ []) (at + suc (operands e)) k)
          go (closes e) shorter = closing [] (subst Ok (sym (append-nil es)) ok) (at_once es part at (0xff ∷ []) e)
          go (fails f k) shorter = fails_here es part at ok f k
