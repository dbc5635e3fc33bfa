-- What a command does, by its bytes, and that it is refused exactly for a fault of the table. Assumes nothing.
use Prim.Native.Nat.{ℕ, zero, suc, ◌+◌, ◌≤◌, ◌<◌}
use native.Mathlib.Nat.{add-zero}
use native.Mathlib.Numerals.{add-one}
use native.Mathlib.Omega.{arith}
use mathlib.Core.Path.{◌≡◌, refl, sym, ap, ap₂, ◌∙◌, subst}
use mathlib.Core.Logic.{◌≢◌, ◌⊎◌, inl, inr}
use mathlib.Core.Bool.{Bool, true, false, ◌||◌}
use mathlib.Core.List.{List, [], ◌∷◌, ◌++◌}
use lib.Dec.{leb, ltb, eqb}
use lib.ListN.{length, get_or, drop, length-drop, drop_of_length-le}
use lib.Seq.{drop-cons, get_or-drop}
use borrow.Author.Tests.{ltb-true, ltb-false, leb-true, le-leb, leb-false, eqb-true, eqb-false, lt-ltb, le-ltb, lt-leb, eq-eqb, ne_eqb}
use Rattle.vertex_set.specs.Ranges.{gather}
use Rattle.vertex_set.specs.Alternatives.{provided, ◌or_else◌}
use Rattle.vertex_set.proofs.Booleans.{or_left, or_right, or_cases, neither_left, neither_right}
use Rattle.vertex_set.proofs.Alternatives.{applies, passes_by, first_of}
use Rattle.std.specs.Prelude.{Result, Ok, Err}
use Rattle.commands.specs.declared.Sign.{Sign}
use Rattle.commands.specs.declared.Sign.TheVariants.{Positive, Negative}
use Rattle.commands.specs.declared.Fault.{Fault}
use Rattle.commands.specs.declared.Fault.TheVariants.{NoOpening, TooManyVertices, UnknownCommand, Truncated, OutOfRange, Loop, Repeated, MaskedTwice, Unclosed, TrailingBytes}
use Rattle.commands.specs.declared.Step.{Step}
use Rattle.commands.specs.declared.Step.TheVariants.{Edge, Mask, Close}
use Rattle.commands.specs.Entries.{Entry, link, mask, given, masked, Earlier, earlier_of, command_byte, bytes_of, operands_of, behind_byte, first_operand, second_operand}
use Rattle.commands.specs.Faults.{EdgeByte, GivesEdge, MaskByte, GivesMask, FaultAt}
use Rattle.commands.specs.Steps.{Command, gives, gives_mask, closes, unknown, command_of, edge_step, mask_step, step_by, command_step}
use Rattle.commands.proofs.Entries.{Allowed, Fresh}

-- ---- the command byte

abbrev ByteOf : ℕ → Command → Type 0
ByteOf c (gives s) = c ≡ command_byte s
ByteOf c gives_mask = c ≡ 0x23
ByteOf c closes = c ≡ 0xff
ByteOf c unknown = (c ≢ 0x21) × (c ≢ 0x22) × (c ≢ 0x23) × (c ≢ 0xff)

byte_of : (c : ℕ) → ByteOf c (command_of c)
unfolding command_of
byte_of c =
    first_of (ByteOf c) (eqb c 0x21) (gives Positive) _ (eqb-true c 0x21) (λ x.
    first_of (ByteOf c) (eqb c 0x22) (gives Negative) _ (eqb-true c 0x22) (λ y.
    first_of (ByteOf c) (eqb c 0x23) gives_mask _ (eqb-true c 0x23) (λ z.
    first_of (ByteOf c) (eqb c 0xff) closes _ (eqb-true c 0xff) (λ w.
    (eqb-false c 0x21 x, eqb-false c 0x22 y, eqb-false c 0x23 z, eqb-false c 0xff w)))))

-- ---- the front of a list

-- a list is its first k bytes and the rest
front_from : (l : List ℕ) (k i : ℕ) → i + k ≤ length l → drop i l ≡ gather k i (λ j. get_or l j 0 ∷ []) ++ drop (i + k) l
unfolding gather
front_from l zero i h = ap (λ (j : ℕ). drop j l) (sym (add-zero i))
front_from l (suc k) i h =
    let e : suc i + k ≡ i + suc k = omega arith in
    drop-cons l i 0 (omega arith) ∙ ap (λ (x : List ℕ). get_or l i 0 ∷ x) (front_from l k (suc i) (omega arith))
    ∙ ap (λ (j : ℕ). gather (suc k) i (λ j. get_or l j 0 ∷ []) ++ drop j l) e

pub front : (l : List ℕ) (k : ℕ) → k ≤ length l → l ≡ gather k 0 (λ j. get_or l j 0 ∷ []) ++ drop k l
front l k h =
    let e : 0 + k ≡ k = omega arith in
    front_from l k 0 (omega arith) ∙ ap (λ (j : ℕ). gather k 0 (λ j. get_or l j 0 ∷ []) ++ drop j l) e

-- a list of one byte
pub one : (l : List ℕ) → 0 < length l → length l ≤ 1 → l ≡ get_or l 0 0 ∷ []
unfolding gather
one l h k = front l 1 h ∙ ap (λ (x : List ℕ). get_or l 0 0 ∷ x) (drop_of_length-le l k)

-- ---- what each step means: an entry, the close, or a fault of the table

-- the step that gives an entry
abbrev pub step_of : Entry → Result Step Fault
step_of (link s a b) = Ok (Edge s a b)
step_of (mask a) = Ok (Mask a)

-- an entry says nothing that was said before
abbrev pub New : Earlier → Entry → Type 0
New earlier (link s a b) = earlier.joined a b ≡ false
New earlier (mask a) = earlier.masked a ≡ false

pub fresh_of : {n : ℕ} (es : List Entry) (e : Entry) → Allowed n e → New (earlier_of es) e → Fresh n es e
fresh_of es (link s a b) h k = record { allowed = h; new = k }
fresh_of es (mask a) h k = record { allowed = h; new = k }

module _ (earlier : Earlier) (n : ℕ) (part : List ℕ) where
  -- the part begins with the command of e, which may stand there
  pub record Given (e : Entry) : Type 0 where
    pub room : suc (operands_of e) ≤ length part
    pub spelled : part ≡ bytes_of e ++ drop (suc (operands_of e)) part
    pub allowed : Allowed n e
    pub new : New earlier e

  abbrev pub Means : ℕ → Result Step Fault → Type 0
  Means at (Ok (Edge s a b)) = Given (link s a b)
  Means at (Ok (Mask a)) = Given (mask a)
  Means at (Ok Close) = (get_or part 0 0 ≡ 0xff) × (length part ≤ 1)
  Means at (Err f) = FaultAt earlier n part at f

  byte_cases : (s : Sign) → get_or part 0 0 ≡ command_byte s → EdgeByte part
  byte_cases Positive e = inl e
  byte_cases Negative e = inr e

  edge_means : (s : Sign) (at : ℕ) → get_or part 0 0 ≡ command_byte s → Means at (edge_step earlier.joined n s (behind_byte part) at)
  unfolding edge_step gather
  edge_means s at byte =
      first_of (Means at) (ltb (length behind) 2) (Err (Truncated at)) _
      (λ short. (refl, inl (byte_cases s byte, ltb-true (length behind) 2 short)))
      (λ long.
      let whole : GivesEdge part = record { byte = byte_cases s byte; whole = ltb-false (length behind) 2 long } in
      let room : 3 ≤ length part = omega (arith, ltb-false (length behind) 2 long, length-drop 1 part) in
      first_of (Means at) (leb n a || leb n b) (Err (OutOfRange at)) _
      (λ high.
      (refl, inl (whole, or_cases ((n ≤ a) ⊎ (n ≤ b)) (leb n a) (leb n b) high (λ x. inl (leb-true n a x)) (λ x. inr (leb-true n b x)))))
      (λ low.
      let la : a < n = leb-false n a (neither_left (leb n a) (leb n b) low) in
      let lb : b < n = leb-false n b (neither_right (leb n a) (leb n b) low) in
      first_of (Means at) (eqb a b) (Err (Loop at)) _ (λ same. (refl, whole, la, eqb-true a b same))
      (λ two.
      first_of (Means at) (earlier.joined a b) (Err (Repeated at)) _ (λ old. (refl, whole, la, lb, eqb-false a b two, old))
      (λ new.
      record {
        room = room;
        spelled = cc (front part 3 room, byte, get_or-drop 1 part 0 0, get_or-drop 1 part 1 0);
        allowed = (la, lb, eqb-false a b two);
        new = new;
      }))))
    where
      behind : List ℕ
      behind = behind_byte part

      a : ℕ
      a = first_operand part

      b : ℕ
      b = second_operand part

  mask_means : (at : ℕ) → MaskByte part → Means at (mask_step earlier.masked n (behind_byte part) at)
  unfolding mask_step gather
  mask_means at byte =
      first_of (Means at) (ltb (length behind) 1) (Err (Truncated at)) _
      (λ short. (refl, inr (byte, ltb-true (length behind) 1 short)))
      (λ long.
      let whole : GivesMask part = record { byte = byte; whole = ltb-false (length behind) 1 long } in
      let room : 2 ≤ length part = omega (arith, ltb-false (length behind) 1 long, length-drop 1 part) in
      first_of (Means at) (leb n a) (Err (OutOfRange at)) _ (λ high. (refl, inr (whole, leb-true n a high)))
      (λ low.
      first_of (Means at) (earlier.masked a) (Err (MaskedTwice at)) _ (λ old. (refl, whole, leb-false n a low, old))
      (λ new.
      record {
        room = room;
        spelled = cc (front part 2 room, byte, get_or-drop 1 part 0 0);
        allowed = leb-false n a low;
        new = new;
      })))
    where
      behind : List ℕ
      behind = behind_byte part

      a : ℕ
      a = first_operand part

  pub step_means : (at : ℕ) → 0 < length part → Means at (command_step earlier n part at)
  unfolding command_step step_by
  step_means at some = go (command_of (get_or part 0 0)) (byte_of (get_or part 0 0))
    where
      go : (m : Command) → ByteOf (get_or part 0 0) m → Means at (step_by m earlier n part at)
      go (gives s) e = edge_means s at e
      go gives_mask e = mask_means at e
      go closes e =
          first_of (Means at) (ltb 1 (length part)) (Err (TrailingBytes (suc at))) (Ok Close)
          (λ h. (refl, e, ltb-true 1 (length part) h)) (λ h. (e, ltb-false 1 (length part) h))
      go unknown e = (refl, some, e.0, e.1, e.2, e.3)

  pub entry_given : (at : ℕ) (e : Entry) → 0 < length part → command_step earlier n part at ≡ step_of e → Given e
  entry_given at (link s a b) some e = subst (Means at) e (step_means at some)
  entry_given at (mask a) some e = subst (Means at) e (step_means at some)

-- ---- the checks of an edge, one after the other

module _ (earlier : ℕ → ℕ → Bool) (n : ℕ) (s : Sign) (behind : List ℕ) (at : ℕ) where
  abbrev a : ℕ
  a = get_or behind 0 0

  abbrev b : ℕ
  b = get_or behind 1 0

  pub fault_4 : length behind < 2 → Err (Truncated at) ≡ edge_step earlier n s behind at
  unfolding edge_step
  fault_4 h = sym (applies (ltb (length behind) 2) _ _ (lt-ltb (length behind) 2 h))

  module _ (long : 2 ≤ length behind) where
    past_4 : ltb (length behind) 2 ≡ false
    past_4 = le-ltb (length behind) 2 long

    pub fault_5 : (leb n a || leb n b) ≡ true → Err (OutOfRange at) ≡ edge_step earlier n s behind at
    unfolding edge_step
    fault_5 h = sym (passes_by (ltb (length behind) 2) _ _ past_4 ∙ applies (leb n a || leb n b) _ _ h)

    module _ (la : a < n) (lb : b < n) where
      past_5 : (leb n a || leb n b) ≡ false
      past_5 = ap₂ (λ (x y : Bool). x || y) (lt-leb n a la) (lt-leb n b lb)

      pub fault_6 : a ≡ b → Err (Loop at) ≡ edge_step earlier n s behind at
      unfolding edge_step
      fault_6 e =
          sym (passes_by (ltb (length behind) 2) _ _ past_4 ∙ passes_by (leb n a || leb n b) _ _ past_5
          ∙ applies (eqb a b) _ _ (eq-eqb a b e))

      module _ (two : a ≢ b) where
        past_6 : edge_step earlier n s behind at ≡ (provided (earlier a b) (Err (Repeated at)) or_else Ok (Edge s a b))
        unfolding edge_step
        past_6 =
            passes_by (ltb (length behind) 2) _ _ past_4 ∙ passes_by (leb n a || leb n b) _ _ past_5
            ∙ passes_by (eqb a b) _ _ (ne_eqb a b two)

        pub fault_7 : earlier a b ≡ true → Err (Repeated at) ≡ edge_step earlier n s behind at
        fault_7 e = sym (past_6 ∙ applies (earlier a b) _ _ e)

        pub no_fault : earlier a b ≡ false → Ok (Edge s a b) ≡ edge_step earlier n s behind at
        no_fault e = sym (past_6 ∙ passes_by (earlier a b) _ _ e)

-- ---- the checks of a mask

module _ (earlier : ℕ → Bool) (n : ℕ) (behind : List ℕ) (at : ℕ) where
  abbrev vertex : ℕ
  vertex = get_or behind 0 0

  pub mask_4 : length behind < 1 → Err (Truncated at) ≡ mask_step earlier n behind at
  unfolding mask_step
  mask_4 h = simp (lt-ltb _ _ h)

  module _ (long : 1 ≤ length behind) where
    pub mask_5 : n ≤ vertex → Err (OutOfRange at) ≡ mask_step earlier n behind at
    unfolding mask_step
    mask_5 h = simp (le-ltb _ _ long, le-leb _ _ h)

    module _ (low : vertex < n) where
      pub fault_15 : earlier vertex ≡ true → Err (MaskedTwice at) ≡ mask_step earlier n behind at
      unfolding mask_step
      fault_15 e = simp (le-ltb _ _ long, lt-leb _ _ low, e)

      pub no_mask_fault : earlier vertex ≡ false → Ok (Mask vertex) ≡ mask_step earlier n behind at
      unfolding mask_step
      no_mask_fault e = simp (le-ltb _ _ long, lt-leb _ _ low, e)

-- ---- the commands

module _ (earlier : Earlier) (n : ℕ) (part : List ℕ) (at : ℕ) where
  abbrev c : ℕ
  c = get_or part 0 0

  by_command : (m : Command) → command_of c ≡ m → step_by m earlier n part at ≡ command_step earlier n part at
  unfolding command_step
  by_command m e = ap (λ (x : Command). step_by x earlier n part at) (sym e)

  pub at_21 : c ≡ 0x21 → edge_step earlier.joined n Positive (behind_byte part) at ≡ command_step earlier n part at
  unfolding step_by command_of
  at_21 e = by_command (gives Positive) (applies (eqb c 0x21) _ _ (eq-eqb c 0x21 e))

  pub at_22 : c ≡ 0x22 → edge_step earlier.joined n Negative (behind_byte part) at ≡ command_step earlier n part at
  unfolding step_by command_of
  at_22 e =
      by_command (gives Negative)
      (passes_by (eqb c 0x21) _ _ (ne_eqb c 0x21 (λ x. omega arith)) ∙ applies (eqb c 0x22) _ _ (eq-eqb c 0x22 e))

  pub at_23 : c ≡ 0x23 → mask_step earlier.masked n (behind_byte part) at ≡ command_step earlier n part at
  unfolding step_by command_of
  at_23 e =
      by_command gives_mask
      (passes_by (eqb c 0x21) _ _ (ne_eqb c 0x21 (λ x. omega arith)) ∙ passes_by (eqb c 0x22) _ _ (ne_eqb c 0x22 (λ x. omega arith))
      ∙ applies (eqb c 0x23) _ _ (eq-eqb c 0x23 e))

  at_ff : c ≡ 0xff → (provided (ltb 1 (length part)) (Err (TrailingBytes (suc at))) or_else Ok Close) ≡ command_step earlier n part at
  unfolding step_by command_of
  at_ff e =
      by_command closes
      (passes_by (eqb c 0x21) _ _ (ne_eqb c 0x21 (λ x. omega arith)) ∙ passes_by (eqb c 0x22) _ _ (ne_eqb c 0x22 (λ x. omega arith))
      ∙ passes_by (eqb c 0x23) _ _ (ne_eqb c 0x23 (λ x. omega arith)) ∙ applies (eqb c 0xff) _ _ (eq-eqb c 0xff e))

  pub fault_9 : c ≡ 0xff → 1 < length part → Err (TrailingBytes (at + 1)) ≡ command_step earlier n part at
  fault_9 e h =
      ap (λ (i : ℕ). Err (TrailingBytes i)) (add-one at) ∙ sym (applies (ltb 1 (length part)) _ _ (lt-ltb 1 (length part) h)) ∙ at_ff e

  pub closed : c ≡ 0xff → length part ≤ 1 → Ok Close ≡ command_step earlier n part at
  closed e h = sym (passes_by (ltb 1 (length part)) _ _ (le-ltb 1 (length part) h)) ∙ at_ff e

  pub fault_3 : c ≢ 0x21 → c ≢ 0x22 → c ≢ 0x23 → c ≢ 0xff → Err (UnknownCommand at) ≡ command_step earlier n part at
  unfolding step_by command_of
  fault_3 x y z w =
      by_command unknown
      (passes_by (eqb c 0x21) _ _ (ne_eqb c 0x21 x) ∙ passes_by (eqb c 0x22) _ _ (ne_eqb c 0x22 y)
      ∙ passes_by (eqb c 0x23) _ _ (ne_eqb c 0x23 z) ∙ passes_by (eqb c 0xff) _ _ (ne_eqb c 0xff w))

-- ---- a command is read as the entry that it gives

pub step_of_law : (n : ℕ) (es : List Entry) (e : Entry) (l : List ℕ) (at : ℕ) → Fresh n es e → command_step (earlier_of es) n (bytes_of e ++ l) at ≡ step_of e
step_of_law n es (link Positive a b) l at f =
    sym (no_fault (given es) n Positive (a ∷ b ∷ l) at (omega arith) f.allowed.0 f.allowed.1 f.allowed.2 f.new
    ∙ at_21 (earlier_of es) n (command_byte Positive ∷ a ∷ b ∷ l) at refl)
step_of_law n es (link Negative a b) l at f =
    sym (no_fault (given es) n Negative (a ∷ b ∷ l) at (omega arith) f.allowed.0 f.allowed.1 f.allowed.2 f.new
    ∙ at_22 (earlier_of es) n (command_byte Negative ∷ a ∷ b ∷ l) at refl)
step_of_law n es (mask a) l at f =
    sym (no_mask_fault (masked es) n (a ∷ l) at (omega arith) f.allowed f.new ∙ at_23 (earlier_of es) n (0x23 ∷ a ∷ l) at refl)

-- ---- a fault of the table is what the step says

module _ (earlier : Earlier) (n : ℕ) (part : List ℕ) (at : ℕ) where
  abbrev joined : ℕ → ℕ → Bool
  joined = earlier.joined

  -- from the checks of an edge to the command
  edge_says : (x : Result Step Fault) → EdgeByte part → ((s : Sign) → x ≡ edge_step joined n s (behind_byte part) at) → x ≡ command_step earlier n part at
  edge_says x (inl e) h = h Positive ∙ at_21 earlier n part at e
  edge_says x (inr e) h = h Negative ∙ at_22 earlier n part at e

  pub fault_says : (f : Fault) → 0 < length part → FaultAt earlier n part at f → Err f ≡ command_step earlier n part at
  fault_says (UnknownCommand i) some h =
      ap (λ (k : ℕ). Err (UnknownCommand k)) h.0 ∙ fault_3 earlier n part at h.2 h.3 h.4 h.5
  fault_says (Truncated i) some h = ap (λ (k : ℕ). Err (Truncated k)) h.0 ∙ short h.1
    where
      short : (EdgeByte part × (length (behind_byte part) < 2)) ⊎ (MaskByte part × (length (behind_byte part) < 1))
          → Err (Truncated at) ≡ command_step earlier n part at
      short (inl k) = edge_says (Err (Truncated at)) k.0 (λ s. fault_4 joined n s (behind_byte part) at k.1)
      short (inr k) = mask_4 earlier.masked n (behind_byte part) at k.1 ∙ at_23 earlier n part at k.0
  fault_says (OutOfRange i) some h = ap (λ (k : ℕ). Err (OutOfRange k)) h.0 ∙ high h.1
    where
      either : (n ≤ first_operand part) ⊎ (n ≤ second_operand part) → (leb n (first_operand part) || leb n (second_operand part)) ≡ true
      either (inl x) = or_left (leb n (first_operand part)) (leb n (second_operand part)) (le-leb n (first_operand part) x)
      either (inr x) = or_right (leb n (first_operand part)) (leb n (second_operand part)) (le-leb n (second_operand part) x)

      high : (GivesEdge part × ((n ≤ first_operand part) ⊎ (n ≤ second_operand part))) ⊎ (GivesMask part × (n ≤ first_operand part))
          → Err (OutOfRange at) ≡ command_step earlier n part at
      high (inl k) =
          edge_says (Err (OutOfRange at)) k.0.byte (λ s. fault_5 joined n s (behind_byte part) at k.0.whole (either k.1))
      high (inr k) = mask_5 earlier.masked n (behind_byte part) at k.0.whole k.1 ∙ at_23 earlier n part at k.0.byte
  fault_says (Loop i) some h =
      ap (λ (k : ℕ). Err (Loop k)) h.0
      ∙ edge_says (Err (Loop at)) h.1.byte (λ s.
      fault_6 joined n s (behind_byte part) at h.1.whole h.2 (subst (λ (x : ℕ). x < n) h.3 h.2) h.3)
  fault_says (Repeated i) some h =
      ap (λ (k : ℕ). Err (Repeated k)) h.0
      ∙ edge_says (Err (Repeated at)) h.1.byte (λ s. fault_7 joined n s (behind_byte part) at h.1.whole h.2 h.3 h.4 h.5)
  fault_says (MaskedTwice i) some h =
      ap (λ (k : ℕ). Err (MaskedTwice k)) h.0
      ∙ fault_15 earlier.masked n (behind_byte part) at h.1.whole h.2 h.3 ∙ at_23 earlier n part at h.1.byte
  fault_says (Unclosed i) some h = absurd (omega (arith, h.1))
  fault_says (TrailingBytes i) some h =
      ap (λ (k : ℕ). Err (TrailingBytes k)) (h.0 ∙ sym (add-one at)) ∙ fault_9 earlier n part at h.1 h.2
  fault_says NoOpening some h = absurd h
  fault_says TooManyVertices some h = absurd h

module _ (earlier : Earlier) (n at : ℕ) where
  -- at the end of the list the only fault is that it ends
  pub at_end : (f : Fault) → FaultAt earlier n [] at f → Unclosed at ≡ f
  at_end (Unclosed i) h = ap Unclosed (sym h.0)
  at_end (UnknownCommand i) h = absurd (omega (arith, h.1))
  at_end (Truncated i) h = absurd (no_byte h.1)
    where
      no_byte : (EdgeByte [] × (0 < 2)) ⊎ (MaskByte [] × (0 < 1)) → ⊥
      no_byte (inl (inl e, k)) = omega arith
      no_byte (inl (inr e, k)) = omega arith
      no_byte (inr k) = omega (arith, k.0)
  at_end (OutOfRange i) h = absurd (no_command h.1)
    where
      no_command : (GivesEdge [] × ((n ≤ 0) ⊎ (n ≤ 0))) ⊎ (GivesMask [] × (n ≤ 0)) → ⊥
      no_command (inl k) = omega (arith, k.0.whole)
      no_command (inr k) = omega (arith, k.0.whole)
  at_end (Loop i) h = absurd (omega (arith, h.1.whole))
  at_end (Repeated i) h = absurd (omega (arith, h.1.whole))
  at_end (MaskedTwice i) h = absurd (omega (arith, h.1.whole))
  at_end (TrailingBytes i) h = absurd (omega (arith, h.2))
  at_end NoOpening h = absurd h
  at_end TooManyVertices h = absurd h
