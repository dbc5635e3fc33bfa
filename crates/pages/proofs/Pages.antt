-- Pages, for any strictly sorted list of items with records of one width: what one page does, and what is due at its next
-- bookmark. Assumes nothing.
use Prim.Native.Nat.{ℕ, zero, suc, ◌+◌, ◌*◌, ◌/◌, ◌≤◌, ◌<◌, min}
use native.Mathlib.Nat.{mul-zero, zero-min, min-zero, suc-min-suc}
use native.Mathlib.Omega.{arith}
use mathlib.Core.Path.{◌≡◌, refl, sym, ap, ap₂, ◌∙◌, subst}
use mathlib.Core.Bool.{Bool, true, false}
use mathlib.Core.List.{List, [], ◌∷◌, ◌++◌, append_assoc}
use lib.Dec.{leb}
use lib.ListN.{length, take, drop, length-append, length-take, take-append-drop}
use lib.Seq.{drop_at, take_at}
use borrow.Author.Tests.{leb-true, leb-false}
use Rattle.vertex_set.specs.Lists.{All, select, Sorted}
use Rattle.vertex_set.proofs.Booleans.{cases}
use Rattle.vertex_set.proofs.Lists.{all_imp}
use Rattle.vertex_set.specs.Order.{precedes}
use Rattle.vertex_set.proofs.Order.{irreflexive, transitive, asymmetric}
use Rattle.pages.specs.declared.Bookmark.{Bookmark}
use Rattle.pages.specs.declared.Bookmark.TheVariants.{Start, After}
use Rattle.pages.specs.declared.End.TheVariants.{Finished, More}
use Rattle.pages.specs.declared.Page.{Page}
use Rattle.pages.specs.Pages.{finished_if, due, next_mark, records, fitting, answer, filled}

-- ---- lists

module _ {A : Type 0} where
  -- no more than there are
  pub take_min : (n : ℕ) (l : List A) → take (min n (length l)) l ≡ take n l
  take_min zero l = rw zero-min
  take_min (suc n) [] = rw min-zero
  take_min (suc n) (x ∷ l) = rw suc-min-suc (ap {B = List A} (λ r. x ∷ r) (take_min n l))

  drop_min : (n : ℕ) (l : List A) → drop (min n (length l)) l ≡ drop n l
  drop_min zero l = rw zero-min
  drop_min (suc n) [] = rw min-zero
  drop_min (suc n) (x ∷ l) = rw suc-min-suc (drop_min n l)

  module _ (f : A → Bool) where
    selects : (x : A) (l : List A) → f x ≡ true → select f (x ∷ l) ≡ x ∷ select f l
    unfolding select
    selects x l e = rw (e, select)

    skips : (x : A) (l : List A) → f x ≡ false → select f (x ∷ l) ≡ select f l
    unfolding select
    skips x l e = rw (e, select)

    pub selects_all : (l : List A) → All (λ x. f x ≡ true) l → select f l ≡ l
    unfolding select
    selects_all [] h = refl
    selects_all (x ∷ l) h = selects x l h.0 ∙ ap {B = List A} (λ r. x ∷ r) (selects_all l h.1)

-- ---- records

module _ {X : Type 0} (encode : X → List ℕ) where
  pub records_append : (a b : List X) → records encode (a ++ b) ≡ records encode a ++ records encode b
  unfolding records
  records_append [] b = refl
  records_append (x ∷ a) b =
      ap (λ (r : List ℕ). encode x ++ r) (records_append a b) ∙ sym (append_assoc (encode x) (records encode a) (records encode b))

  module _ (w : ℕ) (wide : (x : X) → length (encode x) ≡ w) where
    pub length_records : (l : List X) → length (records encode l) ≡ w * length l
    unfolding records
    length_records [] = sym (mul-zero w)
    length_records (x ∷ l) =
        length-append (encode x) (records encode l) ∙ ap₂ (λ (a b : ℕ). a + b) (wide x) (length_records l) ∙ omega arith

-- ---- what is due

module _ {X : Type 0} (set : X → ℕ) where
  abbrev pub before : X → X → Bool
  before x y = precedes (set x) (set y)

  -- what is due at a bookmark is the end of the list
  due_end : (m : Bookmark) (l : List X) → Sorted before l → (xs : List X) × (l ≡ xs ++ due set m l)
  unfolding due select
  due_end Start l h = ([], refl)
  due_end (After s) [] h = ([], refl)
  due_end (After s) (x ∷ l) h = go (due_end (After s) l h.1)
    where
      f : X → Bool
      f y = precedes s (set y)

      go : (xs : List X) × (l ≡ xs ++ select f l) → (xs : List X) × (x ∷ l ≡ xs ++ select f (x ∷ l))
      go r =
          cases ((xs : List X) × (x ∷ l ≡ xs ++ select f (x ∷ l))) (f x)
          (λ e. ([], sym (selects_all f (x ∷ l) (e, all_imp _ (λ y. f y ≡ true) (λ y. transitive s (set x) (set y) e) l h.0))))
          (λ e. (x ∷ r.0, ap {B = List X} (λ t. x ∷ t) r.1 ∙ ap (λ (t : List X). (x ∷ r.0) ++ t) (sym (skips f x l e))))

  -- behind one of the items those that follow it are due
  due_after : (a : List X) (x : X) (b : List X) → Sorted before (a ++ x ∷ b) → select (before x) (a ++ x ∷ b) ≡ b
  due_after [] x b h = skips (before x) x b (irreflexive (set x)) ∙ selects_all (before x) b h.0
  due_after (y ∷ a) x b h = skips (before x) y (a ++ x ∷ b) (asymmetric (set y) (set x) (follows a h.0)) ∙ due_after a x b h.1
    where
      follows : (a : List X) → All (λ z. before y z ≡ true) (a ++ x ∷ b) → before y x ≡ true
      follows [] k = k.0
      follows (z ∷ a) k = follows a k.1

  module _ (l : List X) (sorted : Sorted before l) where
    -- behind the first of those due, the rest are due
    due_behind : (xs t ys : List X) (m : Bookmark) → l ≡ xs ++ (t ++ ys) → due set m l ≡ t ++ ys → due set (next_mark set m t) l ≡ ys
    unfolding due next_mark
    due_behind xs [] ys m e d = d
    due_behind xs (x ∷ t) ys m e d =
        due_behind (xs ++ x ∷ []) t ys (After (set x)) (e ∙ sym (append_assoc xs (x ∷ []) (t ++ ys)))
        (ap (select (before x)) e ∙ due_after xs x (t ++ ys) (subst (Sorted before) e sorted))

    -- so at the bookmark after c of those due, or after all of them, these are due no more
    due_next : (m : Bookmark) (c : ℕ) → due set (next_mark set m (take c (due set m l))) l ≡ drop c (due set m l)
    due_next m c =
        let ys : List X = due set m l in
        let split : take c ys ++ drop c ys ≡ ys = take-append-drop c ys in
        let at = due_end m l sorted in
        due_behind at.0 (take c ys) (drop c ys) m (at.1 ∙ ap (λ (t : List X). at.0 ++ t) (sym split)) (sym split)

-- ---- one page

pub finished_if_law : (a b : ℕ) → finished_if (leb a b) ≡ More → b < a
finished_if_law a b e = leb-false a b (go (leb a b) e)
  where
    go : (t : Bool) → finished_if t ≡ More → t ≡ false
    go true q = absurd (let z : ◌≡◌ {A = ℕ} 0 1 = cc in omega arith)
    go false q = refl

pub none_left : (a b : ℕ) → finished_if (leb a b) ≡ Finished → a ≤ b
none_left a b e = leb-true a b (go (leb a b) e)
  where
    go : (t : Bool) → finished_if t ≡ Finished → t ≡ true
    go true q = refl
    go false q = absurd (let z : ◌≡◌ {A = ℕ} 0 1 = cc in omega arith)

module _ {X : Type 0} (set : X → ℕ) (w : ℕ) (l : List X) (sorted : Sorted (before set) l) (m : Bookmark) where
  -- at its next bookmark those are due for which it had no place
  pub answer_next : (room : ℕ) → due set (answer set w m room (due set m l)).next l ≡ drop (room / w) (due set m l)
  unfolding answer
  answer_next room = due_next set l sorted m (fitting w room (due set m l)) ∙ drop_min (room / w) (due set m l)

-- an accepted page, from the items due: it writes the first of them, as many as it has places for, counts them and leaves the
-- bytes behind their records; at its next bookmark the others are due, and it says finished where there are none
module _ {X : Type 0} (set : X → ℕ) (encode : X → List ℕ) (w : ℕ) (l : List X) where
  pub record Paged (m : Bookmark) (entry : List ℕ) (page : Page) (exit : List ℕ) : Type 0 where
    pub wrote : take (w * page.count) exit ≡ records encode (take (length entry / w) (due set m l))
    pub number : page.count ≡ min (length entry / w) (length (due set m l))
    pub rest : due set page.next l ≡ drop (length entry / w) (due set m l)
    pub behind : drop (w * page.count) exit ≡ drop (w * page.count) entry
    pub told : page.end ≡ finished_if (leb (length (due set m l)) page.count)

  pub paged : ((x : X) → length (encode x) ≡ w) → Sorted (before set) l → (m : Bookmark) (entry : List ℕ)
      → Paged m entry (answer set w m (length entry) (due set m l)) (filled encode w (due set m l) entry)
  unfolding answer filled
  paged wide sorted m entry =
      let ys : List X = due set m l in
      let c : ℕ = fitting w (length entry) ys in
      let len : length (records encode (take c ys)) ≡ w * c
      = length_records encode w wide (take c ys) ∙ ap (λ (n : ℕ). w * n) (length-take c ys ∙ omega arith) in
      record {
        wrote = take_at (records encode (take c ys)) (drop (w * c) entry) (w * c) len
            ∙ ap (records encode) (take_min (length entry / w) ys);
        number = refl;
        rest = answer_next set w l sorted m (length entry);
        behind = drop_at (records encode (take c ys)) (drop (w * c) entry) (w * c) len;
        told = refl;
      }
