-- Lists of linked page calls, for any strictly sorted list of items with records of one width: what they write together, and
-- when a page says finished. Assumes nothing.
use Prim.Native.Nat.{ℕ, ◌+◌, ◌-◌, ◌*◌, ◌/◌, min}
use native.Mathlib.Nat.{mul-zero, zero-add, min_comm}
use native.Mathlib.Omega.{arith}
use mathlib.Core.Path.{◌≡◌, refl, sym, ap, ap₂, ◌∙◌, subst}
use mathlib.Core.Logic.{◌↔◌}
use mathlib.Core.Bool.{Bool, true, false}
use mathlib.Core.List.{List, [], ◌∷◌, ◌++◌, append-nil, Memᴰ}
use lib.ListN.{length, take, drop, length-drop}
use lib.Seq.{take-add, drop-drop}
use borrow.Author.Tests.{le-leb}
use Rattle.vertex_set.proofs.Booleans.{cases}
use Rattle.pages.specs.declared.Bookmark.{Bookmark}
use Rattle.pages.specs.declared.Bookmark.TheVariants.{Start}
use Rattle.pages.specs.declared.End.TheVariants.{Finished, More}
use Rattle.pages.specs.Pages.{finished_if, due, records}
use Rattle.pages.proofs.Pages.{take_min, records_append, none_left, Paged}
use Rattle.pages.specs.PageLists.{Step, records_written, joined_records, places, EachPage, AllPages}

-- a refused call writes nothing, says more and gives back its bookmark
pub record Idle (s : Step) : Type 0 where
  pub counted : s.answer.count ≡ 0
  pub kept : s.exit ≡ s.entry
  pub same : s.answer.next ≡ s.from
  pub told : s.answer.end ≡ More

module _ {E : Type 0} (step : E → Step) where
  written_append : (a b : List E) → records_written step (a ++ b) ≡ records_written step a + records_written step b
  unfolding records_written
  written_append [] b = omega arith
  written_append (c ∷ a) b = omega (arith, written_append a b)

  module _ (w : ℕ) where
    places_in : (c : E) (cs : List E) → (step c).accepted ≡ true
        → places step w (c ∷ cs) ≡ length (step c).entry / w + places step w cs
    unfolding places
    places_in c cs h = rw (h, places)

    places_out : (c : E) (cs : List E) → (step c).accepted ≡ false → places step w (c ∷ cs) ≡ places step w cs
    unfolding places
    places_out c cs h = rw (h, places) (zero-add (places step w cs))

module _ {X E : Type 0} (set : X → ℕ) (encode : X → List ℕ) (w : ℕ) (l : List X) (step : E → Step) where
  -- one call: an accepted one is a page of the list, a refused one is idle
  pub record Runs (c : E) : Type 0 where
    pub page : (step c).accepted ≡ true → Paged set encode w l (step c).from (step c).entry (step c).answer (step c).exit
    pub idle : (step c).accepted ≡ false → Idle (step c)

  -- the first call gets the bookmark m, and each later one that which the call before it gave
  abbrev pub Chain : Bookmark → List E → Type 0
  Chain m [] = Unit {0}
  Chain m (c ∷ cs) = ((step c).from ≡ m) × Runs c × Chain (step c).answer.next cs

  -- where the calls `done` lead from a place where ys are due
  record Reached (done left : List E) (ys : List X) : Type 0 where
    mark : Bookmark
    chain : Chain mark left
    rest : due set mark l ≡ drop (places step w done) ys
    wrote : joined_records step w done ≡ records encode (take (places step w done) ys)
    number : records_written step done ≡ min (places step w done) (length ys)

  reach_step : (c : E) (done left : List E) → Runs c → Reached done left (due set (step c).answer.next l) → (b : Bool)
      → (step c).accepted ≡ b → Reached (c ∷ done) left (due set (step c).from l)
  unfolding joined_records records_written
  reach_step c done left h r true b =
      let p : ℕ = length (step c).entry / w in
      let d : ℕ = places step w done in
      let ys : List X = due set (step c).from l in
      let pg : Paged set encode w l (step c).from (step c).entry (step c).answer (step c).exit = h.page b in
      let q : Reached done left (drop p ys) = subst (Reached done left) pg.rest r in
      let here : places step w (c ∷ done) ≡ p + d = places_in step w c done b in
      record {
        mark = q.mark;
        chain = q.chain;
        rest = q.rest ∙ drop-drop d p ys ∙ ap (λ (n : ℕ). drop n ys) (sym here);
        wrote = ap₂ (λ (x y : List ℕ). x ++ y) pg.wrote q.wrote ∙ sym (records_append encode (take p ys) (take d (drop p ys)))
            ∙ ap (records encode) (sym (take-add p d ys)) ∙ ap (λ (n : ℕ). records encode (take n ys)) (sym here);
        number = omega (arith, here, pg.number, q.number, length-drop p ys);
      }
  reach_step c done left h r false b =
      let i : Idle (step c) = h.idle b in
      let q : Reached done left (due set (step c).from l) =
      subst (λ (m : Bookmark). Reached done left (due set m l)) i.same r in
      let here : places step w (c ∷ done) ≡ places step w done = places_out step w c done b in
      record {
        mark = q.mark;
        chain = q.chain;
        rest = q.rest ∙ ap (λ (n : ℕ). drop n (due set (step c).from l)) (sym here);
        wrote = ap (λ (n : ℕ). take n (step c).exit ++ joined_records step w done) (ap (λ (n : ℕ). w * n) i.counted ∙ mul-zero w)
            ∙ q.wrote ∙ ap (λ (n : ℕ). records encode (take n (due set (step c).from l))) (sym here);
        number = omega (arith, here, i.counted, q.number);
      }

  reach : (done left : List E) (m : Bookmark) → Chain m (done ++ left) → Reached done left (due set m l)
  unfolding joined_records records_written places records
  reach [] left m h = record { mark = m; chain = h; rest = refl; wrote = refl; number = omega arith }
  reach (c ∷ done) left m h =
      subst (λ (m : Bookmark). Reached (c ∷ done) left (due set m l)) h.0
      (reach_step c done left h.1 (reach done left (step c).answer.next h.2) (step c).accepted refl)

  -- ---- a list of calls from Start

  module _ (calls : List E) (h : Chain Start calls) where
    whole : Reached calls [] l
    unfolding due
    whole = reach calls [] Start (subst (Chain Start) (sym (append-nil calls)) h)

    -- the records of the first items, as many as the smaller of their number and all record places
    all_joined : joined_records step w calls ≡ records encode (take (min (length l) (places step w calls)) l)
    all_joined =
        let n : ℕ = places step w calls in
        whole.wrote ∙ ap (records encode) (sym (take_min n l) ∙ ap (λ (i : ℕ). take i l) (min_comm n (length l)))

    all_written : records_written step calls ≡ min (length l) (places step w calls)
    all_written = whole.number ∙ min_comm (places step w calls) (length l)

  module _ (done : List E) (c : E) (left : List E) (h : Chain Start (done ++ c ∷ left)) where
    at : Reached done (c ∷ left) l
    unfolding due
    at = reach done (c ∷ left) Start h

    runs : Runs c
    runs = at.chain.1

    -- an accepted call says finished exactly when all items are written by then
    finished : (step c).accepted ≡ true → ((step c).answer.end ≡ Finished) ↔ (records_written step (done ++ c ∷ []) ≡ length l)
    unfolding records_written
    finished b =
        let pg : Paged set encode w l (step c).from (step c).entry (step c).answer (step c).exit = runs.page b in
        let count : ℕ = (step c).answer.count in
        let n : ℕ = length (due set (step c).from l) in
        let d : ℕ = places step w done in
        let sum : records_written step (done ++ c ∷ []) ≡ records_written step done + (count + 0) = written_append step done (c ∷ []) in
        let before : records_written step done ≡ min d (length l) = at.number in
        let here : count ≡ min (length (step c).entry / w) n = pg.number in
        let rest : n ≡ length l - d =
        ap (λ (m : Bookmark). length (due set m l)) at.chain.0 ∙ ap length at.rest ∙ length-drop d l in (
          (λ e. omega (arith, sum, before, here, rest, none_left n count (sym pg.told ∙ e))),
          (λ e. pg.told ∙ ap finished_if (le-leb n count (omega (arith, sum, before, here, rest, e)))),
        )

    each_page : EachPage encode w l step (done ++ c ∷ []) c
    each_page =
        let n : ℕ = w * (step c).answer.count in
        record {
          finished = finished;
          behind = cases (drop n (step c).exit ≡ drop n (step c).entry) (step c).accepted
              (λ t. (runs.page t).behind) (λ t. ap (drop n) (runs.idle t).kept);
          refused = λ t. let i : Idle (step c) = runs.idle t in (i.counted, i.kept, i.told, i.same);
        }

  -- ---- the whole

  pub all_pages : ((x y : X) → Memᴰ x l → Memᴰ y l → encode x ≡ encode y → x ≡ y) → (calls : List E)
      → Chain Start calls → AllPages encode w l step calls
  all_pages once calls h =
      record {
        wrote = all_joined calls h;
        number = all_written calls h;
        once = once;
        each = λ done c left e. each_page done c left (subst (Chain Start) e h);
      }
