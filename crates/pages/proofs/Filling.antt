-- A page that is filled item by item, for any items with records of one width. Assumes nothing.
use Prim.Native.Nat.{ℕ, ◌+◌, ◌-◌, ◌*◌, ◌/◌, ◌≤◌, ◌<◌, min}
use native.Mathlib.Nat.{min-zero, mul-zero, mul_comm, le-div_iff_mul-le}
use native.Mathlib.Omega.{arith}
use mathlib.Core.Path.{◌≡◌, refl, sym, ap, ap₂, ◌∙◌, subst}
use mathlib.Core.List.{List, [], ◌∷◌, ◌++◌, append-nil, append_assoc}
use lib.Dec.{leb}
use lib.ListN.{length, take, drop, length-append, length-take, length-drop}
use lib.Seq.{take_all, take-append-le}
use borrow.Rule.Slice.PartMut.{put_mid}
use borrow.Author.Tests.{le-leb, lt-leb}
use Rattle.vertex_set.proofs.Buffers.{Laid, laid_piece, laid_end}
use Rattle.signed_graph.specs.Calls.{passed}
use Rattle.pages.specs.declared.Bookmark.{Bookmark}
use Rattle.pages.specs.declared.Bookmark.TheVariants.{After}
use Rattle.pages.specs.declared.End.TheVariants.{Finished, More}
use Rattle.pages.specs.declared.Page.{Page}
use Rattle.pages.specs.Pages.{finished_if, next_mark, records, answer, filled}
use Rattle.pages.specs.Filling.{empty, Holds, Adds}
use Rattle.pages.proofs.Pages.{records_append, length_records, finished_if_law}

-- the page with the answer that there is more
abbrev pub with_more : Page → Page
with_more page = record { outcome = page.outcome; count = page.count; next = page.next; end = More }

-- ---- for any items with records of one width

module _ {X : Type 0} (set : X → ℕ) (encode : X → List ℕ) (w : ℕ) (some-wide : 0 < w) (wide : (x : X) → length (encode x) ≡ w) where
  next_snoc : (m : Bookmark) (l : List X) (x : X) → next_mark set m (l ++ x ∷ []) ≡ After (set x)
  unfolding next_mark
  next_snoc m [] x = refl
  next_snoc m (y ∷ l) x = next_snoc (After (set y)) l x

  module _ (m : Bookmark) (buffer : List ℕ) where
    -- the number of records that fit
    abbrev places : ℕ
    places = length buffer / w

    room_for : (n : ℕ) → n ≤ places → w * n ≤ length buffer
    room_for n h = subst (λ (k : ℕ). k ≤ length buffer) (mul_comm n w) ((le-div_iff_mul-le {k = w} {x = n} {y = length buffer} some-wide).0 h)

    -- the answer of a page that writes n of the items l
    abbrev page_with : ℕ → List X → Page
    page_with n l =
        record { outcome = passed; count = n; next = next_mark set m (take n l); end = finished_if (leb (length l) n) }

    length_filled : (l : List X) → length (filled encode w l buffer) ≡ length buffer
    unfolding filled
    length_filled l =
        let n : ℕ = min places (length l) in
        let first : length (records encode (take n l)) ≡ w * n
        = length_records encode w wide (take n l) ∙ ap (λ (k : ℕ). w * k) (length-take n l ∙ omega arith) in
        length-append (records encode (take n l)) (drop (w * n) buffer)
        ∙ omega (arith, first, room_for n (omega arith), length-drop (w * n) buffer)

    pub holds_none : Holds set encode w m buffer [] (empty m) buffer
    unfolding answer filled next_mark records
    holds_none = record { answered = rw min-zero; wrote = rw (min-zero, mul-zero) }

    -- ---- all items fit

    module _ (l : List X) (fits : length l ≤ places) where
      all_fit : min places (length l) ≡ length l
      all_fit = omega arith

      fitting_answer : answer set w m (length buffer) l
          ≡ record { outcome = passed; count = length l; next = next_mark set m l; end = Finished }
      unfolding answer
      fitting_answer =
          ap (λ (n : ℕ). page_with n l) all_fit ∙ (λ i. record {
            outcome = passed;
            count = length l;
            next = next_mark set m (take_all (length l) l (omega arith) i);
            end = finished_if (le-leb (length l) (length l) (omega arith) i);
          })

      fitting_filled : filled encode w l buffer ≡ records encode l ++ drop (w * length l) buffer
      unfolding filled
      fitting_filled =
          ap (λ (n : ℕ). records encode (take n l) ++ drop (w * n) buffer) all_fit
          ∙ ap (λ (t : List X). records encode t ++ drop (w * length l) buffer) (take_all (length l) l (omega arith))

    -- ---- there is no place for more

    module _ (met l : List X) (full : places ≤ length met) where
      same_count : min places (length (met ++ l)) ≡ min places (length met)
      same_count = omega (arith, length-append met l)

      same_first : take (min places (length (met ++ l))) (met ++ l) ≡ take (min places (length met)) met
      same_first =
          ap (λ (n : ℕ). take n (met ++ l)) same_count ∙ take-append-le (min places (length met)) met l (omega arith)

      same_filled : filled encode w (met ++ l) buffer ≡ filled encode w met buffer
      unfolding filled
      same_filled = ap₂ (λ (t : List X) (n : ℕ). records encode t ++ drop (w * n) buffer) same_first same_count

    module _ {met : List X} {page : Page} {out : List ℕ} (h : Holds set encode w m buffer met page out) where
      -- the page counts the records written, and its buffer is as long as it was
      counted : page.count ≡ min places (length met)
      unfolding answer
      counted = ap (λ (p : Page). p.count) h.answered

      long : length out ≡ length buffer
      long = ap length h.wrote ∙ length_filled met

      same_places : length out / w ≡ places
      same_places = ap (λ (n : ℕ). n / w) long

      full_holds : (l : List X) → places ≤ length met → places < length (met ++ l) → Holds set encode w m buffer (met ++ l) (with_more page) out
      unfolding answer
      full_holds l full more =
          record {
            answered =
                ap with_more h.answered ∙ (λ i. record {
                  outcome = passed;
                  count = sym (same_count met l full) i;
                  next = next_mark set m (sym (same_first met l full) i);
                  end = finished_if (sym (lt-leb (length (met ++ l)) (min places (length (met ++ l))) (omega arith)) i);
                });
            wrote = h.wrote ∙ sym (same_filled met l full);
          }

      -- an item for which there is no place
      holds_more : (x : X) → length out / w ≤ page.count
          → Holds set encode w m buffer (met ++ x ∷ []) (with_more page) out
      holds_more x full =
          full_holds (x ∷ []) (omega (arith, counted, same_places)) (omega (arith, counted, same_places, length-append met (x ∷ [])))

      -- a page that says that there is more stays
      holds_full : page.end ≡ More → (l : List X) → Holds set encode w m buffer (met ++ l) page out
      unfolding answer
      holds_full e l =
          let over : min places (length met) < length met
          = finished_if_law (length met) (min places (length met)) (sym (ap (λ (p : Page). p.end) h.answered) ∙ e) in
          let same : with_more page ≡ page
          = (λ i. record { outcome = page.outcome; count = page.count; next = page.next; end = sym e i }) in
          subst (λ (p : Page). Holds set encode w m buffer (met ++ l) p out) same
          (full_holds l (omega arith) (omega (arith, length-append met l)))

      -- an item with its record behind those already written
      holds_next : (x : X) (last : List ℕ) → page.count < length out / w →
          let at : ℕ = w * page.count in
          last ≡ encode x ++ drop w (take (length out - at) (drop at out))
          → Holds set encode w m buffer (met ++ x ∷ [])
          (record { outcome = page.outcome; count = page.count + 1; next = After (set x); end = Finished })
          (put_mid at (length out - at) out last)
      unfolding records answer
      holds_next x last some is =
          record {
            answered =
                (λ i. record {
                  outcome = ap (λ (p : Page). p.outcome) h.answered i;
                  count = sym grown i;
                  next = sym (next_snoc m met x) i;
                  end = Finished;
                })
                ∙ sym (fitting_answer (met ++ x ∷ []) room);
            wrote =
                laid_end (laid_piece (encode x) [] last w laid wide_x
                (is ∙ ap (λ (k : ℕ). encode x ++ drop k (take (length out - at) (drop at out))) wide_x))
                ∙ ap (λ (k : ℕ). records encode (met ++ x ∷ []) ++ drop k buffer) long_records
                ∙ sym (fitting_filled (met ++ x ∷ []) room);
          }
        where
          at : ℕ
          at = w * page.count

          all : page.count ≡ length met
          all = omega (arith, counted, same_places)

          grown : length (met ++ x ∷ []) ≡ page.count + 1
          grown = omega (arith, all, length-append met (x ∷ []))

          wide_x : w ≡ length (encode x)
          wide_x = sym (wide x)

          long_records : length (records encode (met ++ x ∷ [])) ≡ w * length (met ++ x ∷ [])
          long_records = length_records encode w wide (met ++ x ∷ [])

          room : length (met ++ x ∷ []) ≤ places
          room = omega (arith, grown, same_places)

          laid : Laid (records encode (met ++ x ∷ [])) buffer out at (encode x ++ [])
          laid =
              record {
                done = records encode met;
                place = length_records encode w wide met ∙ ap (λ (n : ℕ). w * n) (sym all);
                whole_is = records_append encode met (x ∷ []);
                out_is =
                    h.wrote ∙ fitting_filled met (omega (arith, room, grown, all))
                    ∙ ap (λ (n : ℕ). records encode met ++ drop (w * n) buffer) (sym all);
                fits = omega (arith, long_records, room_for (length (met ++ x ∷ [])) room);
              }

  module _ (m : Bookmark) (page : Page) (entry : List ℕ) (x : X) where
    -- with a record more
    pub adds_next : (last : List ℕ) → page.count < length entry / w →
        let at : ℕ = w * page.count in
        last ≡ encode x ++ drop w (take (length entry - at) (drop at entry))
        → Adds set encode w m (x ∷ []) page entry
        (record { outcome = page.outcome; count = page.count + 1; next = After (set x); end = Finished })
        (put_mid at (length entry - at) entry last)
    adds_next last some is = record { adds = λ buffer met h. holds_next m buffer h x last some is }

    -- with no place for it
    pub adds_more : length entry / w ≤ page.count → Adds set encode w m (x ∷ []) page entry (with_more page) entry
    adds_more full = record { adds = λ buffer met h. holds_more m buffer h x full }

  -- a full page stays
  module _ {m : Bookmark} {page : Page} {entry : List ℕ} where
    pub adds_full : (items : List X) → page.end ≡ More → Adds set encode w m items page entry page entry
    adds_full items more = record { adds = λ buffer met h. holds_full m buffer h more items }

-- ---- with no item, with equal ones, with some and then others

module _ {X : Type 0} (set : X → ℕ) (encode : X → List ℕ) (w : ℕ) {m : Bookmark} {page : Page} {entry : List ℕ} where
  pub adds_none : {items : List X} → items ≡ [] → Adds set encode w m items page entry page entry
  adds_none e =
      record {
        adds = λ buffer met h.
            subst (λ (x : List X). Holds set encode w m buffer x page entry)
            (sym (ap (λ (x : List X). met ++ x) e ∙ append-nil met)) h;
      }

  module _ {after : Page} {exit : List ℕ} where
    pub adds_as : {xs ys : List X} → xs ≡ ys → Adds set encode w m ys page entry after exit → Adds set encode w m xs page entry after exit
    adds_as e = subst (λ (x : List X). Adds set encode w m x page entry after exit) (sym e)

    pub adds_both : {xs ys : List X} {first : Page} {mid : List ℕ} → Adds set encode w m xs page entry first mid
        → Adds set encode w m ys first mid after exit → Adds set encode w m (xs ++ ys) page entry after exit
    adds_both {xs} {ys} a b =
        record {
          adds = λ buffer met h.
              subst (λ (x : List X). Holds set encode w m buffer x after exit) (append_assoc met xs ys)
              (b.adds buffer (met ++ xs) (a.adds buffer met h));
        }
