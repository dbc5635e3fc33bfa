-- Lists of page calls, for any items: what all the calls together wrote, and what is said of them. Assumes nothing.
use Rattle.std.specs.Prelude.{ℕ, ◌+◌, ◌*◌, ◌/◌, min, ◌≡◌, ◌↔◌, Bool, true, false, length, take, drop}
use mathlib.Core.List.{List, [], ◌∷◌, ◌++◌, Memᴰ}
use Rattle.pages.specs.declared.Bookmark.{Bookmark}
use Rattle.pages.specs.declared.End.TheVariants.{Finished, More}
use Rattle.pages.specs.declared.Page.{Page}
use Rattle.pages.specs.Pages.{records}

-- a call: whether it was accepted, the bookmark and the buffer that it got, its answer, and the buffer as it returned
pub record Step : Type 0 where
  pub accepted : Bool
  pub from : Bookmark
  pub entry : List ℕ
  pub answer : Page
  pub exit : List ℕ

module _ {E : Type 0} (step : E → Step) where
  -- how many records were written
  unfoldable pub records_written : List E → ℕ
  records_written [] = 0
  records_written (e ∷ es) = (step e).answer.count + records_written es

  module _ (w : ℕ) where
    -- the records written, joined: of each call the first w × count bytes of its buffer as it returned
    unfoldable pub joined_records : List E → List ℕ
    joined_records [] = []
    joined_records (e ∷ es) = take (w * (step e).answer.count) (step e).exit ++ joined_records es

    -- all record places of the calls that were accepted
    unfoldable pub places : List E → ℕ
    places [] = 0
    places (e ∷ es) = elim (step e).accepted [ true ↦ length (step e).entry / w | false ↦ 0 ] + places es

-- where the items are those of l, in their order, and their records have the width w
module _ {X E : Type 0} (encode : X → List ℕ) (w : ℕ) (l : List X) (step : E → Step) where
  -- of one call c of a list; `calls` are those up to it and with it
  pub record EachPage (calls : List E) (c : E) : Type 0 where
    -- accepted, it says finished exactly where the calls up to it have written all items
    pub finished : (step c).accepted ≡ true → ((step c).answer.end ≡ Finished) ↔ (records_written step calls ≡ length l)
    -- the bytes behind its records are what they were
    pub behind : drop (w * (step c).answer.count) (step c).exit ≡ drop (w * (step c).answer.count) (step c).entry
    -- refused, it writes nothing, says that there is more, and gives back its bookmark
    pub refused : (step c).accepted ≡ false
        → ((step c).answer.count ≡ 0) × ((step c).exit ≡ (step c).entry) × ((step c).answer.end ≡ More)
        × ((step c).answer.next ≡ (step c).from)

  -- of the whole list
  pub record AllPages (calls : List E) : Type 0 where
    -- the records of all calls, joined, are those of the first items: as many as there are items, or as the accepted calls had
    -- places for, whichever is less; and no two items have the same record
    pub wrote : joined_records step w calls ≡ records encode (take (min (length l) (places step w calls)) l)
    pub number : records_written step calls ≡ min (length l) (places step w calls)
    pub once : (x y : X) → Memᴰ x l → Memᴰ y l → encode x ≡ encode y → x ≡ y
    pub each : (done : List E) (c : E) (left : List E) → calls ≡ done ++ c ∷ left → EachPage (done ++ c ∷ []) c
