-- Pages, for any items: each has its set of vertices, and records have one width. Assumes nothing.
use Rattle.std.specs.Prelude.{ℕ, ◌*◌, ◌/◌, min, Bool, true, false, List, [], ◌∷◌, ◌++◌, leb, length, take, drop, Ok, Err}
use Rattle.vertex_set.specs.Lists.{select}
use Rattle.signed_graph.specs.Calls.{Check, passed}
use Rattle.vertex_set.specs.Order.{precedes}
use Rattle.pages.specs.declared.Bookmark.{Bookmark}
use Rattle.pages.specs.declared.Bookmark.TheVariants.{Start, After}
use Rattle.pages.specs.declared.End.{End}
use Rattle.pages.specs.declared.End.TheVariants.{Finished, More}
use Rattle.pages.specs.declared.Page.{Page}

-- finished where the test passes, else more
abbrev pub finished_if : Bool → End
finished_if true = Finished
finished_if false = More

-- whether a set is due at a bookmark: every one, or one that comes after the bookmark's set
abbrev pub due_at : Bookmark → ℕ → Bool
due_at Start s = true
due_at (After t) s = precedes t s

module _ {X : Type 0} (set : X → ℕ) where
  -- the items due at a bookmark: all, or those that come after its set
  unfoldable pub due : Bookmark → List X → List X
  due Start l = l
  due (After s) l = select (λ x. precedes s (set x)) l

  -- the next bookmark: After the last of the items, or the given one if there are none
  unfoldable pub next_mark : Bookmark → List X → Bookmark
  next_mark m [] = m
  next_mark m (x ∷ l) = next_mark (After (set x)) l

-- the records of the items, joined
module _ {X : Type 0} (encode : X → List ℕ) where
  unfoldable pub records : List X → List ℕ
  records [] = []
  records (x ∷ l) = encode x ++ records l

-- how many of the due items a page writes: as many as there are, and as whole records of that width fit in so many bytes
module _ {X : Type 0} (width : ℕ) where
  abbrev pub fitting : ℕ → List X → ℕ
  fitting room l = min (room / width) (length l)

-- the answer at a bookmark and a buffer of so many bytes, from the items due
module _ {X : Type 0} (set : X → ℕ) (width : ℕ) where
  unfoldable pub answer : Bookmark → ℕ → List X → Page
  answer m room l =
      record {
        outcome = passed;
        count = fitting width room l;
        next = next_mark set m (take (fitting width room l) l);
        end = finished_if (leb (length l) (fitting width room l));
      }

-- the buffer as the page leaves it: the records of the first items due, and behind them the bytes that stood there
module _ {X : Type 0} (encode : X → List ℕ) (width : ℕ) where
  unfoldable pub filled : List X → List ℕ → List ℕ
  filled l buffer =
      records encode (take (fitting width (length buffer) l) l) ++ drop (width * fitting width (length buffer) l) buffer

-- by the check of the call: a refused one has count 0, more, and the bookmark that was given, and its buffer stays
module _ {X : Type 0} (set : X → ℕ) (width : ℕ) where
  abbrev pub page_by : Check → Bookmark → ℕ → List X → Page
  page_by (Ok x) m room l = answer set width m room l
  page_by (Err why) m room l = record { outcome = Err why; count = 0; next = m; end = More }

module _ {X : Type 0} (encode : X → List ℕ) (width : ℕ) where
  abbrev pub bytes_by : Check → List X → List ℕ → List ℕ
  bytes_by (Ok x) l buffer = filled encode width l buffer
  bytes_by (Err why) l buffer = buffer
