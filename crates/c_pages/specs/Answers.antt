-- Bookmarks and the places of records as words. Assumes nothing.
use Rattle.std.specs.Prelude.{ℕ, zero, suc, ◌+◌, ◌*◌, Bool, true, false, List, [], ◌∷◌, leb, get_or, take, drop}
use Rattle.group_pages.specs.Records.{record_width}
use Rattle.pages.specs.declared.Bookmark.{Bookmark}
use Rattle.pages.specs.declared.Bookmark.TheVariants.{Start, After}

-- the bookmark of a kind, 0 for Start and 1 for After, with its set
abbrev pub mark_at : ℕ → ℕ → Bookmark
mark_at zero set = Start
mark_at (suc kind) set = After set

-- where record i stands in a listing of so many bytes: its first byte and its length; zeros where it is not wholly there
abbrev pub place_by : Bool → ℕ → List ℕ
place_by true i = record_width * i ∷ record_width ∷ []
place_by false i = 0 ∷ 0 ∷ []

unfoldable pub record_words : ℕ → ℕ → List ℕ
record_words bytes i = place_by (leb (record_width * i + record_width) bytes) i

-- the part of a listing that two words tell: its first byte and its length
abbrev pub part_at : List ℕ → List ℕ → List ℕ
part_at listing words = take (get_or words 1 0) (drop (get_or words 0 0) listing)
