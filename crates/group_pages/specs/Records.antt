-- Records: a group's sides as bytes. Assumes nothing.
use Rattle.std.specs.Prelude.{ℕ, ◌+◌, ◌*◌, ◌/◌, true, false, List, [], ◌++◌, leb, length, take, drop}
use Rattle.std.specs.Simd.{first_chunks}
use Rattle.words.specs.Words.{word_bytes, word_value}
use Rattle.clique.specs.Listing.{Item}
use Rattle.vertex_set.specs.declared.Sides.{Sides}

-- the bytes of a record: left, then right, 8 bytes each
abbrev pub record_width : ℕ
record_width = 16

unfoldable pub sides_record : ℕ → ℕ → List ℕ
sides_record l r = word_bytes 8 l ++ word_bytes 8 r

abbrev pub record_of : Item → List ℕ
record_of x = sides_record x.left x.right

-- the records of a listing, one after the other; a last one that is not wholly there is left out
abbrev pub records_in : List ℕ → List (List ℕ)
records_in listing = first_chunks record_width (length listing / record_width) listing

-- record i of a listing: its sixteen bytes, or none where it is not wholly there
unfoldable pub record_at : List ℕ → ℕ → List ℕ
record_at listing i =
    elim (leb (record_width * i + record_width) (length listing)) [ true ↦ take record_width (drop (record_width * i) listing) | false ↦ [] ]

-- the sides that bytes say: eight bytes the left one, the next eight the right one
abbrev pub sides_of : List ℕ → Sides
sides_of bytes = record { left = word_value (take 8 bytes); right = word_value (take 8 (drop 8 bytes)) }

-- the sides of record i; both empty where it is not wholly there
abbrev pub sides_at : List ℕ → ℕ → Sides
sides_at listing i = sides_of (record_at listing i)
