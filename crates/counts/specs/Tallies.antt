-- For proofs: counts while the groups are counted one after the other. Assumes nothing.
use Rattle.std.specs.Prelude.{ℕ, ◌+◌, ◌*◌, ◌%◌, ◌^◌, List, [], ◌∷◌, map}
use Rattle.std.specs.Int.Bits.{bit_or}
use Rattle.vertex_set.specs.declared.Sides.{Sides}
use Rattle.vertex_set.specs.Ranges.{bit}
use Rattle.vertex_set.specs.Sets.{within}
use Rattle.clique.specs.Listing.{Item}
use Rattle.group_pages.specs.Records.{record_width, records_in, sides_of}

-- the records for which a page has room, and the bytes of its buffer
abbrev pub walk_records : ℕ
walk_records = 1024

abbrev pub walk_room : ℕ
walk_room = record_width * walk_records

-- the counts of sets, in 64 bits, with one group more, which has the vertices v
unfoldable pub raised : List ℕ → List ℕ → ℕ → List ℕ
raised [] counts v = counts
raised (s ∷ sets) [] v = []
raised (s ∷ sets) (c ∷ counts) v = ((c + bit (within s v)) % 2 ^ 64) ∷ raised sets counts v

abbrev pub raised_by : List ℕ → List ℕ → Item → List ℕ
raised_by sets counts x = raised sets counts x.vertices

-- the vertices of both sides, and those of the records of a listing
abbrev pub joined : Sides → ℕ
joined sides = bit_or sides.left sides.right

abbrev pub record_sets : List ℕ → List ℕ
record_sets bytes = map (λ r. joined (sides_of r)) (records_in bytes)
