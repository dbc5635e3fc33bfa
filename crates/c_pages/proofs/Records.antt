-- Where the records of a listing stand. Assumes nothing.
use Prim.Native.Nat.{ℕ, ◌+◌, ◌*◌, ◌≤◌, ◌<◌}
use native.Mathlib.Omega.{arith}
use mathlib.Core.Path.{◌≡◌}
use mathlib.Core.List.{List, [], ◌∷◌}
use lib.ListN.{length}
use borrow.Author.Tests.{le-leb, lt-leb}
use Rattle.group_pages.specs.Records.{record_width, records_in, record_at}
use Rattle.group_pages.proofs.Records.{records_length, record_there, record_missing}
use Rattle.c_pages.specs.Answers.{record_words, part_at}

module _ (listing : List ℕ) (i : ℕ) where
  -- record i is wholly there
  module _ (h : i < length (records_in listing)) where
    pub place_there : record_words (length listing) i ≡ record_width * i ∷ record_width ∷ []
    unfolding record_words
    place_there = rw (le-leb (record_width * i + record_width) (length listing) (omega (arith, records_length listing)))

    pub part_there : record_at listing i ≡ part_at listing (record_width * i ∷ record_width ∷ [])
    part_there = record_there listing i (omega (arith, records_length listing))

  -- it is not
  module _ (h : length (records_in listing) ≤ i) where
    pub place_missing : record_words (length listing) i ≡ 0 ∷ 0 ∷ []
    unfolding record_words
    place_missing = rw (lt-leb (record_width * i + record_width) (length listing) (omega (arith, records_length listing)))

    pub part_missing : record_at listing i ≡ part_at listing (0 ∷ 0 ∷ [])
    part_missing = record_missing listing i (omega (arith, records_length listing))

pub ruleset places = (place_there, part_there, place_missing, part_missing)
