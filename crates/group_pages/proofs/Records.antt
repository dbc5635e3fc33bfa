-- Records: how wide they are, how they are written, and which of them a listing has. Assumes nothing.
use Prim.Native.Nat.{ℕ, zero, suc, ◌+◌, ◌*◌, ◌/◌, ◌≤◌, ◌<◌}
use native.Mathlib.Nat.{mul-zero}
use native.Mathlib.Omega.{arith}
use mathlib.Core.Path.{◌≡◌, refl, sym, ap, ◌∙◌}
use mathlib.Core.List.{List, []}
use lib.ListN.{length, get_or, take, drop}
use lib.Seq.{drop-drop}
use borrow.Author.Tests.{le-leb, lt-leb}
use Rattle.std.specs.Simd.{first_chunks}
use Rattle.clique.specs.Listing.{Item}
use Rattle.words.specs.Words.{word_bytes, word_value}
use Rattle.group_pages.specs.Records.{record_width, sides_record, record_of, records_in, record_at, sides_of}

pub record_wide : (x : Item) → length (record_of x) ≡ record_width
unfolding word_bytes sides_record
record_wide x = refl

-- no bytes say empty sides
pub sides_none : sides_of [] ≡ record { left = 0; right = 0 }
unfolding word_value
sides_none = refl

-- ---- the records of a listing

module _ (n : ℕ) where
  length_chunks : (k : ℕ) (l : List ℕ) → length (first_chunks n k l) ≡ k
  length_chunks zero l = refl
  length_chunks (suc k) l = ap suc (length_chunks k (drop n l))

  chunk_at : (k i : ℕ) (l d : List ℕ) → i < k → get_or (first_chunks n k l) i d ≡ take n (drop (n * i) l)
  chunk_at zero i l d h = absurd (omega arith)
  chunk_at (suc k) zero l d h = rw mul-zero
  chunk_at (suc k) (suc i) l d h =
      chunk_at k i (drop n l) d (omega arith) ∙ ap (take n) (drop-drop (n * i) n l)
      ∙ (let e : n + n * i ≡ n * suc i = omega arith in ap (λ (j : ℕ). take n (drop j l)) e)

module _ (listing : List ℕ) where
  pub records_length : length (records_in listing) ≡ length listing / record_width
  records_length = length_chunks record_width (length listing / record_width) listing

  module _ (i : ℕ) where
    pub record_there : i < length listing / record_width → record_at listing i ≡ take record_width (drop (record_width * i) listing)
    unfolding record_at
    record_there h = rw (le-leb (record_width * i + record_width) (length listing) (omega arith), record_at)

    pub record_missing : length listing / record_width ≤ i → record_at listing i ≡ []
    unfolding record_at
    record_missing h = rw (lt-leb (record_width * i + record_width) (length listing) (omega arith), record_at)

    -- record i is the one that stands there
    pub record_in : (d : List ℕ) → i < length (records_in listing) → get_or (records_in listing) i d ≡ record_at listing i
    record_in d h =
        let l : i < length listing / record_width = omega (arith, records_length) in
        chunk_at record_width (length listing / record_width) i listing d l ∙ sym (record_there l)

    pub record_out : length (records_in listing) ≤ i → record_at listing i ≡ []
    record_out h = record_missing (omega (arith, records_length))

-- what stands at a place of the records, and where there is none
pub ruleset records_read = (record_in, record_out, sides_none)
