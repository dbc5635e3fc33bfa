-- Records read back: the sides that a record says, the records of a listing one after the other, and those of a page.
-- Assumes nothing.
use Prim.Native.Nat.{ℕ, zero, suc, ◌+◌, ◌*◌, ◌/◌, ◌^◌, ◌<◌}
use native.Mathlib.Omega.{arith}
use mathlib.Core.Path.{◌≡◌, refl, sym, ap, ap₂, ◌∙◌, subst}
use mathlib.Core.List.{List, [], ◌∷◌, ◌++◌, map, flat_map}
use Rattle.std.specs.Simd.{first_chunks}
use lib.ListN.{length, take, drop, length-append}
use lib.Seq.{take_at, drop_at, drop-drop}
use Rattle.vertex_set.specs.Ranges.{gather}
use Rattle.vertex_set.proofs.Gathering.{gather_shift, gather_cong}
use Rattle.words.specs.Words.{word_bytes}
use Rattle.words.proofs.Words.{value_bytes}
use Rattle.signed_graph.specs.declared.SignedGraph.{SignedGraph}
use Rattle.signed_graph.specs.Calls.{Check, passed, check_of}
use Rattle.signed_graph.specs.Thresholds.{Threshold}
use Rattle.signed_graph.proofs.Soundness.{to_sound}
use Rattle.signed_graph.proofs.Calls.{accepted_sound}
use Rattle.clique.specs.Listing.{Item, item_set, listing}
use Rattle.clique.proofs.Listing.{listing_sorted}
use Rattle.pages.specs.declared.Bookmark.{Bookmark}
use Rattle.pages.specs.Pages.{records, page_by, bytes_by}
use Rattle.pages.proofs.Pages.{length_records, paged}
use Rattle.group_pages.specs.Records.{record_width, sides_record, record_of, records_in, record_at, sides_of}
use Rattle.group_pages.specs.Calls.{due_groups, page_of, page_bytes}
use Rattle.group_pages.proofs.Records.{record_wide, record_there}

-- ---- one record

-- what is written as a record reads back
pub sides_read : (l r : ℕ) → l < 2 ^ 64 → r < 2 ^ 64 → sides_of (sides_record l r) ≡ record { left = l; right = r }
unfolding sides_record word_bytes
sides_read l r hl hr =
    let left = value_bytes 8 l (omega arith) in
    let right = value_bytes 8 r (omega arith) in
    λ i. record { left = left i; right = right i }

-- ---- the records of groups

-- a record in front of others
module _ (x : Item) (rest : List ℕ) where
  abbrev both : List ℕ
  both = record_of x ++ rest

  one_more_law : length both / record_width ≡ suc (length rest / record_width)
  one_more_law = omega (arith, length-append (record_of x) rest, record_wide x)

  record_first : record_at both 0 ≡ record_of x
  record_first = record_there both 0 (omega (arith, one_more_law)) ∙ take_at (record_of x) rest record_width (record_wide x)

  record_next : (i : ℕ) → i < length rest / record_width → record_at both (suc i) ≡ record_at rest i
  record_next i h =
      let e : record_width * suc i ≡ record_width + record_width * i = omega arith in
      record_there both (suc i) (omega (arith, one_more_law))
      ∙ ap (λ (j : ℕ). take record_width (drop j both)) e
      ∙ ap (take record_width) (sym (drop-drop (record_width * i) record_width both) ∙ ap (drop (record_width * i)) (drop_at (record_of x) rest record_width (record_wide x)))
      ∙ sym (record_there rest i h)

-- the records of groups read back
pub records_back : (l : List Item) → records_in (records record_of l) ≡ map record_of l
unfolding records
records_back l = ap (λ (k : ℕ). first_chunks record_width k (records record_of l)) (many l) ∙ chunks l
  where
    many : (l : List Item) → length (records record_of l) / record_width ≡ length l
    many l = omega (arith, length_records record_of record_width record_wide l)

    chunks : (l : List Item) → first_chunks record_width (length l) (records record_of l) ≡ map record_of l
    chunks [] = refl
    chunks (x ∷ l) =
        ap₂ (λ (r : List ℕ) (t : List (List ℕ)). r ∷ t) (take_at (record_of x) (records record_of l) record_width (record_wide x))
        (ap (first_chunks record_width (length l)) (drop_at (record_of x) (records record_of l) record_width (record_wide x)) ∙ chunks l)

-- what a function gives of the records of a listing, one after the other: of record 0, of record 1 and so on
module _ (f : List ℕ → List ℕ) where
  each_chunk : (k : ℕ) (l : List ℕ)
      → flat_map f (first_chunks record_width k l) ≡ gather k 0 (λ i. f (take record_width (drop (record_width * i) l)))
  unfolding gather flat_map
  each_chunk zero l = refl
  each_chunk (suc k) l =
      ap (λ (r : List ℕ). f (take record_width l) ++ r)
      (each_chunk k (drop record_width l)
      ∙ sym (gather_shift (λ i. f (take record_width (drop (record_width * i) l))) (λ i. f (take record_width (drop (record_width * i) (drop record_width l)))) k 0
      (λ j _ h. ap (λ (r : List ℕ). f (take record_width r))
      (let e : record_width * suc j ≡ record_width + record_width * j = omega arith in
      ap (λ (d : ℕ). drop d l) e ∙ sym (drop-drop (record_width * j) record_width l)))))

  pub each_record : (l : List ℕ) → flat_map f (records_in l) ≡ gather (length l / record_width) 0 (λ i. f (record_at l i))
  each_record l =
      each_chunk (length l / record_width) l
      ∙ gather_cong _ _ (length l / record_width) 0 (λ j _ h. ap f (sym (record_there l j (omega arith))))

-- what a function gives of the records of groups, record by record, joined
module _ (f : List ℕ → List ℕ) where
  pub over_records : (l : List Item)
      → gather (length (records record_of l) / record_width) 0 (λ i. f (record_at (records record_of l) i)) ≡ records (λ x. f (record_of x)) l
  unfolding records gather
  over_records [] = refl
  over_records (x ∷ l) =
      let rest : List ℕ = records record_of l in
      let at : List ℕ → ℕ → List ℕ = λ bytes i. f (record_at bytes i) in
      ap (λ (d : ℕ). gather d 0 (at (both x rest))) (one_more_law x rest)
      ∙ ap₂ (λ (a b : List ℕ). a ++ b) (ap f (record_first x rest))
      (gather_shift (at (both x rest)) (at rest) (length rest / record_width) 0 (λ j _ h. ap f (record_next x rest j (omega arith)))
      ∙ over_records l)

-- ---- the records of a page

pub page_records_law : (g : SignedGraph) (k : Threshold) (m : Bookmark) (buffer : List ℕ) → check_of g k ≡ passed
    → take (record_width * (page_of g k m (length buffer)).count) (page_bytes g k m buffer)
    ≡ records record_of (take (length buffer / record_width) (due_groups g k m))
page_records_law g k m buffer a =
    let ds : List Item = due_groups g k m in
    subst
    (λ (c : Check). take (record_width * (page_by item_set record_width c m (length buffer) ds).count) (bytes_by record_of record_width c ds buffer)
    ≡ records record_of (take (length buffer / record_width) ds)) (sym a)
    (paged item_set record_of record_width (listing g k) record_wide (listing_sorted g (to_sound g (accepted_sound g k a)) k) m buffer).wrote
