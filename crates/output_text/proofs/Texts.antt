-- The text of a page: what the lines of its records come to. Assumes nothing.
use Prim.Native.Nat.{ℕ, zero, suc, ◌*◌, ◌/◌}
use mathlib.Core.Path.{◌≡◌, refl, sym, ap, ap₂, ◌∙◌, subst}
use mathlib.Core.List.{List, [], ◌∷◌, ◌++◌, flat_map}
use lib.ListN.{length, take, drop}
use Rattle.std.specs.Prelude.{Ok, Err}
use Rattle.std.specs.Simd.{first_chunks}
use Rattle.vertex_set.specs.declared.Sides.{Sides}
use Rattle.vertex_set.specs.Lists.{All}
use Rattle.vertex_set.proofs.Lists.{all_take}
use Rattle.signed_graph.specs.declared.SignedGraph.{SignedGraph}
use Rattle.signed_graph.specs.Calls.{Check, passed, check_of}
use Rattle.pages.specs.declared.Bookmark.{Bookmark}
use Rattle.clique.specs.Listing.{Item, item_set}
use Rattle.group_pages.specs.Records.{record_of, record_width}
use Rattle.pages.specs.Pages.{records, page_by, bytes_by}
use Rattle.group_pages.specs.Calls.{due_groups, page_of, page_bytes}
use Rattle.group_pages.proofs.Counts.{Narrow, listing_sides, due_all}
use Rattle.group_pages.proofs.Reading.{sides_read, each_record, over_records, page_records_law}
use Rattle.report.specs.declared.Line.TheVariants.{Group}
use Rattle.report.specs.Lines.{line_text}
use Rattle.output.specs.Output.{groups_text}
use Rattle.output_text.specs.Records.{record_line, records_text}
use Rattle.output_text.specs.PageTexts.{page_records, page_room, text_by, page_text}

pub length_chunks : (n k : ℕ) (l : List ℕ) → length (first_chunks n k l) ≡ k
length_chunks n zero l = refl
length_chunks n (suc k) l = ap suc (length_chunks n k (drop n l))

-- ---- the records of groups

-- the lines of the records of groups are those of the groups
lines_groups : (l : List Item) → All Narrow l → records (λ x. record_line (record_of x)) l ≡ groups_text l
unfolding records groups_text
lines_groups [] h = refl
lines_groups (x ∷ l) h =
    ap₂ (λ (a b : List ℕ). a ++ b) (ap (λ (s : Sides). line_text (Group s)) (sides_read x.left x.right h.0.0 h.0.1))
    (lines_groups l h.1)

-- ---- pages

module _ (g : SignedGraph) (k : ℕ) (m : Bookmark) (buffer : List ℕ) (long : length buffer ≡ page_room) where
  -- the records of a page, by the check of the call
  abbrev records_by : Check → List ℕ
  records_by c =
      take (record_width * (page_by item_set record_width c m page_room (due_groups g k m)).count) (bytes_by record_of record_width c (due_groups g k m) buffer)

  accepted_records : check_of g k ≡ passed → records_by (check_of g k) ≡ records record_of (take page_records (due_groups g k m))
  accepted_records a =
      subst (λ (n : ℕ). take (record_width * (page_of g k m n).count) (page_bytes g k m buffer)
      ≡ records record_of (take (n / record_width) (due_groups g k m))) long
      (page_records_law g k m buffer a)

  text_by_law : (c : Check) → check_of g k ≡ c → records_text (records_by (check_of g k)) ≡ text_by (check_of g k) (due_groups g k m)
  unfolding flat_map
  text_by_law (Ok x) a =
      let ds : List Item = take page_records (due_groups g k m) in
      ap records_text (accepted_records a)
      ∙ each_record record_line (records record_of ds) ∙ over_records record_line ds
      ∙ lines_groups ds (all_take Narrow page_records (due_groups g k m) (due_all g k Narrow (listing_sides g k) m))
      ∙ ap (λ (c : Check). text_by c (due_groups g k m)) (sym a)
  text_by_law (Err why) r = subst (λ (c : Check). records_text (records_by c) ≡ text_by c (due_groups g k m)) (sym r) refl

  pub page_text_law : records_text (take (record_width * (page_of g k m page_room).count) (page_bytes g k m buffer)) ≡ page_text g k m
  page_text_law = text_by_law (check_of g k) refl
