-- The records of a page say the vertices of its groups. Assumes nothing.
use Prim.Native.Nat.{ℕ, ◌*◌, ◌/◌}
use mathlib.Core.Path.{◌≡◌, refl, sym, ap, ap₂, ◌∙◌}
use mathlib.Core.List.{List, [], ◌∷◌, map, foldl, foldl-map}
use lib.Bits.{bit_or}
use lib.ListN.{length, take}
use Rattle.vertex_set.specs.Lists.{All}
use Rattle.vertex_set.proofs.Lists.{all_mem, mem_all, all_take}
use Rattle.vertex_set.proofs.Membership.{set_ext, mem_or}
use Rattle.signed_graph.specs.declared.SignedGraph.{SignedGraph}
use Rattle.signed_graph.specs.Calls.{passed, check_of}
use Rattle.signed_graph.specs.Thresholds.{Threshold}
use Rattle.signed_graph.proofs.Soundness.{Sound, to_sound}
use Rattle.signed_graph.proofs.Calls.{accepted_sound}
use Rattle.clique.specs.Listing.{Item, item_set, listing}
use Rattle.clique.proofs.Listing.{listing_exact}
use Rattle.pages.specs.declared.Bookmark.{Bookmark}
use Rattle.pages.specs.declared.Page.{Page}
use Rattle.group_pages.specs.Records.{record_width, record_of, sides_of}
use Rattle.group_pages.specs.Calls.{due_groups, page_of, page_bytes}
use Rattle.group_pages.proofs.Counts.{Narrow, listing_sides, due_all}
use Rattle.group_pages.proofs.Reading.{sides_read, records_back, page_records_law}
use Rattle.counts.specs.Tallies.{raised, raised_by, joined, record_sets}

-- the record of a group says its vertices
abbrev Told : Item → Type 0
Told x = joined (sides_of (record_of x)) ≡ x.vertices

module _ (g : SignedGraph) (so : Sound g) (k : Threshold) where
  listing_told : All Told (listing g k)
  listing_told =
      mem_all Told (listing g k) (λ x m.
      let n : Narrow x = all_mem Narrow x (listing g k) (listing_sides g k) m in
      ap joined (sides_read x.left x.right n.0 n.1)
      ∙ sym (set_ext x.vertices (bit_or x.left x.right) (λ p.
      ((listing_exact g so k x).0 m).sides.split.either p ∙ sym (mem_or p x.left x.right))))

-- counting the records of a page is counting its groups
module _ (g : SignedGraph) (k : Threshold) (m : Bookmark) (buffer : List ℕ) (passes : check_of g k ≡ passed) where
  page_sets : record_sets (take (record_width * (page_of g k m (length buffer)).count) (page_bytes g k m buffer))
      ≡ map item_set (take (length buffer / record_width) (due_groups g k m))
  page_sets =
      let ds : List Item = take (length buffer / record_width) (due_groups g k m) in
      ap record_sets (page_records_law g k m buffer passes)
      ∙ ap (map (λ r. joined (sides_of r))) (records_back ds)
      ∙ told ds (all_take Told (length buffer / record_width) (due_groups g k m)
      (due_all g k Told (listing_told g (to_sound g (accepted_sound g k passes)) k) m))
    where
      told : (l : List Item) → All Told l → map (λ r. joined (sides_of r)) (map record_of l) ≡ map item_set l
      told [] h = refl
      told (x ∷ l) h = ap₂ (λ (s : ℕ) (r : List ℕ). s ∷ r) h.0 (told l h.1)

  pub page_counted : (room : ℕ) → length buffer ≡ room → (page : Page) → page ≡ page_of g k m room → (out : List ℕ)
      → out ≡ page_bytes g k m buffer → (sets counts : List ℕ)
      → foldl (raised sets) counts (record_sets (take (record_width * page.count) out))
      ≡ foldl (raised_by sets) counts (take (room / record_width) (due_groups g k m))
  page_counted room long page is out wrote sets counts =
      ap (λ (p : Page). foldl (raised sets) counts (record_sets (take (record_width * p.count) out))) (is ∙ ap (page_of g k m) (sym long))
      ∙ ap (λ (o : List ℕ). foldl (raised sets) counts (record_sets (take (record_width * (page_of g k m (length buffer)).count) o))) wrote
      ∙ ap (foldl (raised sets) counts) page_sets
      ∙ foldl-map item_set (raised sets) (take (length buffer / record_width) (due_groups g k m)) counts
      ∙ ap (λ (n : ℕ). foldl (raised_by sets) counts (take (n / record_width) (due_groups g k m))) long
