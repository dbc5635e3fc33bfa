-- Different groups of a listing have different records. Assumes nothing.
use Prim.Native.Nat.{ℕ, ◌^◌, ◌<◌}
use mathlib.Core.Path.{◌≡◌, refl, sym, ap, ap₂, ◌∙◌, subst}
use mathlib.Core.Bool.{◌||◌}
use mathlib.Core.List.{Memᴰ}
use lib.ListN.{length, take, drop}
use lib.Seq.{take_at, drop_at}
use Rattle.vertex_set.specs.Sets.{mem}
use Rattle.vertex_set.proofs.Membership.{set_ext}
use Rattle.signed_graph.specs.declared.SignedGraph.{SignedGraph}
use Rattle.signed_graph.proofs.Soundness.{Sound}
use Rattle.signed_graph.specs.Thresholds.{Threshold}
use Rattle.clique.proofs.Balance.{left_lt, right_lt}
use Rattle.clique.specs.Listing.{Item, Listed, listing}
use Rattle.words.specs.Words.{word_bytes}
use Rattle.words.proofs.Words.{one_number}
use Rattle.group_pages.specs.Records.{sides_record, record_of}
use Rattle.clique.proofs.Listing.{listed_is, listing_exact}

length_8 : (x : ℕ) → length (word_bytes 8 x) ≡ 8
unfolding word_bytes
length_8 x = refl

module _ (a b : ℕ) where
  left_bytes : take 8 (sides_record a b) ≡ word_bytes 8 a
  unfolding sides_record
  left_bytes = take_at (word_bytes 8 a) (word_bytes 8 b) 8 (length_8 a)

  right_bytes : drop 8 (sides_record a b) ≡ word_bytes 8 b
  unfolding sides_record
  right_bytes = drop_at (word_bytes 8 a) (word_bytes 8 b) 8 (length_8 a)

module _ (g : SignedGraph) (so : Sound g) (k : Threshold) where
  pub records_differ : (x y : Item) → Memᴰ x (listing g k) → Memᴰ y (listing g k) → record_of x ≡ record_of y → x ≡ y
  records_differ x y mx my e =
      let hx = (listing_exact g so k x).0 mx in
      let hy = (listing_exact g so k y).0 my in
      let l : x.left ≡ y.left =
      one_number 8 x.left y.left (sides_lt x hx).0 (sides_lt y hy).0
      (sym (left_bytes x.left x.right) ∙ ap (take 8) e ∙ left_bytes y.left y.right) in
      let r : x.right ≡ y.right =
      one_number 8 x.right y.right (sides_lt x hx).1 (sides_lt y hy).1
      (sym (right_bytes x.left x.right) ∙ ap (drop 8) e ∙ right_bytes y.left y.right) in
      let s : x.vertices ≡ y.vertices =
      set_ext x.vertices y.vertices (λ p.
      hx.sides.split.either p ∙ ap₂ (λ (i j : ℕ). mem p i || mem p j) l r ∙ sym (hy.sides.split.either p)) in
      λ i. record { vertices = s i; left = l i; right = r i }
    where
      sides_lt : (x : Item) → Listed g k x → (x.left < 2 ^ 64) × (x.right < 2 ^ 64)
      sides_lt x h =
          subst (λ (z : Item). (z.left < 2 ^ 64) × (z.right < 2 ^ 64)) (listed_is g so k x h)
          (left_lt g x.vertices, right_lt g x.vertices)
