-- Where no group is below a node, and which vertices all groups below it hold. Assumes nothing.
use Prim.Native.Nat.{ℕ}
use mathlib.Core.Path.{◌≡◌, sym, ap, ◌∙◌}
use mathlib.Core.Logic.{◌≢◌}
use mathlib.Core.Bool.{true, false}
use Rattle.vertex_set.specs.Sets.{mem, insert, size}
use Rattle.vertex_set.proofs.Booleans.{clash, refute, cases, or_left, or_cases}
use Rattle.vertex_set.proofs.Membership.{union_cases, union_other}
use Rattle.vertex_set.proofs.Sizes.{size_subset}
use Rattle.signed_graph.specs.declared.SignedGraph.{SignedGraph}
use Rattle.signed_graph.specs.Graphs.{positive_edge, negative_edge}
use Rattle.signed_graph.proofs.Soundness.{Sound}
use Rattle.signed_graph.specs.Thresholds.{Threshold}
use Rattle.clique.specs.Balance.{Split}
use Rattle.clique.specs.Groups.{floor, Group}
use Rattle.clique.proofs.Balance.{split_swap, balanced_words}
use Rattle.clique.proofs.Groups.{floor_mono, maximal_single}
use Rattle.clique.proofs.Extension.{joins_extend}
use Rattle.nodes.specs.declared.Side.{Side}
use Rattle.nodes.specs.declared.Node.{Node}
use Rattle.clique.specs.Listing.{Item, Listed}
use Rattle.nodes.specs.Nodes.{reach, CanJoin, Half, Valid, FreeOn, Universal, on_left, on_right, Sole, Between, Below, Barren}
use Rattle.clique.proofs.Listing.{listed_enough, listed_left, listed_right}
use Rattle.nodes.proofs.Nodes.{fits_new, fits_off}

module _ (g : SignedGraph) (so : Sound g) (k : Threshold) where
  -- ---- a side with all its candidates is too small (R1)

  pub short_barren : (d : Node) → floor k (size (reach d.left)) (size (reach d.right)) ≡ false → Barren g k d
  short_barren d e x lx b =
      let L : ℕ = reach d.left in
      let R : ℕ = reach d.right in
      clash (floor k (size L) (size R))
      (floor_mono k (size x.left) (size x.right) (size L) (size R)
      (size_subset x.left L b.left.only) (size_subset x.right R b.right.only) (listed_enough g so k x lx)) e

  -- ---- a vertex u that fits beside the candidates that a set has

  -- on the side `near`, `far` being the other, beside those of the sets l and r
  record FitsIn (near far : Side) (l r u : ℕ) : Type 0 where
    same : (w : ℕ) → mem w l ≡ true → mem w near.candidates ≡ true → w ≢ u → positive_edge g w u ≡ true
    cross : (w : ℕ) → mem w r ≡ true → mem w far.candidates ≡ true → negative_edge g w u ≡ true

  module _ {near far : Side} {s l r u : ℕ} (o : Group g k s) (sp : Split g s l r) (a : Between near l) (b : Between far r)
      (fit : FitsIn near far l r u) where
    -- it fits beside all of sets l and r between the sides
    fits_all : mem u l ≡ false → CanJoin g near.chosen far.chosen u → CanJoin g l r u
    fits_all off f =
        record {
          usable = f.usable;
          same = λ q m.
              union_cases (positive_edge g q u ≡ true) q near.chosen near.candidates (a.only q m) (f.same q)
              (λ x. fit.same q m x (λ e. clash (mem u l) (ap (λ (z : ℕ). mem z l) (sym e) ∙ m) off));
          cross = λ q m.
              union_cases (negative_edge g q u ≡ true) q far.chosen far.candidates (b.only q m) (f.cross q) (fit.cross q m);
        }

    -- so a group with these sides holds it
    fits_held : CanJoin g near.chosen far.chosen u → mem u s ≡ true
    fits_held f =
        cases (mem u s ≡ true) (mem u s) (λ m. m) (λ off.
        let not-l = refute (mem u l) (λ m. clash (mem u s) (sp.either u ∙ or_left (mem u l) (mem u r) m) off) in
        let j : CanJoin g l r u = fits_all not-l f in
        absurd (maximal_single g so s o.maximal u off
        (balanced_words g so (insert u s)
        (joins_extend g so s u off o.balanced j.usable sp (record { inside = j.same; across = j.cross })))))

    -- and there is none where it was left out
    fits_out : Half g near far.chosen → mem u near.excluded ≡ true → ⊥
    fits_out half m =
        let f : CanJoin g near.chosen far.chosen u = half.out u m in
        or_cases ⊥ (mem u l) (mem u r) (sym (sp.either u) ∙ fits_held f)
        (λ y. clash (mem u near.excluded) m (half.apart u
        (union_other u near.chosen near.candidates (a.only u y) (fits_new g so near.chosen far.chosen u f))))
        (λ y. clash (negative_edge g u u)
        (fit.cross u y
        (union_other u far.chosen far.candidates (b.only u y) (fits_off g so near.chosen far.chosen u f)))
        (so.negatives.loopless u))

  -- a free vertex fits beside all candidates
  free_in : {near far : Side} (l r u : ℕ) → FreeOn g.positive g.negative near far u → FitsIn near far l r u
  free_in l r u free = record { same = λ w _ m ne. free.same w m ne; cross = λ w _ m. free.cross w m }

  -- a vertex that only u keeps from joining fits beside sets that lack u
  sole_in : {near far : Side} {l r u : ℕ} (e : Sole g.positive g.negative near.excluded near.candidates far.candidates u)
      → mem u l ≡ false → mem u r ≡ false → FitsIn near far l r e.by
  sole_in {near} {far} {l} {r} {u} e off-l off-r =
      record {
        same = λ w i m _. so.positives.symmetric w e.by ∙ e.same w m (other l off-l w i);
        cross = λ w i m. so.negatives.symmetric w e.by ∙ e.cross w m (other r off-r w i);
      }
    where
      other : (t : ℕ) → mem u t ≡ false → (w : ℕ) → mem w t ≡ true → w ≢ u
      other t off w i e = clash (mem w t) i (ap (λ (z : ℕ). mem z t) e ∙ off)

  -- ---- at a node

  module _ (d : Node) (h : Valid g d) (u : ℕ) (x : Item) (lx : Listed g k x) (b : Below d x) where
    swapped : Split g x.vertices x.right x.left
    swapped = split_swap g so lx.sides.split

    -- a vertex that was left out is free (R2)
    pub dominated_left : mem u d.left.excluded ≡ true → FreeOn g.positive g.negative d.left d.right u → ⊥
    dominated_left m free =
        fits_out lx.group lx.sides.split b.left b.right (free_in x.left x.right u free) h.left m

    pub dominated_right : mem u d.right.excluded ≡ true → FreeOn g.positive g.negative d.right d.left u → ⊥
    dominated_right m free =
        fits_out lx.group swapped b.right b.left (free_in x.right x.left u free) h.right m

    -- a candidate is free (R7)
    pub universal_held : Universal g.positive g.negative d u → mem u x.vertices ≡ true
    universal_held (on_left m f) =
        fits_held lx.group lx.sides.split b.left b.right (free_in x.left x.right u f) (h.left.candidate u m)
    universal_held (on_right m f) =
        fits_held lx.group swapped b.right b.left (free_in x.right x.left u f) (h.right.candidate u m)

    -- u alone keeps a vertex that was left out from joining
    off_left : mem u x.vertices ≡ false → mem u x.left ≡ false
    off_left off = refute (mem u x.left) (λ m. clash (mem u x.vertices) (listed_left lx u m) off)

    off_right : mem u x.vertices ≡ false → mem u x.right ≡ false
    off_right off = refute (mem u x.right) (λ m. clash (mem u x.vertices) (listed_right lx u m) off)

    pub required_left : Sole g.positive g.negative d.left.excluded d.left.candidates d.right.candidates u
        → mem u x.vertices ≡ true
    required_left e =
        cases (mem u x.vertices ≡ true) (mem u x.vertices) (λ m. m) (λ off.
        absurd (fits_out lx.group lx.sides.split b.left b.right (sole_in e (off_left off) (off_right off)) h.left e.out))

    pub required_right : Sole g.positive g.negative d.right.excluded d.right.candidates d.left.candidates u
        → mem u x.vertices ≡ true
    required_right e =
        cases (mem u x.vertices ≡ true) (mem u x.vertices) (λ m. m) (λ off.
        absurd (fits_out lx.group swapped b.right b.left (sole_in e (off_right off) (off_left off)) h.right e.out))
