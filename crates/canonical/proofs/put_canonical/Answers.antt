-- `canonical::put_canonical` meets its contract. The opening, the edges, the masks and the close are written one behind another.
-- Assumes nothing.
use Prim.Native.Nat.{ℕ, ◌+◌, ◌-◌, ◌≤◌}
use native.Mathlib.Omega.{arith}
use mathlib.Core.Path.{◌≡◌}
use mathlib.Core.List.{List, [], ◌∷◌, ◌++◌}
use lib.ListN.{length, take, drop, set, length-set}
use borrow.Rule.Slice.PartMut.{put_mid}
use Rattle.vertex_set.specs.Buffers.{overwritten}
use Rattle.vertex_set.proofs.Buffers.{Laid, laid_start, laid_as, laid_room, laid_long, piece_room, laid_piece, laid_store, laid_end}
use Rattle.signed_graph.specs.declared.SignedGraph.{SignedGraph}
use Rattle.signed_graph.proofs.Soundness.{to_sound}
use Rattle.commands.specs.Entries.{entry_bytes}
use Rattle.canonical.specs.Canonical.{ordered_edges, ordered_masks, ordered_entries, canonical}
use Rattle.canonical.proofs.Rows.{bytes_parts}
use Rattle.canonical.proofs.put_canonical.Goals as goal

abbrev edges : SignedGraph → List ℕ
edges g = entry_bytes (ordered_edges g)

abbrev masks : SignedGraph → List ℕ
masks g = entry_bytes (ordered_masks g)

module _ (g : SignedGraph) (out : List ℕ) (room : length (canonical g) ≤ length out) where
  -- the buffer behind the opening, and behind the edges
  abbrev start : List ℕ
  start = set (set out 0 0x10) 1 g.n

  abbrev middle : List ℕ → List ℕ
  middle last = put_mid 2 (length start - 2) start last

  opened : Laid (canonical g) out start 2 (edges g ++ (masks g ++ 0xff ∷ []))
  opened =
      let behind = entry_bytes (ordered_entries g) ++ 0xff ∷ [] in
      laid_as (bytes_parts g) (laid_store g.n behind (laid_store 0x10 (g.n ∷ behind) (laid_start (canonical g) out room)))

  module _ {last : List ℕ} {k : ℕ} (e : k ≡ length (edges g))
      (is : last ≡ overwritten (edges g) (take (length start - 2) (drop 2 start))) where
    joined : Laid (canonical g) out (middle last) (2 + k) (masks g ++ 0xff ∷ [])
    joined = laid_piece (edges g) (masks g ++ 0xff ∷ []) last k opened e is

    filled : {end : List ℕ} {m : ℕ} → m ≡ length (masks g)
        → end ≡ overwritten (masks g) (take (length (middle last) - (2 + k)) (drop (2 + k) (middle last)))
        → Laid (canonical g) out (put_mid (2 + k) (length (middle last) - (2 + k)) (middle last) end) (2 + k + m) (0xff ∷ [])
    filled {end} {m} f at_end = laid_piece (masks g) (0xff ∷ []) end m joined f at_end

pub overflow_cast-out : goal.overflow_cast-out
overflow_cast-out c = omega (arith, (to_sound c.args.g.graph.now c.args.g.is_sound).small)

pub bounds-out-1 : goal.bounds-out-1
bounds-out-1 c = simp length-set (omega arith)

pub slice_bounds-put_rows-count : goal.slice_bounds-put_rows-count
slice_bounds-put_rows-count c =
    let e = opened c.args.g.graph.now c.args.out.now c.requires in
    omega (arith, laid_room e, laid_long e)

pub slice_bounds-put_rows-start : goal.slice_bounds-put_rows-start
slice_bounds-put_rows-start c =
    let e = opened c.args.g.graph.now c.args.out.now c.requires in
    omega (arith, laid_room e, laid_long e)

pub put_rows-edges-requires : goal.put_rows-edges-requires
put_rows-edges-requires c =
    let g = c.args.g.graph.now in
    (piece_room (edges g) (masks g ++ 0xff ∷ []) (opened g c.args.out.now c.requires))

pub overflow_add-behind : goal.overflow_add-behind
overflow_add-behind c =
    let r = c.put_rows-edges in
    omega (arith, laid_room (joined c.args.g.graph.now c.args.out.now c.requires r.ensures.length r.ensures.bytes))

pub slice_bounds-put_masks-count : goal.slice_bounds-put_masks-count
slice_bounds-put_masks-count c =
    let r = c.put_rows-edges in
    let e = joined c.args.g.graph.now c.args.out.now c.requires r.ensures.length r.ensures.bytes in
    omega (arith, laid_room e, laid_long e)

pub slice_bounds-put_masks-start : goal.slice_bounds-put_masks-start
slice_bounds-put_masks-start c =
    let r = c.put_rows-edges in
    let e = joined c.args.g.graph.now c.args.out.now c.requires r.ensures.length r.ensures.bytes in
    omega (arith, laid_room e, laid_long e)

pub put_masks-masks-requires : goal.put_masks-masks-requires
put_masks-masks-requires c =
    let r = c.put_rows-edges in
    let g = c.args.g.graph.now in
    piece_room (masks g) (0xff ∷ []) (joined g c.args.out.now c.requires r.ensures.length r.ensures.bytes)

pub overflow_add-close : goal.overflow_add-close
overflow_add-close c =
    let r = c.put_rows-edges in
    let m = c.put_masks-masks in
    omega (arith, laid_room (filled c.args.g.graph.now c.args.out.now c.requires r.ensures.length r.ensures.bytes m.ensures.length m.ensures.bytes))

pub bounds-out-close : goal.bounds-out-close
bounds-out-close c =
    let r = c.put_rows-edges in
    let m = c.put_masks-masks in
    let e = filled c.args.g.graph.now c.args.out.now c.requires r.ensures.length r.ensures.bytes m.ensures.length m.ensures.bytes in
    omega (arith, laid_room e, laid_long e)

pub shape_of-out : goal.shape_of-out
shape_of-out c =
    let r = c.put_rows-edges in
    let m = c.put_masks-masks in
    laid_long (laid_store 0xff []
    (filled c.args.g.graph.now c.args.out.now c.requires r.ensures.length r.ensures.bytes m.ensures.length m.ensures.bytes))

pub returns : goal.returns
returns c =
    let r = c.put_rows-edges in
    let m = c.put_masks-masks in
    laid_end (laid_store 0xff []
    (filled c.args.g.graph.now c.args.out.now c.requires r.ensures.length r.ensures.bytes m.ensures.length m.ensures.bytes))
