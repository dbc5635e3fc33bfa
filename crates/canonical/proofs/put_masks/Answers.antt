-- `canonical::put_masks` meets its contract. The masks of the vertices that are left are to come. Assumes nothing.
use mathlib.Core.Path.{refl}
use mathlib.Core.List.{[], ◌∷◌}
use Rattle.vertex_set.proofs.Buffers.{laid_as, piece_room, laid_piece, laid_length, laid_end}
use Rattle.vertex_set.proofs.LowestVertex.{rest_lt}
use Rattle.canonical.proofs.Rows.{masks_none, masks_lowest}
use Rattle.canonical.proofs.put_masks.Goals as goal

pub overwrite-requires : goal.overwrite-requires
overwrite-requires c =
    let l = c.loop-p.invariant in
    piece_room (0x23 ∷ c.in-Some.p ∷ []) _ (laid_as (masks_lowest l.0 c.in-Some.ensures.steps) l.1)

pub loop-p-preserved : goal.loop-p-preserved
loop-p-preserved c =
    let l = c.loop-p.invariant in
    let t = c.in-Some.ensures.steps in (
      rw t.is_rest (rest_lt 64 c.loop-p.p-iterator.left l.0),
      laid_piece (0x23 ∷ c.in-Some.p ∷ []) _ _ 2 (laid_as (masks_lowest l.0 t) l.1) refl c.overwrite.ensures,
    )

pub returns : goal.returns
returns c =
    let e = laid_as (masks_none _ c.in-None.ensures.steps.0) c.loop-p.invariant.1 in
    record { length = laid_length e; bytes = laid_end e }
