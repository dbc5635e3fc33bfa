-- `canonical::put_edges` meets its contract. The edges to the members that are left are to come. Assumes nothing.
use mathlib.Core.Path.{refl}
use mathlib.Core.List.{[], ◌∷◌}
use Rattle.vertex_set.proofs.Buffers.{laid_as, piece_room, laid_piece, laid_length, laid_end}
use Rattle.vertex_set.proofs.LowestVertex.{rest_lt}
use Rattle.canonical.proofs.Rows.{bytes_none, bytes_lowest}
use Rattle.canonical.proofs.put_edges.Goals as goal

pub overwrite-requires : goal.overwrite-requires
overwrite-requires c =
    let l = c.loop-q.invariant in
    let k = c.edge_command-command in
    let next = bytes_lowest c.args.positive c.args.p l.0 c.in-Some.ensures.steps k.ensures in
    piece_room (k.result ∷ c.args.p ∷ c.in-Some.q ∷ []) _ (laid_as next l.1)

pub loop-q-preserved : goal.loop-q-preserved
loop-q-preserved c =
    let l = c.loop-q.invariant in
    let k = c.edge_command-command in
    let t = c.in-Some.ensures.steps in
    let next = bytes_lowest c.args.positive c.args.p l.0 t k.ensures in (
      rw t.is_rest (rest_lt 64 c.loop-q.q-iterator.left l.0),
      laid_piece (k.result ∷ c.args.p ∷ c.in-Some.q ∷ []) _ _ 3 (laid_as next l.1) refl c.overwrite.ensures,
    )

pub returns : goal.returns
returns c =
    let e = laid_as (bytes_none c.args.positive c.args.p _ c.in-None.ensures.steps.0) c.loop-q.invariant.1 in
    record { length = laid_length e; bytes = laid_end e }
