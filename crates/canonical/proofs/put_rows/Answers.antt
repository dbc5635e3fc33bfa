-- `canonical::put_rows` meets its contract. The edges from p on are to come. Assumes nothing.
use native.Mathlib.Omega.{arith}
use mathlib.Core.Path.{ap}
use Rattle.vertex_set.proofs.Buffers.{laid_start, laid_as, piece_room, laid_piece, laid_length, laid_end}
use Rattle.signed_graph.proofs.Soundness.{to_sound}
use Rattle.commands.specs.Entries.{entry_bytes}
use Rattle.canonical.specs.EdgeRows.{edges_to}
use Rattle.canonical.proofs.Rows.{from_start, bytes_row, bytes_end}
use Rattle.canonical.proofs.put_rows.Goals as goal

pub loop-p-init : goal.loop-p-init
loop-p-init c = laid_as (ap entry_bytes (from_start c.args.g.graph.now)) (laid_start _ _ c.requires)

pub partners-partners-requires : goal.partners-partners-requires
partners-partners-requires c = omega (arith, c.loop-p-test.true, (to_sound _ c.args.g.is_sound).small)

pub put_edges-written-requires : goal.put_edges-written-requires
put_edges-written-requires c =
    let s = to_sound c.args.g.graph.now c.args.g.is_sound in
    let x = c.members_above-above in
    let row = bytes_row c.args.g.graph.now s c.loop-p.p c.loop-p-test.true c.partners-partners.ensures x.ensures in (
      omega (arith, c.loop-p-test.true, s.small),
      piece_room (entry_bytes (edges_to c.partners-partners.result.positive x.result c.loop-p.p)) _ (laid_as row c.loop-p.invariant),
    )

pub loop-p-preserved : goal.loop-p-preserved
loop-p-preserved c =
    let s = to_sound c.args.g.graph.now c.args.g.is_sound in
    let x = c.members_above-above in
    let r = c.put_edges-written in
    let row = bytes_row c.args.g.graph.now s c.loop-p.p c.loop-p-test.true c.partners-partners.ensures x.ensures in
    laid_piece (entry_bytes (edges_to c.partners-partners.result.positive x.result c.loop-p.p)) _ _ r.result
    (laid_as row c.loop-p.invariant) r.ensures.length r.ensures.bytes

pub returns : goal.returns
returns c =
    let e = laid_as (bytes_end c.args.g.graph.now c.loop-p.p c.loop-p-test.false) c.loop-p.invariant in
    record { length = laid_length e; bytes = laid_end e }
