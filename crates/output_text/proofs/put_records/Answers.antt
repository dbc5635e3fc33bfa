-- `output_text::put_records` meets its contract. The lines of the records so far stand there, and each had room. Assumes nothing.
use Rattle.std.specs.Prelude.{flat_map}
use Rattle.std.proofs.Common.{ℕ, ◌/◌, List, length, arith, ap, ◌∙◌}
use lib.Seq.{take_all}
use Rattle.output_text.specs.Records.{record_line}
use Rattle.output_text.proofs.Texts.{length_chunks}
use Rattle.output_text.proofs.put_records.Goals as goal

pub unwrap-requires : goal.unwrap-requires
unwrap-requires c =
    let s = c.args.records.now in
    let many = ap (length {A = List ℕ}) c.records_in-record-items.ensures ∙ length_chunks 16 (length s / 16) s in
    c.write.ensures.room.1 (omega (arith, c.requires, c.loop-record.invariant.0, c.loop-record-test.true, c.write.ensures.short, many))

pub returns : goal.returns
returns c =
    let items = c.records_in-record-items in
    c.loop-record.invariant.1
    ∙ ap (flat_map record_line) (take_all c.loop-record.record-index items.result.now c.loop-record-test.false ∙ items.ensures)
