-- `output_text::put_records` meets its contract. The lines of the records so far stand there, and each had room. Assumes nothing.
use Rattle.std.specs.Prelude.{flat_map}
use Rattle.std.proofs.Common.{◌≡◌, ◌*◌, ◌≤◌, take, length}
use Rattle.report.specs.Lines.{longest_line}
use Rattle.output_text.specs.Records.{record_line}
use Rattle.output_text.proofs.put_records.Given as goal

abbrev pub invariant-loop-record : goal.invariant-loop-record
invariant-loop-record l =
    (length l.text.bytes ≤ longest_line * l.record-index) × (l.text.bytes ≡ flat_map record_line (take l.record-index l.record-items))
