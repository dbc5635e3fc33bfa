-- For proofs: the lines of records. Assumes nothing.
use Rattle.std.specs.Prelude.{ℕ, List, flat_map}
use Rattle.group_pages.specs.Records.{sides_of, records_in}
use Rattle.report.specs.declared.Line.TheVariants.{Group}
use Rattle.report.specs.Lines.{line_text}

-- the line of a record
abbrev pub record_line : List ℕ → List ℕ
record_line bytes = line_text (Group (sides_of bytes))

-- the lines of the records of a listing
abbrev pub records_text : List ℕ → List ℕ
records_text bytes = flat_map record_line (records_in bytes)
