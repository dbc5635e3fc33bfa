-- `report::put_none` meets its contract. The bytes are the line. Assumes nothing.
use Rattle.std.proofs.Common.{refl}
use Rattle.report.specs.Lines.{preceded, spaced, line_of, none_line}
use Rattle.report.proofs.put_none.Goals as goal

pub overwrite-requires : goal.overwrite-requires
unfolding none_line line_of spaced preceded
overwrite-requires c = c.requires

pub returns : goal.returns
unfolding none_line line_of spaced preceded
returns c = record { length = refl; bytes = c.overwrite.ensures }
