-- `report::write` meets its contract. The line is at the front of the array, as UTF-8. Assumes nothing.
use Rattle.std.specs.Str.{IsUtf8}
use Rattle.std.proofs.Common.{sym, subst}
use Rattle.vertex_set.proofs.Buffers.{front_is}
use Rattle.decimals.proofs.Texts.{no_error}
use Rattle.report.specs.Lines.{line_text}
use Rattle.report.proofs.Words.{line_short}
use Rattle.report.proofs.Texts.{text_line}
use Rattle.report.proofs.write.Goals as goal

pub put_line-end-requires : goal.put_line-end-requires
put_line-end-requires g c = line_short c.args.line

pub unwrap-line-requires : goal.unwrap-line-requires
unwrap-line-requires g c =
    let r = c.put_line-end in
    let is = front_is (line_text c.args.line) _ _ r.result r.ensures.length r.ensures.bytes in
    no_error _ _ _ c.from_utf8.ensures.cases (λ e q. q.0 (subst IsUtf8 (sym is) (text_line c.args.line)))
