-- `report::write_bytes` meets its contract. The test picks the definitions' case. Assumes nothing.
use Rattle.std.proofs.Common.{List, ℕ, length, ap, ◌∙◌, arith}
use borrow.Author.Tests.{lt-ltb, le-ltb}
use Rattle.vertex_set.specs.Buffers.{overwritten}
use Rattle.vertex_set.proofs.Buffers.{front_is}
use Rattle.report.specs.Lines.{line_text}
use Rattle.report.specs.Writing.{written_length, written_line}
use Rattle.report.proofs.Words.{line_short}
use Rattle.report.proofs.write_bytes.Goals as goal

pub put_line-end-requires : goal.put_line-end-requires
put_line-end-requires c = line_short c.args.line

pub returns-then-out-end : goal.returns-then-out-end
unfolding written_length written_line
returns-then-out-end c =
    let a = c.args in
    let h = lt-ltb (length a.out.now) (length (line_text a.line)) (omega (arith, c.put_line-end.ensures.length)) in
    record { length = simp h; bytes = simp h }

pub returns : goal.returns
unfolding written_length written_line
returns c =
    let a = c.args in
    let r = c.put_line-end in
    let is = front_is (line_text a.line) _ _ r.result r.ensures.length r.ensures.bytes in
    let h = le-ltb (length a.out.now) (length (line_text a.line)) (omega (arith, r.ensures.length)) in
    record {
      length = r.ensures.length ∙ simp h;
      bytes = c.overwrite.ensures ∙ ap (λ (l : List ℕ). overwritten l a.out.now) is ∙ simp h;
    }
