-- `report::put_refusal` meets its contract. The line is its word and the number. Assumes nothing.
use Rattle.std.proofs.Common.{ℕ, List, ◌≤◌, length, sym, ap, ◌∙◌, subst}
use Rattle.vertex_set.specs.Buffers.{overwritten}
use Rattle.report.specs.Lines.{refused_word, refusal_line}
use Rattle.report.proofs.Words.{number_parts}
use Rattle.report.proofs.put_refusal.Goals as goal

pub put_number-requires : goal.put_number-requires
unfolding refusal_line
put_number-requires c = subst (λ (l : List ℕ). length l ≤ length c.args.out.now) (number_parts refused_word c.args.number) c.requires

pub returns : goal.returns
unfolding refusal_line
returns c =
    let e = sym (number_parts refused_word c.args.number) in
    let r = c.put_number.ensures in
    record { length = r.length ∙ ap length e; bytes = r.bytes ∙ ap (λ (l : List ℕ). overwritten l c.args.out.now) e }
