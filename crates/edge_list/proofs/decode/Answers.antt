-- `edge_list::decode` meets its contract: it reads the list by its first byte. Assumes nothing.
use native.Mathlib.Omega.{arith}
use mathlib.Core.Path.{sym, ◌∙◌}
use Rattle.edge_list.proofs.Answers.{told, empty_first}
use Rattle.edge_list.proofs.Decoding.{read_edges}
use Rattle.edge_list.proofs.Openings.{as_before, opened_11, fault_1_empty, fault_1_first}
use Rattle.edge_list.proofs.decode.Goals as goal

pub returns-in-16 : goal.returns-in-16
returns-in-16 c = told _ _ (c.read_list.ensures ∙ read_edges _ (omega arith) (omega arith))

pub returns-in-17 : goal.returns-in-17
returns-in-17 c = told _ _ (c.decode_amendments.ensures ∙ sym (opened_11 _ (omega arith)))

pub returns-in_default : goal.returns-in_default
returns-in_default c =
    told _ _ (fault_1_empty _ (omega arith) ∙ sym (as_before _ (empty_first c.args.bytes.now (omega arith))))

pub returns-in_default-2 : goal.returns-in_default-2
returns-in_default-2 c = told _ _ (fault_1_first _ (λ e. omega arith) ∙ sym (as_before c.args.bytes.now (λ e. omega arith)))
