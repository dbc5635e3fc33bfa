-- `largest::largest` meets its contract: the number of its answer. Assumes nothing.
use mathlib.Core.Path.{◌≡◌, ap, ◌∙◌}
use borrow.Author.Rules.{rules}
use Rattle.signed_graph.specs.Calls.{answer_number}
use Rattle.largest.specs.Largest.{largest_group}
use Rattle.largest.proofs.Bests.{largest_number_law}
use Rattle.largest.proofs.largest.Goals as goal

pub returns-clause-number : goal.returns-clause-number
returns-clause-number c =
    let a = c.args in
    let whole : c.largest_sound.result ≡ largest_group a.g a.k = search rules in
    ap answer_number whole ∙ largest_number_law a.g a.k
