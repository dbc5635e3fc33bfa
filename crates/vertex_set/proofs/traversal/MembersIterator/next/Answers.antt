-- `vertex_set::traversal::Members::next` meets its contract. One member fewer is left. Assumes nothing.
use borrow.Author.Rules.{rules}
use Rattle.vertex_set.proofs.LowestVertex.{lowest_lt, size_rest}
use Rattle.vertex_set.proofs.traversal.MembersIterator.next.Goals as goal

pub returns-clause-steps : goal.returns-clause-steps
returns-clause-steps c =
    let vertex = lowest_lt c.args.self.now.left (search rules) (search rules) in search (rules, vertex)

pub returns-clause-goes : goal.returns-clause-goes
returns-clause-goes c =
    let fewer = size_rest c.args.self.now.left (search rules) (search rules) in search (rules, fewer)
