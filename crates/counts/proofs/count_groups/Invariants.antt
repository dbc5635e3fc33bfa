-- `counts::count_groups` meets its contract: the groups before a bookmark are counted, and fewer are due from page to page.
-- Assumes nothing.
use Rattle.std.proofs.Common.{length}
use Rattle.group_pages.specs.Calls.{due_groups}
use Rattle.group_pages.proofs.Walks.{WalkedGroups}
use Rattle.counts.specs.Tallies.{raised_by}
use Rattle.counts.proofs.count_groups.Given as goal

abbrev pub invariant-loop-from : goal.invariant-loop-from
invariant-loop-from l = WalkedGroups l.g l.k (raised_by l.sets) l.initial.counts l.from l.counts

abbrev pub decreases-loop-from : goal.decreases-loop-from
decreases-loop-from l = length (due_groups l.g l.k l.from)
