-- The groups so far are walked and counted, and fewer are due from page to page.
use Rattle.std.proofs.Common.{length}
use Rattle.pages.proofs.Walks.{one_more}
use Rattle.group_pages.specs.Calls.{due_groups}
use Rattle.group_pages.proofs.Walks.{WalkedGroups}
use Rattle.groups.proofs.print_groups.Given as goal

abbrev pub invariant-loop-page : goal.invariant-loop-page
invariant-loop-page l = WalkedGroups l.g l.k one_more 0 l.from l.count

abbrev pub decreases-loop-page : goal.decreases-loop-page
decreases-loop-page l = length (due_groups l.g l.k l.from)
