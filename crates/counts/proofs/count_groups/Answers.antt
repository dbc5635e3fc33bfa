-- `counts::count_groups` meets its contract: the groups before a bookmark are counted, and fewer are due from page to page.
-- Assumes nothing.
use Rattle.std.proofs.Common.{arith}
use Rattle.clique.specs.Listing.{item_set, listing}
use Rattle.pages.proofs.Walks.{walked_start}
use Rattle.group_pages.proofs.Walks.{page_fewer, groups_next, groups_all}
use Rattle.counts.specs.Tallies.{walk_room, raised_by}
use Rattle.counts.proofs.count_groups.Goals as goal

pub loop-from-init : goal.loop-from-init
loop-from-init c = walked_start item_set (listing c.args.g c.args.k) (raised_by c.args.sets.now) c.args.counts.now

pub loop-from-smaller : goal.loop-from-smaller
loop-from-smaller c =
    page_fewer c.args.g c.args.k c.requires c.loop-from.from walk_room c.count_page-page.result c.count_page-page.ensures.page
    (omega arith) c.in-More.is

pub loop-from-preserved : goal.loop-from-preserved
loop-from-preserved c =
    groups_next c.args.g c.args.k c.requires c.loop-from.from walk_room c.count_page-page.result c.count_page-page.ensures.page
    (raised_by c.args.sets.now) c.args.counts.now c.loop-from.counts _ c.loop-from.invariant c.count_page-page.ensures.counts

pub returns-in_default : goal.returns-in_default
returns-in_default c =
    groups_all c.args.g c.args.k c.requires c.loop-from.from walk_room c.count_page-page.result c.count_page-page.ensures.page
    (raised_by c.args.sets.now) c.args.counts.now c.loop-from.counts _ c.loop-from.invariant c.count_page-page.ensures.counts c.in_default.is
