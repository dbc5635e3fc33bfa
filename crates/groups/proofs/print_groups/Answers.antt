-- A page is counted: so the sum of the pages so far is the number of the groups walked, of which there are fewer than 2 to the 64.
use Rattle.std.proofs.Common.{ℕ, ◌+◌, ◌^◌, ◌<◌, ◌≡◌, length, take, arith}
use mathlib.Core.List.{foldl}
use lib.ListN.{length-take}
use Rattle.signed_graph.specs.declared.SignedGraph.{SignedGraph}
use Rattle.signed_graph.specs.Calls.{passed, check_of}
use Rattle.signed_graph.proofs.Soundness.{to_sound}
use Rattle.signed_graph.proofs.Calls.{accepted_sound}
use Rattle.pages.specs.declared.Bookmark.{Bookmark}
use Rattle.pages.specs.declared.End.TheVariants.{Finished}
use Rattle.pages.specs.declared.Page.{Page}
use Rattle.clique.specs.Listing.{item_set, listing}
use Rattle.pages.proofs.Walks.{walked_start, one_more, fold_count}
use Rattle.group_pages.specs.Calls.{due_groups, page_of}
use Rattle.group_pages.proofs.Counts.{listing_few}
use Rattle.group_pages.proofs.Walks.{WalkedGroups, page_count, page_fewer, groups_next, groups_all}
use Rattle.output_text.specs.PageTexts.{page_records, page_room}
use Rattle.groups.proofs.print_groups.Goals as goal

module _ (g : SignedGraph) (k : ℕ) (accepted : check_of g k ≡ passed) (from : Bookmark) (count : ℕ) (page : Page)
    (walked : WalkedGroups g k one_more 0 from count) (is : page ≡ page_of g k from page_room) where
  counted : count + page.count ≡ foldl one_more count (take page_records (due_groups g k from))
  counted =
      omega (arith, page_count g k accepted from page_room page is, fold_count count (take page_records (due_groups g k from)))

  few : count + page.count < 2 ^ 64
  few =
      omega (
        arith,
        page_count g k accepted from page_room page is,
        length-take page_records (due_groups g k from),
        walked,
        fold_count count (due_groups g k from),
        fold_count 0 (listing g k),
        listing_few g (to_sound g (accepted_sound g k accepted)) k,
      )

  next : WalkedGroups g k one_more 0 page.next (count + page.count)
  next = groups_next g k accepted from page_room page is one_more 0 count (count + page.count) walked counted

  last : page.end ≡ Finished → count + page.count ≡ length (listing g k)
  last e =
      omega (
        arith,
        groups_all g k accepted from page_room page is one_more 0 count (count + page.count) walked counted e,
        fold_count 0 (listing g k),
      )

pub loop-page-init : goal.loop-page-init
loop-page-init c = walked_start item_set _ one_more 0

pub overflow_add-count : goal.overflow_add-count
overflow_add-count c =
    let l = c.loop-page in
    omega (arith, few c.args.g c.args.k c.requires l.from l.count c.in_ok-page.page l.invariant c.in_ok-page.ensures)

pub returns-in_default : goal.returns-in_default
returns-in_default c =
    let l = c.loop-page in
    last c.args.g c.args.k c.requires l.from l.count c.in_ok-page.page l.invariant c.in_ok-page.ensures c.in_default.is

pub loop-page-smaller : goal.loop-page-smaller
loop-page-smaller c =
    page_fewer c.args.g c.args.k c.requires c.loop-page.from page_room c.in_ok-page.page c.in_ok-page.ensures (omega arith) c.in-More.is

pub loop-page-preserved : goal.loop-page-preserved
loop-page-preserved c =
    let l = c.loop-page in
    next c.args.g c.args.k c.requires l.from l.count c.in_ok-page.page l.invariant c.in_ok-page.ensures
