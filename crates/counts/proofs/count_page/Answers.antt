-- `counts::count_page` meets its contract: the records are those of the groups. Assumes nothing.
use Rattle.std.proofs.Common.{◌∙◌, ℕ, replicate}
use Rattle.std.proofs.Math.ListN.{length-replicate}
use Rattle.counts.specs.Tallies.{walk_room}
use Rattle.counts.proofs.Pages.{page_counted}
use Rattle.counts.proofs.count_page.Goals as goal

pub returns-clause-counts : goal.returns-clause-counts
returns-clause-counts c =
    let a = c.args in
    let p = c.list_page-page.ensures in
    c.count_records.ensures
    ∙ page_counted a.g a.k a.from (replicate walk_room 0) c.requires walk_room (length-replicate {A = ℕ} walk_room 0) _ p.answer _ p.bytes
    a.sets.now a.counts.now
