-- `listing::list_page` meets its contract. The check decides, then the page of a sound graph holds all groups due. Assumes nothing.
use Rattle.std.proofs.Common.{◌≡◌, length, arith}
use Rattle.std.proofs.lemmas.Grind.{common_steps}
use Rattle.group_pages.specs.Calls.{page_of}
use Rattle.group_pages.proofs.Calls.{page_number, page_valued}
use Rattle.listing.proofs.list_page.Goals as goal
use Rattle.listing.proofs.list_page.Goals.{After-list_sound}

answered : (c : After-list_sound) → let a = c.args in c.list_sound.result ≡ page_of a.g a.k a.from (length a.out.now)
answered c = grind (arith, common_steps)

pub returns-in-Ok-clause-number : goal.returns-in-Ok-clause-number
returns-in-Ok-clause-number c =
    let a = c.args in
    page_number a.g a.k a.from (length a.out.now) (answered (goal.at.returns-in-Ok-clause-number c).After-list_sound)

pub returns-in-Ok-clause-values : goal.returns-in-Ok-clause-values
returns-in-Ok-clause-values c =
    let a = c.args in
    page_valued a.g a.k a.from (length a.out.now) (answered (goal.at.returns-in-Ok-clause-values c).After-list_sound)
