-- `pages::is_past` meets its contract. Assumes nothing.
use Rattle.pages.proofs.Bookmarks.{past_after}
use Rattle.pages.proofs.is_past.Goals as goal

pub returns-in-After : goal.returns-in-After
returns-in-After c e =
    rw c.in-After.is (past_after c.in-After.t c.args.chosen c.args.v c.ranges.chosen.fits cc)
