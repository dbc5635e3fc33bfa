-- `group_pages::put_group` meets its contract. Assumes nothing.
use native.Mathlib.Omega.{arith}
use Rattle.clique.specs.Listing.{item_set}
use Rattle.pages.proofs.Filling.{adds_more, adds_next}
use Rattle.group_pages.specs.Records.{record_width, record_of}
use Rattle.group_pages.proofs.Records.{record_wide}
use Rattle.group_pages.proofs.put_group.Goals as goal

pub returns-then-out-page : goal.returns-then-out-page
returns-then-out-page c m = adds_more item_set record_of record_width (omega arith) record_wide m _ _ _ c.if-out-page.true

pub returns : goal.returns
returns c m =
    adds_next item_set record_of record_width (omega arith) record_wide m _ _ _ _ c.if-out-page.false c.write_record.ensures
