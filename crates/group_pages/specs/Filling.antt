-- For proofs: pages that are filled with groups. Assumes nothing.
use Rattle.std.specs.Prelude.{ℕ, List}
use Rattle.clique.specs.Listing.{Item, item_set}
use Rattle.pages.specs.declared.Bookmark.{Bookmark}
use Rattle.pages.specs.declared.Page.{Page}
use Rattle.pages.specs.Filling.{Holds, Adds}
use Rattle.group_pages.specs.Records.{record_width, record_of}

abbrev pub HoldsGroups : Bookmark → List ℕ → List Item → Page → List ℕ → Type 0
HoldsGroups m buffer met page out = Holds item_set record_of record_width m buffer met page out

abbrev pub AddsGroups : Bookmark → List Item → Page → List ℕ → Page → List ℕ → Type 0
AddsGroups m items page entry after exit = Adds item_set record_of record_width m items page entry after exit
