-- `listing::list_below` ends: the vertices still undecided fall in number at each call of itself. Assumes nothing.
use Rattle.vertex_set.specs.Sets.{size}
use Rattle.nodes.specs.Nodes.{undecided}
use Rattle.listing.proofs.+list_below.Given as goal

abbrev pub decreases-list_below : goal.decreases-list_below
decreases-list_below l = size (undecided l.at)
