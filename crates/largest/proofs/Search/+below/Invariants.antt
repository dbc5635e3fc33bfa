-- `largest::Search::below` ends: the vertices still undecided fall in number at each call of itself. Assumes nothing.
use Rattle.vertex_set.specs.Sets.{size}
use Rattle.nodes.specs.Nodes.{undecided}
use Rattle.largest.proofs.Search.+below.Given as goal

abbrev pub decreases-below : goal.decreases-below
decreases-below l = size (undecided l.at)
