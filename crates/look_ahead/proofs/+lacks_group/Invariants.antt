-- `look_ahead::lacks_group` ends: the vertices still undecided fall in number at each call of itself. Assumes nothing.
use Rattle.vertex_set.specs.Sets.{size}
use Rattle.nodes.specs.Nodes.{undecided}
use Rattle.look_ahead.proofs.+lacks_group.Given as goal

abbrev pub decreases-lacks_group : goal.decreases-lacks_group
decreases-lacks_group l = size (undecided l.at)
