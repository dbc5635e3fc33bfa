-- `bounds::at_most` ends: the candidates fall in number at each call of itself. Assumes nothing.
use Rattle.vertex_set.specs.Sets.{size}
use Rattle.std.specs.Int.Bits.{bit_or}
use Rattle.bounds.proofs.+at_most.Given as goal

abbrev pub decreases-at_most : goal.decreases-at_most
decreases-at_most g l = size (bit_or l.candidates.left l.candidates.right)
