-- `group_pages::sides_of` meets its contract. Assumes nothing.
use Rattle.std.proofs.Common.{arith}
use Rattle.std.proofs.lemmas.Grind.{common_steps}
use Rattle.vertex_set.proofs.Buffers.{part_from_law}
use Rattle.group_pages.proofs.sides_of.Goals as goal

pub returns : goal.returns
returns c = grind (arith, common_steps, part_from_law)
