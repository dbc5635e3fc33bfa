-- `bounds::independent` meets its contract. What is left, and what is apart, is joined to no member. Assumes nothing.
use Rattle.vertex_set.specs.Sets.{size}
use Rattle.bounds.proofs.Colours.{Picking}
use Rattle.bounds.proofs.independent.Given as goal

abbrev pub invariant-loop-left : goal.invariant-loop-left
invariant-loop-left l = Picking l.g.positive l.g.negative l.near l.members l.apart l.left

abbrev pub decreases-loop-left : goal.decreases-loop-left
decreases-loop-left l = size l.left
