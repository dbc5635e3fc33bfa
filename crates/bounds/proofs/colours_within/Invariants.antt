-- `bounds::colours_within` meets its contract. The classes so far cover all vertices but those that are left. Assumes nothing.
use Rattle.bounds.proofs.Colours.{Coloured}
use Rattle.bounds.proofs.colours_within.Given as goal

abbrev pub invariant-loop : goal.invariant-loop
invariant-loop l = Coloured l.g.positive l.g.negative l.initial.rest.left l.initial.rest.right l.rest.left l.rest.right l.counter
