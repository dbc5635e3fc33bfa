-- `decimals::put_short` meets its contract. The text is copied byte by byte. Assumes nothing.
use Rattle.vertex_set.proofs.Copies.{Copied}
use Rattle.decimals.proofs.put_short.Given as goal

abbrev pub invariant-loop-i : goal.invariant-loop-i
invariant-loop-i l = Copied l.text l.initial.out l.out l.i
