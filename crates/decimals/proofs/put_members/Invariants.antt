-- `decimals::put_members` meets its contract. The members that are left are to come. Assumes nothing.
use Rattle.std.proofs.Common.{◌^◌, ◌<◌}
use Rattle.vertex_set.proofs.Buffers.{Laid}
use Rattle.decimals.specs.Decimals.{members_between}
use Rattle.decimals.proofs.put_members.Given as goal

abbrev pub invariant-loop-p : goal.invariant-loop-p
invariant-loop-p l =
    (l.p-iterator.left < 2 ^ 64)
    × Laid (members_between l.before l.after l.s) l.initial.out l.out l.at (members_between l.before l.after l.p-iterator.left)
