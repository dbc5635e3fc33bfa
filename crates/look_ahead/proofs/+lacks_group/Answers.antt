-- `look_ahead::lacks_group` meets its contract. The vertices still undecided fall in number at each call of itself. Assumes nothing.
use Rattle.std.proofs.Common.{ℕ, refl, arith}
use borrow.Author.Tests.{not-false}
use Rattle.nodes.proofs.Falling.{Decides, decides_among, put_falls, out_falls}
use Rattle.look_ahead.proofs.BarrenBranches.{finds_short, finds_narrow, finds_both}
use Rattle.look_ahead.proofs.+lacks_group.Goals as goal
use Rattle.look_ahead.proofs.+lacks_group.Goals.{After-lowest-u}

-- the vertex to decide
decides : (t : ℕ) (c : After-lowest-u t) → Decides t c.args.at c.lowest-u.result
decides t c =
    decides_among t c.args.at c.decreases c.narrowest-fewest.result.candidates c.undecided.result
    c.undecided.ensures c.undecided.type_inv c.if-open-eq0.false c.lowest-u.result c.lowest-u.ensures

pub returns-then-is_short : goal.returns-then-is_short
returns-then-is_short t c = finds_short _ _ _ _ (c.is_short.ensures c.if-is_short.true)

pub returns-then-fewest-eq0 : goal.returns-then-fewest-eq0
returns-then-fewest-eq0 t c =
    finds_narrow _ _ _ _ c.narrowest-fewest.result c.narrowest-fewest.ensures c.if-fewest-eq0.true

pub partners-requires : goal.partners-requires
partners-requires t c = (decides t (goal.at.partners-requires t c).After-lowest-u).small

pub lacks_group-requires : goal.lacks_group-requires
lacks_group-requires t c =
    (put_falls (decides t (goal.at.lacks_group-requires t c).After-lowest-u) _ _ _ c.put_in.ensures, tt)

pub lacks_group-requires-2 : goal.lacks_group-requires-2
lacks_group-requires-2 t c =
    (out_falls (decides t (goal.at.lacks_group-requires-2 t c).After-lowest-u) _ c.leave_out.ensures, tt)

pub returns : goal.returns
returns t c e =
    finds_both _ _ _ _ c.lowest-u.result t (decides t (goal.at.returns t c).After-lowest-u) c.if-at-eq0.false
    _ c.partners.ensures _ _ c.put_in.ensures c.leave_out.ensures c.in_ok-rest.ensures (λ _. c.lacks_group-2.ensures e) refl
