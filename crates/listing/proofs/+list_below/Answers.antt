-- `listing::list_below` meets its contract. The vertices still undecided fall in number at each call of itself. Assumes nothing.
use Rattle.std.proofs.Common.{ℕ, ◌≡◌, get_or, arith}
use Rattle.nodes.specs.Nodes.{put_in}
use Rattle.nodes.proofs.Falling.{Decides, decides_lowest, put_falls, out_falls}
use Rattle.listing.proofs.Search.{lists_past, lists_barren, lists_leaf, lists_full, lists_in, lists_both}
use Rattle.listing.proofs.+list_below.Goals as goal
use Rattle.listing.proofs.+list_below.Goals.{After-lowest-v, After-put_in}

-- the vertex to decide
decides : (t : ℕ) (c : After-lowest-v t) → Decides t c.in-Some.node c.lowest-v.result
decides t c =
    decides_lowest t c.args.at c.in-Some.node c.decreases c.in-Some.ensures.subset
    c.undecided-open.result c.undecided-open.ensures c.undecided-open.type_inv c.if-open-eq0.false c.lowest-v.result c.lowest-v.ensures

-- the node with it in
put : (t : ℕ) (c : After-put_in t) → let v = c.lowest-v.result in
    c.put_in.result ≡ put_in c.in-Some.node v (get_or c.args.g.now.positive v 0) (get_or c.args.g.now.negative v 0)
put t c = rw c.partners.ensures at c.put_in.ensures

pub returns-then-is_past : goal.returns-then-is_past
returns-then-is_past t c = lists_past _ _ _ _ _ _ _ (rw (c.lowest-next.ensures, c.undecided.ensures) at (c.is_past.ensures c.if-is_past.true))

pub returns-in_default : goal.returns-in_default
returns-in_default t c = lists_barren _ _ _ _ _ _ _ c.in_default.ensures.advances

pub returns-then-open-eq0 : goal.returns-then-open-eq0
returns-then-open-eq0 t c =
    lists_leaf _ _ _ _ _ _ _ c.in-Some.node c.in-Some.ensures.advances _ _ (cc) c.list_leaf.ensures

pub partners-requires : goal.partners-requires
partners-requires t c = (decides t (goal.at.partners-requires t c).After-lowest-v).small

pub list_below-requires : goal.list_below-requires
list_below-requires t c =
    (put_falls (decides t (goal.at.list_below-requires t c).After-lowest-v) _ _ _ c.put_in.ensures, tt)

pub returns-in_default-end : goal.returns-in_default-end
returns-in_default-end t c =
    lists_full _ _ _ _ _ _ _ c.in-Some.node c.in-Some.ensures.advances c.lowest-v.result (omega arith) (cc) _
    (put t (goal.at.returns-in_default-end t c).After-put_in) _ _ c.list_below.ensures c.in_default-end.is

pub returns-in_default-look_ahead : goal.returns-in_default-look_ahead
returns-in_default-look_ahead t c =
    lists_in _ _ _ _ _ _ _ c.in-Some.node c.in-Some.ensures.advances c.lowest-v.result (omega arith) (cc) _
    (put t (goal.at.returns-in_default-look_ahead t c).After-put_in) _ _ c.list_below.ensures
    _ c.leave_out-rest.ensures c.in_default-look_ahead.ensures

pub list_below-requires-in-Some-look_ahead : goal.list_below-requires-in-Some-look_ahead
list_below-requires-in-Some-look_ahead t c =
    (out_falls (decides t (goal.at.list_below-requires-in-Some-look_ahead t c).After-lowest-v) _ c.leave_out-rest.ensures, tt)

pub returns-in-Some-look_ahead : goal.returns-in-Some-look_ahead
returns-in-Some-look_ahead t c =
    lists_both _ _ _ _ _ _ _ c.in-Some.node c.in-Some.ensures.advances c.lowest-v.result (omega arith) (cc) _
    (put t (goal.at.returns-in-Some-look_ahead t c).After-put_in) _ _ c.list_below.ensures
    _ c.leave_out-rest.ensures _ _ c.list_below-in-Some-look_ahead.ensures
