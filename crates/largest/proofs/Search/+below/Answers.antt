-- `largest::Search::below` meets its contract. The vertices still undecided fall in number at each call of itself. Assumes nothing.
use Rattle.std.proofs.Common.{ℕ, refl, ◌∙◌, rules}
use Rattle.nodes.proofs.Falling.{Decides, decides_lowest, put_falls, out_falls}
use Rattle.look_ahead.proofs.BarrenBranches.{finds_short}
use Rattle.largest.proofs.Bests.{finds_none, finds_barren, finds_leaf, finds_both}
use Rattle.largest.proofs.SizesBelow.{none_larger_room}
use Rattle.largest.proofs.Search.+below.Goals as goal
use Rattle.largest.proofs.Search.+below.Goals.{After-lowest-v}

-- the vertex to decide
decides : (t : ℕ) (c : After-lowest-v t) → Decides t c.args.at c.lowest-v.result
decides t c =
    decides_lowest t c.args.at c.args.at c.decreases (λ p m. m) c.undecided-undecided.result c.undecided-undecided.ensures c.undecided-undecided.type_inv
    c.if-undecided-eq0.false c.lowest-v.result c.lowest-v.ensures

pub returns-then-none_larger : goal.returns-then-none_larger
returns-then-none_larger t c =
    let found = c.none_larger.ensures c.if-none_larger.true in
    finds_none _ _ _ _ _ _ (λ any so bounds. none_larger_room _ _ _ _ found.0 (found.1 ∙ c.most.ensures) (search rules))

pub returns-then-is_short : goal.returns-then-is_short
returns-then-is_short t c = finds_barren _ _ _ _ _ _ (finds_short _ _ _ _ (c.is_short.ensures c.if-is_short.true))

pub returns-then-undecided-eq0 : goal.returns-then-undecided-eq0
returns-then-undecided-eq0 t c =
    finds_leaf _ _ _ _ _ _ _ _ c.undecided-undecided.ensures c.if-undecided-eq0.true c.largest_leaf-hunt.ensures

pub partners-requires : goal.partners-requires
partners-requires t c = (decides t (goal.at.partners-requires t c).After-lowest-v).small

pub below-requires : goal.below-requires
below-requires t c =
    (put_falls (decides t (goal.at.below-requires t c).After-lowest-v) _ _ _ c.put_in.ensures, tt)

pub below-requires-in-Some : goal.below-requires-in-Some
below-requires-in-Some t c =
    (out_falls (decides t (goal.at.below-requires-in-Some t c).After-lowest-v) _ c.leave_out-rest.ensures, tt)

pub returns-in_default : goal.returns-in_default
returns-in_default t c =
    finds_both _ _ _ _ _ _ _ c.lowest-v.result c.undecided-undecided.ensures c.if-undecided-eq0.false c.lowest-v.ensures _ c.partners.ensures
    _ c.put_in.ensures _ c.below.ensures _ c.leave_out-rest.ensures _ (c.in_default.ensures refl)

pub returns-in-Some : goal.returns-in-Some
returns-in-Some t c =
    finds_both _ _ _ _ _ _ _ c.lowest-v.result c.undecided-undecided.ensures c.if-undecided-eq0.false c.lowest-v.ensures _ c.partners.ensures
    _ c.put_in.ensures _ c.below.ensures _ c.leave_out-rest.ensures _ c.below-in-Some.ensures
