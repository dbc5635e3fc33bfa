-- `decimals::put_members` meets its contract. The members that are left are to come. Assumes nothing.
use Rattle.std.proofs.Common.{◌≡◌, ℕ, ◌<◌, ◌^◌, List, ◌++◌, ap, ◌∙◌}
use Rattle.vertex_set.specs.Sets.{over_members}
use Rattle.vertex_set.specs.Members.{TakesLowest}
use Rattle.vertex_set.proofs.LowestVertex.{rest_lt}
use Rattle.vertex_set.proofs.Gathering.{over_none, over_lowest}
use Rattle.vertex_set.proofs.Buffers.{laid_as, piece_room, laid_piece, laid_length, laid_end}
use Rattle.decimals.specs.Decimals.{between}
use Rattle.decimals.proofs.put_members.Goals as goal

-- the lowest member comes next
next : (f : ℕ → List ℕ) {s p rest : ℕ} → TakesLowest s p rest → s < 2 ^ 64 → over_members s f ≡ f p ++ over_members rest f
next f {s} t fits = rw (t.is_rest, t.is_lowest) (over_lowest f s t.some fits)

pub put_number-written-requires : goal.put_number-written-requires
put_number-written-requires c =
    let l = c.loop-p.invariant in
    let f = between c.args.before.now c.args.after.now in
    piece_room (f c.in-Some.p) _ (laid_as (next f c.in-Some.ensures.steps l.0) l.1)

pub loop-p-preserved : goal.loop-p-preserved
loop-p-preserved c =
    let l = c.loop-p.invariant in
    let t = c.in-Some.ensures.steps in
    let r = c.put_number-written in
    let f = between c.args.before.now c.args.after.now in (
      rw t.is_rest (rest_lt 64 c.loop-p.p-iterator.left l.0),
      laid_piece (f c.in-Some.p) _ _ r.result (laid_as (next f t l.0) l.1) r.ensures.length r.ensures.bytes,
    )

pub returns : goal.returns
returns c =
    let f = between c.args.before.now c.args.after.now in
    let e = laid_as (ap (λ (s : ℕ). over_members s f) c.in-None.ensures.steps.0 ∙ over_none f) c.loop-p.invariant.1 in
    record { length = laid_length e; bytes = laid_end e }
