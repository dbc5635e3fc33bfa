-- `reduction::reduce_sound` meets its contract. The round is the next one, and its looks are counted. Assumes nothing.
use native.Mathlib.Omega.{arith}
use Rattle.signed_graph.proofs.Soundness.{to_sound, from_sound}
use Rattle.reduction.proofs.Masking.{unmasked_sound}
use Rattle.reduction.proofs.Rounds.{falls}
use Rattle.reduction.proofs.Reaching.{looking_first, looking_next, looking_most, looking_end}
use Rattle.reduction.proofs.reduce_sound.Goals as goal

pub invariant_of-round : goal.invariant_of-round
invariant_of-round c =
    record { is_sound = rw (c.without_masked.ensures) (from_sound _ (unmasked_sound c.args.g.graph.now (to_sound c.args.g.graph.now c.args.g.is_sound))) }

pub loop-next-init : goal.loop-next-init
loop-next-init c =
    record {
      seen_are = c.looks-seen.ensures;
      looking = looking_first c.args.g.graph.now c.args.k _ _ _ c.without_masked.ensures c.below.ensures c.looks-seen.ensures;
    }

pub overflow_add-looks : goal.overflow_add-looks
overflow_add-looks c =
    let so = to_sound c.args.g.graph.now c.args.g.is_sound in
    omega (arith, looking_most so (looking_next so c.loop-next.invariant.looking c.in-Some.ensures c.looks-seen-in-Some.result c.looks-seen-in-Some.ensures))

pub loop-next-smaller : goal.loop-next-smaller
loop-next-smaller c =
    let at = c.loop-next.round in
    let f = c.in-Some.ensures in
    rw (f.graph_is) (falls at.graph c.args.k at.look (to_sound at.graph at.is_sound) (omega (arith, f.drops)))

pub loop-next-preserved : goal.loop-next-preserved
loop-next-preserved c =
    let n = c.looks-seen-in-Some in
    record {
      seen_are = n.ensures;
      looking = looking_next (to_sound c.args.g.graph.now c.args.g.is_sound) c.loop-next.invariant.looking c.in-Some.ensures n.result n.ensures;
    }

pub returns : goal.returns
returns c = looking_end (to_sound c.args.g.graph.now c.args.g.is_sound) c.loop-next.invariant.looking c.in_default.ensures
