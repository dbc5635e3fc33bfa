-- `clique::classify_sound` meets its contract. Empty, out of range, alone and masked here; else from the edges on. Assumes nothing.
use mathlib.Core.Path.{◌≡◌, refl, sym, ap, ◌∙◌}
use borrow.Author.Rules.{rules}
use borrow.Author.Tests.{eq-eqb, ne_eqb}
use lib.Dec.{eqb}
use Rattle.vertex_set.specs.Sets.{size}
use Rattle.vertex_set.proofs.Alternatives.{applies, passes_by}
use Rattle.clique.specs.declared.Verdict.TheVariants.{OutOfRange, Masked}
use Rattle.clique.specs.Verdicts.{verdict}
use Rattle.clique.specs.Stages.{from_masks}
use Rattle.clique.proofs.FirstStages.{says_out_of_range, past_range, says_masked, past_masks, masks_known}
use Rattle.clique.proofs.classify_sound.Goals as goal
use Rattle.clique.proofs.classify_sound.Goals.{Else-size-eq1}

-- where s has two vertices or more, all below n
past-alone : (c : Else-size-eq1) → verdict c.args.g.graph.now c.args.k c.args.s ≡ from_masks c.args.g.graph.now c.args.k c.args.s
past-alone c =
    let s = c.args.s in
    past_range c.args.g.graph.now c.args.g.is_sound s c.below.result _ c.ranges.s.fits c.below.ensures refl c.args.k
    c.if-s-eq0.false c.if-outside-ne0.false
    ∙ passes_by (eqb (size s) 1) _ _ (ne_eqb (size s) 1 (λ e. c.if-size-eq1.false (c.size.ensures ∙ e)))

pub returns-then-s-eq0 : goal.returns-then-s-eq0
unfolding verdict
returns-then-s-eq0 c = sym (applies (eqb c.args.s 0) _ _ (eq-eqb c.args.s 0 c.if-s-eq0.true))

pub returns-then-outside-ne0 : goal.returns-then-outside-ne0
returns-then-outside-ne0 c =
    let u = c.below in
    ap OutOfRange c.lowest.ensures
    ∙ sym (says_out_of_range c.args.g.graph.now c.args.g.is_sound c.args.s u.result _ c.ranges.s.fits u.ensures refl c.args.k
    c.if-s-eq0.false (search rules))

pub returns-then-size-eq1 : goal.returns-then-size-eq1
returns-then-size-eq1 c =
    let u = c.below in
    let s = c.args.s in
    sym (past_range c.args.g.graph.now c.args.g.is_sound s u.result _ c.ranges.s.fits u.ensures refl c.args.k
    c.if-s-eq0.false c.if-outside-ne0.false
    ∙ applies (eqb (size s) 1) _ _ (eq-eqb (size s) 1 (sym c.size.ensures ∙ c.if-size-eq1.true)))

pub returns-then-masked-ne0 : goal.returns-then-masked-ne0
returns-then-masked-ne0 c =
    ap Masked c.lowest-then-masked-ne0.ensures
    ∙ sym (past-alone (goal.at.returns-then-masked-ne0 c).Else-size-eq1
    ∙ says_masked c.args.g.graph.now c.args.g.is_sound c.args.s c.below.result _ c.ranges.s.fits c.below.ensures refl _ refl c.args.k (search rules))

pub invariant_of-candidate : goal.invariant_of-candidate
invariant_of-candidate c = record {
  known =
      masks_known c.args.g.graph.now c.args.g.is_sound c.args.s c.below.result _ c.ranges.s.fits c.below.ensures refl _ refl
      c.if-s-eq0.false c.if-outside-ne0.false c.if-masked-ne0.false;
}

pub returns : goal.returns
returns c =
    c.classify.ensures
    ∙ sym (past-alone (goal.at.returns c).Else-size-eq1
    ∙ past_masks c.args.g.graph.now c.args.g.is_sound c.args.s c.below.result _ c.ranges.s.fits c.below.ensures refl _ refl c.args.k
    c.if-masked-ne0.false)
