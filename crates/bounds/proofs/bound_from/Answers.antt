-- `bounds::bound_from` meets its contract. Assumes nothing.
use Rattle.std.proofs.Common.{true, arith, sym, ◌∙◌, refl}
use Rattle.bounds.proofs.SizeTables.{bound_passes, bound_first, bound_stays, bound_grows}
use Rattle.bounds.proofs.bound_from.Goals as goal

pub returns-then-not-contains-clause-for_sound : goal.returns-then-not-contains-clause-for_sound
returns-then-not-contains-clause-for_sound c =
    bound_passes _ _ _ _ _ _ _ (sym c.contains.ensures ∙ c.if-not-contains.true)

pub returns-then-most-eq0-clause-for_sound : goal.returns-then-most-eq0-clause-for_sound
returns-then-most-eq0-clause-for_sound c = bound_first _ _ _ _ _ _ _ c.if-most-eq0.true

pub returns-in-Some-clause-for_sound : goal.returns-in-Some-clause-for_sound
returns-in-Some-clause-for_sound c =
    let is = c.partners-partners.ensures in
    bound_stays _ _ _ _ _ _ _ (omega arith) _ is (c.in-Some.ensures (refl {a = true}))

pub returns-in-None-clause-for_sound : goal.returns-in-None-clause-for_sound
returns-in-None-clause-for_sound c = bound_grows _ _ _ _ _ _ _
