-- `clique::classify` meets its contract. The check decides, then the verdict is that of a sound graph. Assumes nothing.
use mathlib.Core.Path.{sym, ap, ◌∙◌}
use Rattle.signed_graph.specs.Calls.{checked}
use Rattle.signed_graph.proofs.Calls.{accepted_sound}
use Rattle.signed_graph.proofs.Soundness.{to_sound}
use Rattle.clique.proofs.VerdictWords.{as_first}
use Rattle.clique.proofs.classify.Goals as goal

pub returns-clause-words : goal.returns-clause-words
returns-clause-words c =
    let so = to_sound c.args.g (accepted_sound c.args.g c.args.k (sym c.check_call.ensures.answer ∙ ap checked c.in_ok-sound.was)) in
    as_first c.args.g so c.args.s c.ranges.s.fits c.args.k c.classify_sound.result
    (rw (c.classify_sound.ensures, c.in_ok-sound.ensures.graph))
