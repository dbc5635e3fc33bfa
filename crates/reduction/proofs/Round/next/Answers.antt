-- `reduction::Round::next` meets its contract. For 0 every edge fits, and rows that are the same have lost no edge. Assumes nothing.
use mathlib.Core.Path.{◌≡◌, sym, ◌∙◌}
use Rattle.signed_graph.proofs.Soundness.{to_sound, from_sound}
use Rattle.reduction.specs.Collections.{all_edges}
use Rattle.reduction.specs.Reductions.{fallen}
use Rattle.reduction.proofs.Reductions.{zero_fits}
use Rattle.reduction.proofs.Looks.{none_looked, none_dropped}
use Rattle.reduction.proofs.Rounds.{round_sound}
use Rattle.reduction.proofs.RoundTables.{fallen_made}
use Rattle.reduction.proofs.Round.next.Goals as goal
use Rattle.reduction.proofs.Round.next.Goals.{After-differing-look, then-k-eq0-via-then-k-eq0, then-k-eq0-via-else-k-eq0+then-looks-size}

pub returns-then-k-eq0 : goal.returns-then-k-eq0
returns-then-k-eq0 c =
    let at = c.args.self.now in
    let so = to_sound at.graph at.is_sound in
    elim c.then-k-eq0.branch [
      | then-k-eq0-via-then-k-eq0 w ↦ rw (w.if-k-eq0.true) (none_dropped at.graph 0 at.look so (zero_fits (all_edges at.graph)))
      | then-k-eq0-via-else-k-eq0+then-looks-size w ↦
          none_looked at.graph c.args.k at.look so (sym c.requires ∙ w.if-looks-size.true ∙ w.size.ensures)
    ]

fell : (c : After-differing-look) → c.differing-look.result ≡ fallen c.args.self.now.graph c.args.k c.args.self.now.look
fell c =
    let at = c.args.self.now in
    fallen_made at.graph at.is_sound c.args.k at.look c.kept-graph.result c.differing-look.result c.kept-graph.ensures c.differing-look.ensures

pub returns-then-look-eq0 : goal.returns-then-look-eq0
returns-then-look-eq0 c = sym (fell (goal.at.returns-then-look-eq0 c).After-differing-look) ∙ c.if-look-eq0.true

pub invariant_of-result : goal.invariant_of-result
invariant_of-result c =
    let at = c.args.self.now in
    record { is_sound = rw (c.kept-graph.ensures) (from_sound _ (round_sound at.graph c.args.k at.look (to_sound at.graph at.is_sound))) }

pub returns : goal.returns
returns c =
    let e = fell (goal.at.returns c).After-differing-look in
    record { graph_is = c.kept-graph.ensures; look_is = e; drops = λ z. c.if-look-eq0.false (e ∙ z) }
