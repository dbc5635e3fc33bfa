-- `counts::count_containing` meets its contract. From zeros the counts come to those of all groups. Assumes nothing.
use Rattle.std.proofs.Common.{sym, ap, ◌∙◌, ◌≡◌, ℕ, length, take, replicate, arith}
use Rattle.std.proofs.Math.ListN.{length-take}
use Rattle.signed_graph.specs.Calls.{passed, check_of}
use Rattle.signed_graph.proofs.Soundness.{to_sound}
use Rattle.signed_graph.proofs.Calls.{accepted_sound}
use Rattle.clique.specs.Listing.{listing}
use Rattle.group_pages.proofs.Counts.{listing_few}
use Rattle.counts.proofs.Calls.{counted}
use Rattle.counts.proofs.Tallies.{fold_zeros}
use Rattle.counts.proofs.count_containing.Goals as goal

pub returns-clause-counts : goal.returns-clause-counts
returns-clause-counts c =
    let a = c.args in
    let passes : check_of a.g a.k ≡ passed = sym c.check_call.ensures.answer ∙ c.in_ok-check_call.was in
    let front : length (take (length a.sets.now) a.counts.now) ≡ length a.sets.now = simp length-take (omega arith) in
    let zeros : c.fill.new.self ≡ replicate (length a.sets.now) 0 = c.fill.ensures.after (λ y e. e) ∙ ap (λ (n : ℕ). replicate n 0) front in
    let all = fold_zeros (listing a.g a.k) a.sets.now (listing_few a.g (to_sound a.g (accepted_sound a.g a.k passes)) a.k) in
    rw (c.count_groups.ensures, zeros, all) (sym (counted a.g a.k a.sets.now a.counts.now passes (omega arith) (omega arith)))
