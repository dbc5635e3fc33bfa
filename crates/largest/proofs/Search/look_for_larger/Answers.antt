-- `largest::Search::look_for_larger` meets its contract. Assumes nothing.
use mathlib.Core.Logic.{◌⊎◌, inl, inr}
use borrow.Author.Rules.{rules}
use Rattle.largest.proofs.Bests.{finds_none, finds_barren}
use Rattle.largest.proofs.Search.look_for_larger.Goals as goal

pub returns : goal.returns
returns c e = elim (c.prune.ensures e) [ inl barren ↦ finds_barren _ _ _ _ _ _ barren | inr larger ↦ finds_none _ _ _ _ _ _ (search rules) ]
