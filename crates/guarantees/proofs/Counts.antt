-- Counts from S and from S reduced for k are the same. Assumes nothing.
use Prim.Native.Nat.{ℕ, ◌≤◌}
use mathlib.Core.Path.{◌≡◌, refl, sym, ap, ap₂, ◌∙◌}
use mathlib.Core.Logic.{inl}
use mathlib.Core.Bool.{true}
use mathlib.Core.List.{List, map}
use lib.Dec.{ltb}
use lib.ListN.{length}
use Rattle.vertex_set.specs.Lists.{select}
use Rattle.signed_graph.specs.declared.SignedGraph.{SignedGraph}
use Rattle.signed_graph.specs.Soundness.{sound}
use Rattle.signed_graph.specs.Calls.{Check, answer_number}
use Rattle.clique.specs.Listing.{Item}
use Rattle.counts.specs.Counts.{contains}
use Rattle.counts.specs.Calls.{most_sets, counting_by, buffer_by, counting_of, counts_of, counts_number}
use Rattle.counts.proofs.Calls.{counting_number_law}
use Rattle.guarantees.specs.Demand.{OneOf}
use Rattle.guarantees.proofs.Demand.{one_check, one_listing}

module _ (S : SignedGraph) (k : ℕ) (sound_S : sound S ≡ true) (small : k ≤ 32) (g : SignedGraph) (one : OneOf S k g) where
  pub one_counting : (sets buffer : List ℕ) → counting_of g k sets buffer ≡ counting_of S k sets buffer
  one_counting sets buffer =
      ap (λ (c : Check). counting_by c (ltb (length buffer) (length sets)) (ltb most_sets (length sets)))
      (one_check S k sound_S small g one ∙ sym (one_check S k sound_S small S (inl refl)))

  pub one_number : (sets buffer : List ℕ) → counts_number g k sets buffer ≡ counts_number S k sets buffer
  one_number sets buffer =
      sym (counting_number_law g k sets buffer) ∙ ap answer_number (one_counting sets buffer) ∙ counting_number_law S k sets buffer

  pub one_counts : (sets buffer : List ℕ) → counts_of g k sets buffer ≡ counts_of S k sets buffer
  one_counts sets buffer =
      ap₂ (λ (r : Check) (l : List Item). buffer_by r (map (λ s. length (select (contains s) l)) sets) buffer)
      (one_counting sets buffer) (one_listing S k sound_S small g one)
