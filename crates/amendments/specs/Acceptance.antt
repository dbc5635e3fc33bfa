-- When an amendment list is accepted, in words. Assumes nothing.
use Rattle.std.specs.Prelude.{ℕ, ◌≡◌, true, List}
use Rattle.vertex_set.specs.Lists.{All}
use Rattle.vertex_set.specs.Sets.{mem}
use Rattle.signed_graph.specs.declared.SignedGraph.{SignedGraph}
use Rattle.signed_graph.specs.Soundness.{sound}
use Rattle.amendments.specs.Amendments.{Amendment, LastSays, state_in, amended_mask, Permitted, amendment_list}

-- the bytes are an amendment list of the graph g (document 02, S-5: an accepted correction book and its sheet): they open with 11 n,
-- give commands in any order, each as often as they like, and close with FF; each command names vertices below n, two different ones
-- where it speaks of an edge; and g is sound, says of every two vertices what the last command that names them says, and masks those
-- that some command masks
pub record AmendmentListOf (bytes : List ℕ) (g : SignedGraph) : Type 0 where
  pub amendments : List Amendment
  pub permitted : All (Permitted g.n) amendments
  pub spelled : bytes ≡ amendment_list g.n amendments
  pub is_sound : sound g ≡ true
  pub last : (p q : ℕ) → LastSays p q amendments (state_in g p q)
  pub masks : (p : ℕ) → mem p g.masked ≡ amended_mask amendments p
