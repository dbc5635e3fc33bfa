-- Document 01's graph A, bare and with vertices masked: its canonical form computes. Assumes nothing.
use mathlib.Core.Path.{◌≡◌, refl}
use mathlib.Core.List.{[], ◌∷◌}
use Rattle.vertex_set.specs.Ranges as R
use Rattle.vertex_set.specs.Sets as S
use Rattle.signed_graph.specs.Samples.{sample_a, masked_a}
use Rattle.commands.specs.Entries.{entry_bytes}
use Rattle.edge_list.proofs.Cases.{list_a}
use Rattle.canonical.specs.Canonical.{ordered_edges, masks_of, canonical}

pub writes_A : canonical sample_a ≡ list_a
unfolding R.gather ordered_edges masks_of entry_bytes S.mem S.over_members
writes_A = refl

-- with 1 and 4 masked: the same edges, and then the masks, ascending (document 02, S-4)
pub writes_masked_A : canonical (masked_a 18)
    ≡ 0x10 ∷ 0x05 ∷
    0x21 ∷ 0x00 ∷ 0x01 ∷ 0x22 ∷ 0x00 ∷ 0x02 ∷ 0x22 ∷ 0x00 ∷ 0x03 ∷ 0x21 ∷ 0x00 ∷ 0x04 ∷
    0x22 ∷ 0x01 ∷ 0x02 ∷ 0x22 ∷ 0x01 ∷ 0x03 ∷ 0x21 ∷ 0x02 ∷ 0x03 ∷ 0x22 ∷ 0x02 ∷ 0x04 ∷
    0x23 ∷ 0x01 ∷ 0x23 ∷ 0x04 ∷ 0xff ∷ []
unfolding R.gather ordered_edges masks_of entry_bytes S.mem S.over_members
writes_masked_A = refl
