-- The sides of a balanced set, and parts of them. Assumes nothing.
use Prim.Native.Nat.{ℕ}
use mathlib.Core.Path.{◌∙◌}
use Rattle.vertex_set.specs.Sets.{Subset}
use Rattle.signed_graph.specs.declared.SignedGraph.{SignedGraph}
use Rattle.signed_graph.proofs.Soundness.{Sound}
use Rattle.signed_graph.specs.Thresholds.{Threshold}
use Rattle.clique.specs.Balance.{Parts}
use Rattle.clique.specs.Listing.{Item, Listed}
use Rattle.clique.proofs.Listing.{listed_left, listed_right}

pub parts_within : {g : SignedGraph} {l r : ℕ} → Parts g l r → (a b : ℕ) → Subset a l → Subset b r → Parts g a b
parts_within h a b in_l in_r =
    record {
      usable_l = λ p m. h.usable_l p (in_l p m);
      usable_r = λ p m. h.usable_r p (in_r p m);
      inside_l = λ p q ne x y. h.inside_l p q ne (in_l p x) (in_l q y);
      inside_r = λ p q ne x y. h.inside_r p q ne (in_r p x) (in_r q y);
      across = λ p q x y. h.across p q (in_l p x) (in_r q y);
    }

module _ (g : SignedGraph) (so : Sound g) where
  pub parts_flip : (l r : ℕ) → Parts g l r → Parts g r l
  parts_flip l r h =
      record {
        usable_l = h.usable_r;
        usable_r = h.usable_l;
        inside_l = h.inside_r;
        inside_r = h.inside_l;
        across = λ p q x y. so.negatives.symmetric p q ∙ h.across q p y x;
      }

-- ---- a group is a balanced set

pub listed_parts : {g : SignedGraph} {k : Threshold} {x : Item} → Listed g k x → Parts g x.left x.right
listed_parts lx =
    record {
      usable_l = λ p m. lx.group.balanced.usable p (listed_left lx p m);
      usable_r = λ p m. lx.group.balanced.usable p (listed_right lx p m);
      inside_l = lx.sides.split.inside_l;
      inside_r = lx.sides.split.inside_r;
      across = lx.sides.split.across;
    }
