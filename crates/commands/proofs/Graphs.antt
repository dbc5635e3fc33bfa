-- The graph of given edges and masked vertices: it is sound, has exactly these, and is the only one. Assumes nothing.
use Prim.Native.Nat.{ℕ, ◌^◌, ◌≤◌, ◌<◌}
use native.Mathlib.Nat.{lt_of_lt_of_le}
use native.Mathlib.Omega.{arith}
use mathlib.Core.Path.{◌≡◌, refl, sym, ap, ap₂, ◌∙◌, subst}
use mathlib.Core.Logic.{◌≢◌}
use mathlib.Core.Bool.{Bool, true, false, ◌&&◌, ◌||◌}
use mathlib.Core.List.{List}
use lib.Dec.{ltb, eqb}
use lib.ListN.{get_or, replicate, length-replicate, get_or-replicate}
use lib.Bits.{or_lt}
use lib.Pow.{pow_pos, pow_mono, pow-lt}
use borrow.Author.Tests.{le-leb, lt-ltb}
use Rattle.vertex_set.specs.Sets.{mem, insert, collect}
use Rattle.vertex_set.proofs.Booleans.{refute, iff, and_intro, and_right, eqb_comm}
use Rattle.vertex_set.proofs.Membership.{mem_none, lt_of_members}
use Rattle.vertex_set.proofs.Collections.{mem_insert, mem_collect, collect_lt, collect_at, collect_is}
use Rattle.bit_matrix.specs.Matrices.{table_of}
use Rattle.bit_matrix.proofs.Matrices.{table_length, table_has, table_is}
use Rattle.signed_graph.specs.declared.SignedGraph.{SignedGraph}
use Rattle.signed_graph.specs.Graphs.{positive_edge, negative_edge, edgeless}
use Rattle.signed_graph.proofs.Soundness.{Table, to_table, Sound}
use Rattle.commands.specs.declared.Sign.{Sign}
use Rattle.commands.specs.declared.Sign.TheVariants.{Positive, Negative}

-- n vertices, with these edges of each sign and these masked
abbrev pub graph_of : ℕ → (Sign → ℕ → ℕ → Bool) → (ℕ → Bool) → SignedGraph
graph_of n given masked =
    record { n = n; positive = table_of (given Positive); negative = table_of (given Negative); masked = collect 64 masked }

-- edges join two different vertices below n, either way round and with one sign; masked vertices are below n
pub record Consistent (n : ℕ) (given : Sign → ℕ → ℕ → Bool) (masked : ℕ → Bool) : Type 0 where
  pub small : n ≤ 64
  pub low : (s : Sign) (p q : ℕ) → given s p q ≡ true → (p < n) × (q < n) × (p ≢ q)
  pub either_way : (s : Sign) (p q : ℕ) → given s p q ≡ given s q p
  pub one_sign : (p q : ℕ) → given Positive p q ≡ true → given Negative p q ≡ false
  pub low_masks : (p : ℕ) → masked p ≡ true → p < n

-- g has an edge of that sign
abbrev pub edge_as : Sign → SignedGraph → ℕ → ℕ → Bool
edge_as Positive = positive_edge
edge_as Negative = negative_edge

module _ (n : ℕ) (given : Sign → ℕ → ℕ → Bool) (masked : ℕ → Bool) (ok : Consistent n given masked) where
  -- of all numbers, since those from n up have no part
  pub table_given : (s : Sign) (p q : ℕ) → mem q (get_or (table_of (given s)) p 0) ≡ given s p q
  table_given s =
      table_has (given s) (λ p q e. (omega (arith, (ok.low s p q e).0, ok.small), omega (arith, (ok.low s p q e).1, ok.small)))

  pub masks_given : (p : ℕ) → mem p (collect 64 masked) ≡ masked p
  masks_given p =
      mem_collect masked 64 p
      ∙ iff (ltb p 64 && masked p) (masked p) (and_right (ltb p 64) (masked p))
      (λ m. and_intro (ltb p 64) (masked p) (lt-ltb p 64 (omega (arith, ok.low_masks p m, ok.small))) m)

  table_sound : (s : Sign) → Table n (table_of (given s))
  table_sound s =
      to_table n (table_of (given s)) ok.small (table_length (given s))
      (λ p h. lt_of_members n (get_or (table_of (given s)) p 0) (λ q m. (ok.low s p q (sym (table_given s p q) ∙ m)).1))
      (λ p h. table_given s p p ∙ refute (given s p p) (λ t. (ok.low s p p t).2 refl))
      (λ p q h k. table_given s p q ∙ ok.either_way s p q ∙ sym (table_given s q p))

  pub graph_sound : Sound (graph_of n given masked)
  graph_sound =
      record {
        small = ok.small;
        positives = table_sound Positive;
        negatives = table_sound Negative;
        apart = λ p q m. table_given Negative p q ∙ ok.one_sign p q (sym (table_given Positive p q) ∙ m);
        masks = lt_of_members n (collect 64 masked) (λ p m. ok.low_masks p (sym (masks_given p) ∙ m));
      }

-- a sound graph is that of its edges and its masked vertices
pub graph_is : (g : SignedGraph) (given : Sign → ℕ → ℕ → Bool) (masked : ℕ → Bool) → Sound g
    → ((s : Sign) (p q : ℕ) → edge_as s g p q ≡ given s p q) → ((p : ℕ) → mem p g.masked ≡ masked p) → graph_of g.n given masked ≡ g
graph_is g given masked h has hides =
    let parts : graph_of g.n given masked
    ≡ record { n = g.n; positive = g.positive; negative = g.negative; masked = g.masked } =
    cc (
      table Positive g.positive h.positives (has Positive),
      table Negative g.negative h.negatives (has Negative),
      collect_is 64 g.masked masked (lt_of_lt_of_le h.masks (pow_mono h.small)) (λ p l. hides p),
    ) in
    parts
  where
    table : (s : Sign) (rows : List ℕ) → Table g.n rows → ((p q : ℕ) → mem q (get_or rows p 0) ≡ given s p q) → rows ≡ table_of (given s)
    table s rows t e =
        table_is (given s) rows t.whole (λ p l. lt_of_lt_of_le (t.low p) (pow_mono h.small)) (λ p q l k. e p q)

-- ---- nothing given

empty_table : replicate 64 0 ≡ table_of (λ p q. false)
empty_table =
    table_is (λ p q. false) (replicate 64 0) (length-replicate {A = ℕ} 64 0)
    (λ p l. subst (λ (z : ℕ). z < 2 ^ 64) (sym (get_or-replicate 64 p 0 0 l)) (pow_pos 64))
    (λ p q l k. ap (mem q) (get_or-replicate 64 p 0 0 l) ∙ mem_none q)

pub edgeless_graph : (n : ℕ) → n ≤ 64 → edgeless n ≡ graph_of n (λ s p q. false) (λ p. false)
unfolding edgeless
edgeless_graph n h = rw (le-leb n 64 h) (cc (empty_table, collect_is 64 0 (λ p. false) (pow_pos 64) (λ p l. mem_none p)))

-- ---- a mask more

-- a graph with these vertices masked in place of its own
abbrev pub with_masked : SignedGraph → ℕ → SignedGraph
with_masked g masked = record { n = g.n; positive = g.positive; negative = g.negative; masked = masked }

-- as the code stores it
pub masked_more : (masked : ℕ → Bool) (a : ℕ) → a < 64 → insert a (collect 64 masked) ≡ collect 64 (λ p. masked p || eqb a p)
masked_more masked a l =
    collect_is 64 (insert a (collect 64 masked)) (λ p. masked p || eqb a p)
    (or_lt 64 (collect 64 masked) (2 ^ a) (collect_lt masked 64) (pow-lt l)) (λ p k.
    mem_insert p a (collect 64 masked) ∙ ap₂ ◌||◌ (collect_at masked 64 p k) (eqb_comm p a))
