-- What the code makes in a round is the round that the definition makes. Assumes nothing.
use Prim.Native.Nat.{ℕ, ◌-◌, ◌^◌, ◌<◌}
use native.Mathlib.Omega.{arith}
use mathlib.Core.Path.{◌≡◌, refl, sym, ap, ap₂, ◌∙◌}
use mathlib.Core.Bool.{Bool, true, false, not, ◌&&◌, ◌||◌, and_comm}
use mathlib.Core.List.{List}
use lib.Dec.{eqb}
use lib.Bits.{bit_and}
use lib.ListN.{get_or}
use borrow.Author.Tests.{lt-ltb, eqb-true, eq-eqb}
use Rattle.vertex_set.specs.Ranges.{all}
use Rattle.vertex_set.specs.Sets.{mem, collect, below}
use Rattle.vertex_set.proofs.Booleans.{iff, and_intro, and_left, and_right, imp_intro}
use Rattle.vertex_set.proofs.Ranges.{all_of}
use Rattle.vertex_set.proofs.Membership.{mem_and, lt_of_members}
use Rattle.vertex_set.proofs.Collections.{collect_lt, collect_at, collect_is, mem_below}
use Rattle.bit_matrix.specs.Matrices.{table_of}
use Rattle.bit_matrix.proofs.Matrices.{table_length, table_at, table_has, table_cong}
use Rattle.signed_graph.specs.declared.SignedGraph.{SignedGraph}
use Rattle.signed_graph.specs.Graphs.{with_tables, edge}
use Rattle.signed_graph.specs.Soundness.{sound}
use Rattle.signed_graph.proofs.Soundness.{Table, partner_below, Sound, to_sound}
use Rattle.reduction.specs.Collections.{Collection, all_edges, vertex_fits, positive_fits, negative_fits}
use Rattle.reduction.specs.Reductions.{vertex_stays, edge_stays, keeps, round, fallen}
use Rattle.reduction.specs.RoundTables.{shares, sifted, able_table, stays, kept_table, differing, JudgedOnce}
use Rattle.reduction.proofs.Collections.{positive_comm, negative_comm}
use Rattle.reduction.proofs.Striking.{mem_sifted}
use Rattle.reduction.proofs.Rounds.{mem_fallen, same_positive_row, same_negative_row}
use Rattle.reduction.proofs.Counts.{vertex_shares, positive_shares, negative_shares}

-- ---- a table

module _ (g : SignedGraph) (so : Sound g) (k look able : ℕ)
    (ea : able ≡ sifted (below g.n) look (shares g.positive g.negative (2 ^ 64 - 1) (k - 1) (2 ^ 64 - 1) k)) where
  abbrev c : Collection
  c = all_edges g

  -- able are the vertices that stay
  able_stays : (p : ℕ) → p < g.n → mem p able ≡ vertex_stays look (vertex_fits k c) p
  able_stays p l =
      ap (mem p) ea ∙ mem_sifted _ look _ p (omega (arith, so.small))
      ∙ ap₂ (λ (x y : Bool). x && (not (mem p look) || y)) (mem_below g.n p so.small ∙ lt-ltb p g.n l) (vertex_shares g k p)

  -- so the test of an edge comes to the definition's
  edge_stays_law : (joins : Bool) (fits : ℕ → ℕ → Bool) (p q : ℕ) → (joins ≡ true → (p < g.n) × (q < g.n)) → (test : Bool) → test ≡ fits p q
      → ((joins && (mem p able && mem q able)) && (not (mem p (bit_and look able) || mem q (bit_and look able)) || test))
      ≡ (joins && (vertex_stays look (vertex_fits k c) p && vertex_stays look (vertex_fits k c) q && edge_stays look fits p q))
  edge_stays_law joins fits p q low test e =
      ap₂ (λ (x y : Bool). (joins && (mem p able && mem q able)) && (not (x || y) || test)) (mem_and p look able) (mem_and q look able)
      ∙ go joins (mem p able) (mem q able) (mem p look) (mem q look) test
      ∙ where_true joins _ _ (λ j.
      ap₂ ◌&&◌ (ap₂ ◌&&◌ (able_stays p (low j).0) (able_stays q (low j).1)) (ap (λ (x : Bool). not (mem p look || mem q look) || x) e))
    where
      where_true : (j a b : Bool) → (j ≡ true → a ≡ b) → (j && a) ≡ (j && b)
      where_true true a b h = h refl
      where_true false a b h = refl

      go : (j a b l m t : Bool) → ((j && (a && b)) && (not (l && a || m && b) || t)) ≡ (j && (a && b && (not (l || m) || t)))
      go false a b l m t = refl
      go true false b l m t = refl
      go true true false l m t = refl
      go true true true true m t = refl
      go true true true false true t = refl
      go true true true false false t = refl

  -- a table of one sign, judged by fits
  kept_is : (own : List ℕ) (fits test : ℕ → ℕ → Bool) → Table g.n own → ((p q : ℕ) → test p q ≡ fits p q)
      → table_of (λ p. stays (bit_and look able) (test p) (get_or (able_table able own) p 0) p)
      ≡ table_of (keeps (λ p q. mem q (get_or own p 0)) (vertex_stays look (vertex_fits k c)) (edge_stays look fits))
  unfolding able_table
  kept_is own fits test t e =
      table_cong _ _ (λ p q l m.
      ap (λ (x : Bool). x && (not (mem p (bit_and look able) || mem q (bit_and look able)) || test p q))
      (table_at (λ p q. mem q (get_or own p 0) && (mem p able && mem q able)) p q l m)
      ∙ edge_stays_law (mem q (get_or own p 0)) fits p q (partner_below t p q) (test p q) (e p q))

  positive_table : kept_table (bit_and look able) (k - 2) k (able_table able g.positive) g.positive g.negative g.positive g.negative
      ≡ (round g k look).positive
  unfolding kept_table round
  positive_table = kept_is g.positive (positive_fits k c) _ so.positives (positive_shares g k)

  negative_table : kept_table (bit_and look able) (k - 1) (k - 1) (able_table able g.negative) g.negative g.positive g.positive g.negative
      ≡ (round g k look).negative
  unfolding kept_table round
  negative_table = kept_is g.negative (negative_fits k c) _ so.negatives (negative_shares g k)

-- its edges may be judged once, from either vertex
module _ (g : SignedGraph) (so : Sound g) (k able : ℕ) where
  abbrev edges : Collection
  edges = all_edges g

  once : (own : List ℕ) (test : ℕ → ℕ → Bool) → Table g.n own → ((p q : ℕ) → test p q ≡ test q p)
      → JudgedOnce (able_table able own) test
  unfolding able_table
  once own test t e =
      record {
        whole = table_length joins;
        fits = λ p. lt_of_members 64 (get_or (table_of joins) p 0) (λ q m. (low p q (sym (has p q) ∙ m)).1);
        joined = λ p q. has p q ∙ ap₂ ◌&&◌ (t.symmetric p q) (and_comm (mem p able) (mem q able)) ∙ sym (has q p);
        alike = e;
      }
    where
      joins : ℕ → ℕ → Bool
      joins p q = mem q (get_or own p 0) && (mem p able && mem q able)

      low : (p q : ℕ) → joins p q ≡ true → (p < 64) × (q < 64)
      low p q m =
          let b = partner_below t p q (and_left (mem q (get_or own p 0)) (mem p able && mem q able) m) in
          (omega (arith, b.0, so.small), omega (arith, b.1, so.small))

      has : (p q : ℕ) → mem q (get_or (table_of joins) p 0) ≡ joins p q
      has = table_has joins low

  positive_once : JudgedOnce (able_table able g.positive)
      (λ p. shares g.positive g.negative (get_or g.positive p 0) (k - 2) (get_or g.negative p 0) k)
  positive_once =
      once g.positive _ so.positives (λ p q. positive_shares g k p q ∙ positive_comm k edges p q ∙ sym (positive_shares g k q p))

  negative_once : JudgedOnce (able_table able g.negative)
      (λ p. shares g.positive g.negative (get_or g.negative p 0) (k - 1) (get_or g.positive p 0) (k - 1))
  negative_once =
      once g.negative _ so.negatives (λ p q. negative_shares g k p q ∙ negative_comm k edges p q ∙ sym (negative_shares g k q p))

-- ---- the vertices of dropped edges are those whose rows change

module _ (g : SignedGraph) (so : Sound g) (k look : ℕ) where
  abbrev r : SignedGraph
  r = round g k look

  abbrev same_positive : ℕ → Bool
  same_positive p = eqb (get_or r.positive p 0) (get_or g.positive p 0)

  abbrev same_negative : ℕ → Bool
  same_negative p = eqb (get_or r.negative p 0) (get_or g.negative p 0)

  abbrev stays_all : ℕ → Bool
  stays_all p = all 64 (λ q. not (edge g p q) || edge r p q)

  same_rows : (p : ℕ) → p < 64 → (same_positive p && same_negative p) ≡ stays_all p
  same_rows p l =
      iff (same_positive p && same_negative p) (stays_all p)
      (λ t. all_of _ 64 (λ q _. imp_intro (edge g p q) (edge r p q) (λ e.
      ap₂ (λ (x y : ℕ). mem q x || mem q y) (eqb-true _ _ (and_left _ _ t)) (eqb-true _ _ (and_right (same_positive p) _ t)) ∙ e)))
      (λ t.
      let out : mem p (fallen g k look) ≡ false = mem_fallen g k look so p l ∙ ap not t in
      and_intro _ _ (eq-eqb _ _ (same_positive_row g k look so p out)) (eq-eqb _ _ (same_negative_row g k look so p out)))

  differing_fallen : differing r.positive g.positive r.negative g.negative ≡ fallen g k look
  unfolding differing fallen
  differing_fallen =
      collect_is 64 (collect 64 change) (λ p. not (stays_all p)) (collect_lt change 64)
      (λ p l. collect_at change 64 p l ∙ ap not (same_rows p l))
    where
      change : ℕ → Bool
      change p = not (same_positive p && same_negative p)

-- ---- what the code puts together

module _ (g : SignedGraph) (k able less : ℕ) (so : sound g ≡ true) where
  pub positive_due : less ≡ k - 2 → (rows : List ℕ) → rows ≡ able_table able g.positive
      → JudgedOnce rows (λ p. shares g.positive g.negative (get_or g.positive p 0) less (get_or g.negative p 0) k)
  positive_due i rows e = rw (e, i) (positive_once g (to_sound g so) k able)

  pub negative_due : less ≡ k - 1 → (rows : List ℕ) → rows ≡ able_table able g.negative
      → JudgedOnce rows (λ p. shares g.positive g.negative (get_or g.negative p 0) less (get_or g.positive p 0) less)
  negative_due i rows e = rw (e, i) (negative_once g (to_sound g so) k able)

pub round_made : (g : SignedGraph) (k look able : ℕ) → sound g ≡ true → (few fewer : ℕ)
    → able ≡ sifted (below g.n) look (shares g.positive g.negative (2 ^ 64 - 1) (k - 1) (2 ^ 64 - 1) k)
    → few ≡ k - 1 → fewer ≡ k - 2 → (positive negative able-positive able-negative : List ℕ)
    → able-positive ≡ able_table able g.positive → able-negative ≡ able_table able g.negative
    → positive ≡ kept_table (bit_and look able) fewer k able-positive g.positive g.negative g.positive g.negative
    → negative ≡ kept_table (bit_and look able) few few able-negative g.negative g.positive g.positive g.negative
    → with_tables g positive negative ≡ round g k look
unfolding round
round_made g k look able so few fewer ea e1 e2 positive negative able-positive able-negative ip iq ep en =
    ap₂ (with_tables g)
    (ep ∙ ap₂ (λ (z : ℕ) (t : List ℕ). kept_table (bit_and look able) z k t g.positive g.negative g.positive g.negative) e2 ip
    ∙ positive_table g (to_sound g so) k look able ea)
    (en ∙ ap₂ (λ (z : ℕ) (t : List ℕ). kept_table (bit_and look able) z z t g.negative g.positive g.positive g.negative) e1 iq
    ∙ negative_table g (to_sound g so) k look able ea)

pub fallen_made : (g : SignedGraph) → sound g ≡ true → (k look : ℕ) (next : SignedGraph) (fell : ℕ) → next ≡ round g k look
    → fell ≡ differing next.positive g.positive next.negative g.negative → fell ≡ fallen g k look
fallen_made g so k look next fell e f =
    f ∙ ap (λ (r : SignedGraph). differing r.positive g.positive r.negative g.negative) e ∙ differing_fallen g (to_sound g so) k look
