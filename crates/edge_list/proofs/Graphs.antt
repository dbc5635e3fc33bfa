-- The graph of a list of entries: it is sound, tells what was given, and how an entry more changes it. Assumes nothing.
use Prim.Native.Nat.{ℕ, ◌≤◌, ◌<◌}
use mathlib.Core.Path.{◌≡◌, refl, sym, ap, ap₂, ◌∙◌, fun_ext}
use mathlib.Core.Bool.{Bool, true, false, ◌||◌, or-false}
use mathlib.Core.List.{List, [], ◌∷◌, ◌++◌}
use lib.ListN.{get_or}
use Rattle.vertex_set.specs.Alternatives.{provided, ◌or_else◌}
use Rattle.vertex_set.specs.Lists.{any}
use Rattle.vertex_set.specs.Sets.{mem, insert, collect}
use Rattle.vertex_set.proofs.Lists.{any_snoc}
use Rattle.bit_matrix.specs.Matrices.{table_of}
use Rattle.bit_matrix.proofs.Matrices.{table_cong}
use Rattle.signed_graph.specs.Graphs.{with_tables, edgeless}
use Rattle.commands.specs.declared.Sign.{Sign}
use Rattle.commands.specs.declared.Sign.TheVariants.{Positive, Negative}
use Rattle.commands.specs.Entries.{Entry, link, mask, joins, joins_as, masks, given_as, masked, earlier_of, proper, graph_of_entries}
use Rattle.commands.specs.Tables.{earlier_in, put_edge}
use Rattle.commands.proofs.Entries.{as_comm, given_signs, as_given, sign_self, proper_joins, proper_masks, one_sign}
use Rattle.commands.proofs.Tables.{put_table}
use Rattle.commands.proofs.Graphs as graphs
use Rattle.commands.proofs.Graphs.{Consistent, table_given, masks_given, with_masked, masked_more}

module _ (n : ℕ) (es : List Entry) (small : n ≤ 64) (ok : proper n es ≡ true) where
  pub consistent : Consistent n (λ s. given_as s es) (masked es)
  consistent =
      record {
        small = small;
        low = λ s p q e. proper_joins n es ok p q (as_given s es p q e);
        either_way = λ s. as_comm s es;
        one_sign = one_sign n es ok;
        low_masks = proper_masks n es ok;
      }

  -- the graph itself tells what was given
  pub earlier_given : earlier_in (table_of (given_as Positive es)) (table_of (given_as Negative es)) (collect 64 (masked es)) ≡ earlier_of es
  earlier_given =
      ap₂ (λ (j : ℕ → ℕ → Bool) (m : ℕ → Bool). record { joined = j; masked = m })
      (fun_ext (λ p. fun_ext (λ q. ap₂ ◌||◌ (has Positive p q) (has Negative p q) ∙ sym (given_signs es p q))))
      (fun_ext (masks_given n (λ s. given_as s es) (masked es) consistent))
    where
      has : (s : Sign) (p q : ℕ) → mem q (get_or (table_of (given_as s es)) p 0) ≡ given_as s es p q
      has = table_given n (λ s. given_as s es) (masked es) consistent

pub edgeless_graph : (n : ℕ) → n ≤ 64 → edgeless n ≡ graph_of_entries n []
unfolding any
edgeless_graph n h = graphs.edgeless_graph n h

-- ---- an edge more, in the table of its sign

joined_table : (s : Sign) (es : List Entry) (a b : ℕ) → a < 64 → b < 64
    → put_edge true (table_of (given_as s es)) a b ≡ table_of (given_as s (es ++ link s a b ∷ []))
joined_table s es a b la lb =
    put_table true (given_as s es) a b la lb
    ∙ table_cong _ (given_as s (es ++ link s a b ∷ [])) (λ p q _ _.
    either (joins p q (link s a b)) (given_as s es p q)
    ∙ sym (any_snoc (joins_as s p q) es (link s a b) ∙ rw (sign_self s)))
  where
    either : (x y : Bool) → (provided x true or_else y) ≡ (y || x)
    either true true = refl
    either true false = refl
    either false true = refl
    either false false = refl

-- in a table that it does not change
kept_table_law : (t : Sign) (es : List Entry) (e : Entry) → ((p q : ℕ) → joins_as t p q e ≡ false)
    → table_of (given_as t es) ≡ table_of (given_as t (es ++ e ∷ []))
kept_table_law t es e d =
    table_cong (given_as t es) (given_as t (es ++ e ∷ [])) (λ p q _ _.
    sym (any_snoc (joins_as t p q) es e ∙ ap (λ (z : Bool). given_as t es p q || z) (d p q) ∙ or-false (given_as t es p q)))

-- an edge masks nothing
kept_masks : (es : List Entry) (s : Sign) (a b : ℕ) → collect 64 (masked es) ≡ collect 64 (masked (es ++ link s a b ∷ []))
kept_masks es s a b =
    ap (collect 64) (fun_ext (λ p. sym (any_snoc (masks p) es (link s a b) ∙ or-false (masked es p))))

-- ---- a graph with one entry more is the graph of the entries and this one

module _ (n : ℕ) (es : List Entry) (a b : ℕ) (la : a < 64) (lb : b < 64) where
  pub positive_more : with_tables (graph_of_entries n es) (put_edge true (graph_of_entries n es).positive a b) (graph_of_entries n es).negative
      ≡ graph_of_entries n (es ++ link Positive a b ∷ [])
  positive_more =
      cc (joined_table Positive es a b la lb, kept_table_law Negative es (link Positive a b) (λ p q. refl), kept_masks es Positive a b)

  pub negative_more : with_tables (graph_of_entries n es) (graph_of_entries n es).positive (put_edge true (graph_of_entries n es).negative a b)
      ≡ graph_of_entries n (es ++ link Negative a b ∷ [])
  negative_more =
      cc (kept_table_law Positive es (link Negative a b) (λ p q. refl), joined_table Negative es a b la lb, kept_masks es Negative a b)

pub mask_more : (n : ℕ) (es : List Entry) (a : ℕ) → a < 64
    → with_masked (graph_of_entries n es) (insert a (graph_of_entries n es).masked) ≡ graph_of_entries n (es ++ mask a ∷ [])
mask_more n es a l =
    let more : insert a (collect 64 (masked es)) ≡ collect 64 (masked (es ++ mask a ∷ [])) =
    masked_more (masked es) a l ∙ ap (collect 64) (fun_ext (λ p. sym (any_snoc (masks p) es (mask a)))) in
    cc (kept_table_law Positive es (mask a) (λ p q. refl), kept_table_law Negative es (mask a) (λ p q. refl), more)
