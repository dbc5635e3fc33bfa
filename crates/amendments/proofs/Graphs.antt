-- The graph of a list of amendments: it is sound, and how a command more changes it. Assumes nothing.
use Prim.Native.Nat.{ℕ, ◌≤◌, ◌<◌}
use mathlib.Core.Path.{◌≡◌, refl, sym, ap, ◌∙◌, fun_ext}
use mathlib.Core.Bool.{Bool, true, false, or-false}
use mathlib.Core.List.{List, [], ◌∷◌, ◌++◌}
use lib.Dec.{eqb}
use borrow.Author.Tests.{eqb-true}
use Rattle.vertex_set.specs.Alternatives.{provided, ◌or_else◌}
use Rattle.vertex_set.specs.Lists.{All, any}
use Rattle.vertex_set.specs.Sets.{insert, collect}
use Rattle.vertex_set.proofs.Booleans.{cases}
use Rattle.vertex_set.proofs.Alternatives.{passes_by}
use Rattle.vertex_set.proofs.Lists.{any_snoc}
use Rattle.bit_matrix.specs.Matrices.{table_of}
use Rattle.bit_matrix.proofs.Matrices.{table_cong}
use Rattle.signed_graph.specs.Graphs.{with_tables, edgeless}
use Rattle.commands.specs.declared.Sign.{Sign}
use Rattle.commands.specs.declared.Sign.TheVariants.{Positive, Negative}
use Rattle.commands.specs.Tables.{put_edge}
use Rattle.commands.proofs.Tables.{put_table}
use Rattle.commands.proofs.Graphs as graphs
use Rattle.commands.proofs.Graphs.{Consistent, with_masked, masked_more}
use Rattle.amendments.specs.Amendments.{EdgeState, present, absent, Amendment, amend_edge, amend_mask, names, masking, state_from, state_of, is_present, amended_as, amended_mask, graph_of_amendments, Permitted}
use Rattle.amendments.specs.Decoding.{byte_state}
use Rattle.amendments.proofs.Amendments.{amended_comm, state_snoc, state_again, mask_again, present_permitted, mask_permitted, one_state}

pub consistent : (n : ℕ) (cs : List Amendment) → n ≤ 64 → All (Permitted n) cs → Consistent n (λ s. amended_as s cs) (amended_mask cs)
consistent n cs small ok =
    record {
      small = small;
      low = λ s p q e. present_permitted n s p q cs ok e;
      either_way = λ s. amended_comm s cs;
      one_sign = λ p q. one_state (state_of cs p q);
      low_masks = λ p. mask_permitted n p cs ok;
    }

pub nothing_amended : (n : ℕ) → n ≤ 64 → edgeless n ≡ graph_of_amendments n []
unfolding state_from any
nothing_amended n h = graphs.edgeless_graph n h

-- ---- the state of an edge more

-- what the byte says is there, by its sign
byte_positive : (c : ℕ) → is_present Positive (byte_state c) ≡ eqb c 0x21
byte_positive c = go (eqb c 0x21) (eqb c 0x22)
  where
    go : (x y : Bool)
        → is_present Positive (provided x (present Positive) or_else (provided y (present Negative) or_else absent)) ≡ x
    go true y = refl
    go false true = refl
    go false false = refl

byte_negative : (c : ℕ) → is_present Negative (byte_state c) ≡ eqb c 0x22
byte_negative c =
    cases (is_present Negative (byte_state c) ≡ eqb c 0x22) (eqb c 0x21)
    (λ e. let is : c ≡ 0x21 = eqb-true c 0x21 e in rw is)
    (λ e. ap (is_present Negative) (passes_by (eqb c 0x21) _ _ e) ∙ go (eqb c 0x22))
  where
    go : (y : Bool) → is_present Negative (provided y (present Negative) or_else absent) ≡ y
    go true = refl
    go false = refl

-- the table of a sign takes the edge or loses it
table_more : (s : Sign) (cs : List Amendment) (b : Bool) (v : EdgeState) (x y : ℕ) → x < 64 → y < 64 → is_present s v ≡ b
    → put_edge b (table_of (amended_as s cs)) x y ≡ table_of (amended_as s (cs ++ amend_edge v x y ∷ []))
table_more s cs b v x y lx ly e =
    put_table b (amended_as s cs) x y lx ly
    ∙ table_cong _ (amended_as s (cs ++ amend_edge v x y ∷ [])) (λ p q _ _.
    rw (sym e) (said (names p q (amend_edge v x y)) (state_of cs p q)) ∙ ap (is_present s) (sym (state_snoc cs (amend_edge v x y) p q)))
  where
    said : (n : Bool) (w : EdgeState) → (provided n (is_present s v) or_else is_present s w) ≡ is_present s (provided n v or_else w)
    said true w = refl
    said false w = refl

-- a mask says nothing of edges, and an edge masks nothing
kept_table_law : (s : Sign) (cs : List Amendment) (a : ℕ) → table_of (amended_as s cs) ≡ table_of (amended_as s (cs ++ amend_mask a ∷ []))
kept_table_law s cs a = table_cong _ _ (λ p q _ _. ap (is_present s) (sym (state_snoc cs (amend_mask a) p q)))

kept_masks : (cs : List Amendment) (v : EdgeState) (a b : ℕ)
    → collect 64 (amended_mask cs) ≡ collect 64 (amended_mask (cs ++ amend_edge v a b ∷ []))
kept_masks cs v a b =
    ap (collect 64) (fun_ext (λ p. sym (any_snoc (masking p) cs (amend_edge v a b) ∙ or-false (amended_mask cs p))))

-- ---- a graph with one command more is the graph of the commands and this one

pub edge_more : (n : ℕ) (cs : List Amendment) (c a b : ℕ) → a < 64 → b < 64
    → with_tables (graph_of_amendments n cs) (put_edge (eqb c 0x21) (graph_of_amendments n cs).positive a b)
    (put_edge (eqb c 0x22) (graph_of_amendments n cs).negative a b) ≡ graph_of_amendments n (cs ++ amend_edge (byte_state c) a b ∷ [])
edge_more n cs c a b la lb =
    cc (
      table_more Positive cs (eqb c 0x21) (byte_state c) a b la lb (byte_positive c),
      table_more Negative cs (eqb c 0x22) (byte_state c) a b la lb (byte_negative c),
      kept_masks cs (byte_state c) a b,
    )

pub mask_more : (n : ℕ) (cs : List Amendment) (a : ℕ) → a < 64
    → with_masked (graph_of_amendments n cs) (insert a (graph_of_amendments n cs).masked) ≡ graph_of_amendments n (cs ++ amend_mask a ∷ [])
mask_more n cs a l =
    let more : insert a (collect 64 (amended_mask cs)) ≡ collect 64 (amended_mask (cs ++ amend_mask a ∷ [])) =
    masked_more (amended_mask cs) a l ∙ ap (collect 64) (fun_ext (λ p. sym (any_snoc (masking p) cs (amend_mask a)))) in
    cc (kept_table_law Positive cs a, kept_table_law Negative cs a, more)

-- a command given again behind itself changes nothing
pub graph_again : (n : ℕ) (cs : List Amendment) (c : Amendment) (ds : List Amendment)
    → graph_of_amendments n (cs ++ c ∷ c ∷ ds) ≡ graph_of_amendments n (cs ++ c ∷ ds)
graph_again n cs c ds = cc (table Positive, table Negative, ap (collect 64) (fun_ext (λ p. mask_again p cs c ds)))
  where
    table : (s : Sign) → table_of (amended_as s (cs ++ c ∷ c ∷ ds)) ≡ table_of (amended_as s (cs ++ c ∷ ds))
    table s = table_cong _ _ (λ p q _ _. ap (is_present s) (state_again p q cs c ds))
