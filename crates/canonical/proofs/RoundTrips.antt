-- The two round trips: what is encoded decodes to its graph, and what is decoded encodes to its one canonical form. Assumes nothing.
use Prim.Native.Nat.{ℕ, ◌≤◌}
use mathlib.Core.Path.{◌≡◌, refl, sym, ap, ap₂, ◌∙◌, subst}
use mathlib.Core.Bool.{true, false, not}
use mathlib.Core.List.{List}
use lib.Dec.{ltb}
use lib.ListN.{length, take}
use lib.Seq.{take-append_seam}
use borrow.Author.Tests.{le-ltb}
use Rattle.std.specs.Prelude.{Ok}
use Rattle.vertex_set.proofs.Alternatives.{passes_by}
use Rattle.signed_graph.specs.declared.SignedGraph.{SignedGraph}
use Rattle.signed_graph.specs.Soundness.{sound}
use Rattle.signed_graph.proofs.Soundness.{Sound, to_sound}
use Rattle.commands.specs.declared.Sign.{Sign}
use Rattle.edge_list.specs.Acceptance.{ListOf, given_by, masked_by}
use Rattle.edge_list.specs.Decoding.{decoded}
use Rattle.canonical.specs.Canonical.{CanonicalForm, ordered_entries, canonical}
use Rattle.canonical.specs.Encoding.{encoded, buffered, encoded_length}
use Rattle.edge_list.proofs.Answers.{accepted_words, list_accepted, accepted_sound, accepted_edge, accepted_masked}
use Rattle.canonical.proofs.Canonical.{entries_ordered, entries_given, entries_masked, entries_graph, entries_proper, one_form}

-- ---- the canonical form is an edge list of its graph

canonical_accepted : (g : SignedGraph) → sound g ≡ true → decoded (canonical g) ≡ Ok g
canonical_accepted g e =
    let h : Sound g = to_sound g e in
    list_accepted g.n (ordered_entries g) h.small (entries_proper g h) ∙ ap Ok (entries_graph g h)

-- ---- and the canonical form of every list that gives this graph

canonical_form : {bytes : List ℕ} {g : SignedGraph} (w : ListOf bytes g) → CanonicalForm g.n (given_by w) (masked_by w) (canonical g)
canonical_form {bytes} {g} w =
    record {
      entries = ordered_entries g;
      ordered = entries_ordered g;
      spelled = refl;
      same = λ s p q. entries_given g h s p q ∙ accepted_edge w s p q;
      same_masks = λ p. entries_masked g h p ∙ accepted_masked w p;
    }
  where
    h : Sound g
    h = to_sound g (accepted_sound w)

-- lists that give the same edges and masks, in any order, either way round and of either opening, have one canonical form
pub same_form : {a b : List ℕ} {g h : SignedGraph} (v : ListOf a g) (w : ListOf b h) → g.n ≡ h.n
    → ((s : Sign) (p q : ℕ) → given_by v s p q ≡ given_by w s p q) → ((p : ℕ) → masked_by v p ≡ masked_by w p) → canonical g ≡ canonical h
same_form {a} {b} {g} {h} v w e same also =
    one_form h.n (given_by v) (given_by w) (masked_by v) (masked_by w) (canonical g) (canonical h)
    (subst (λ (m : ℕ). CanonicalForm m (given_by v) (masked_by v) (canonical g)) e (canonical_form v)) (canonical_form w) same also

-- two lists of one graph, of either opening, have one canonical form
pub one_graph_one_form : {a b : List ℕ} {g : SignedGraph} (v : ListOf a g) (w : ListOf b g) (form form' : List ℕ)
    → CanonicalForm g.n (given_by v) (masked_by v) form → CanonicalForm g.n (given_by w) (masked_by w) form' → form ≡ form'
one_graph_one_form {a} {b} {g} v w form form' c d =
    one_form g.n (given_by v) (given_by w) (masked_by v) (masked_by w) form form' c d
    (λ s p q. sym (accepted_edge v s p q) ∙ accepted_edge w s p q) (λ p. sym (accepted_masked v p) ∙ accepted_masked w p)

-- ---- what `encode` wrote

-- the bytes that a call wrote, by its answer and the buffer behind it
abbrev pub written_by : SignedGraph → List ℕ → List ℕ
written_by g out = take (encoded_length (encoded g (length out))) (buffered g out)

module _ (g : SignedGraph) (out : List ℕ) (e : sound g ≡ true) (room : length (canonical g) ≤ length out) where
  writes_canonical : written_by g out ≡ canonical g
  unfolding encoded buffered
  writes_canonical =
      ap₂ (λ (k : ℕ) (l : List ℕ). take k l)
      (ap encoded_length (passes_by (not (sound g)) _ _ (ap not e) ∙ passes_by (ltb (length out) (length (canonical g))) _ _ fits))
      (passes_by (not (sound g)) _ _ (ap not e) ∙ passes_by (ltb (length out) (length (canonical g))) _ _ fits)
      ∙ take-append_seam (canonical g) _
    where
      fits : ltb (length out) (length (canonical g)) ≡ false
      fits = le-ltb (length out) (length (canonical g)) room

  -- what is encoded decodes to its graph
  pub encode_decode : decoded (written_by g out) ≡ Ok g
  encode_decode = ap decoded writes_canonical ∙ canonical_accepted g e

-- what is decoded encodes to the canonical form of the list
pub decode_encode : (bytes : List ℕ) (g : SignedGraph) (out : List ℕ) (e : decoded bytes ≡ Ok g) → length (canonical g) ≤ length out
    → CanonicalForm g.n (given_by (accepted_words bytes g e)) (masked_by (accepted_words bytes g e)) (written_by g out)
decode_encode bytes g out e room =
    let w : ListOf bytes g = accepted_words bytes g e in
    subst (CanonicalForm g.n (given_by w) (masked_by w)) (sym (writes_canonical g out (accepted_sound w) room)) (canonical_form w)
