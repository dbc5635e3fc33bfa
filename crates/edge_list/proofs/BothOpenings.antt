-- The same commands under both openings, a command given again, and what an amendment list is never refused for. Assumes nothing.
use Prim.Native.Nat.{ℕ, ◌≤◌}
use native.Mathlib.Omega.{arith}
use mathlib.Core.Path.{◌≡◌, refl, sym, ap, ap₂, ◌∙◌, fun_ext}
use mathlib.Core.Logic.{◌≢◌, inl, inr}
use mathlib.Core.Bool.{Bool, true, false, ◌&&◌, ◌||◌, or-false, and-true}
use mathlib.Core.List.{List, [], ◌∷◌, ◌++◌, map}
use lib.ListN.{get_or, drop}
use Rattle.std.specs.Prelude.{Ok}
use Rattle.vertex_set.specs.Lists.{All, any}
use Rattle.vertex_set.specs.Sets.{collect}
use Rattle.vertex_set.proofs.Booleans.{clash, cases, refute, fails_right}
use Rattle.vertex_set.proofs.Alternatives.{applies, passes_by}
use Rattle.bit_matrix.specs.Matrices.{table_of}
use Rattle.bit_matrix.proofs.Matrices.{table_cong}
use Rattle.signed_graph.specs.declared.SignedGraph.{SignedGraph}
use Rattle.commands.specs.declared.Sign.{Sign}
use Rattle.commands.specs.declared.Sign.TheVariants.{Positive, Negative}
use Rattle.commands.specs.declared.Fault.{Fault}
use Rattle.commands.specs.Entries.{Entry, link, mask, same_sign, joins, given, given_as, masked, proper, graph_of_entries, entry_bytes}
use Rattle.commands.specs.Faults.{fault_number, outcome_number}
use Rattle.commands.proofs.Entries.{proper_first, proper_rest, as_given, joined_given}
use Rattle.amendments.specs.Amendments.{EdgeState, present, absent, Amendment, amend_edge, amend_mask, names, masking, state_after, state_from, is_present, amended_as, amended_mask, graph_of_amendments, Permitted, bytes_of_amendment, amendment_bytes, amendment_list}
use Rattle.amendments.proofs.Amendments.{unnamed}
use Rattle.amendments.proofs.Answers as amending
use Rattle.edge_list.specs.Faults.{FaultIn, unopened, truncated, crowded, behind, amending}
use Rattle.edge_list.specs.Acceptance.{EdgeListOf, ListOf, edges, amendments}
use Rattle.edge_list.specs.Decoding.{decoded, decoded_number}
use Rattle.edge_list.proofs.Openings.{opened_11}
use Rattle.edge_list.proofs.Answers.{Answer, answer, words_accepted, words_refused, one_answer, accepted_words}

-- ---- the entries of an edge list as amendments

abbrev amendment_of : Entry → Amendment
amendment_of (link s a b) = amend_edge (present s) a b
amendment_of (mask a) = amend_mask a

abbrev amendments_of : List Entry → List Amendment
amendments_of es = map amendment_of es

same_bytes_law : (es : List Entry) → amendment_bytes (amendments_of es) ≡ entry_bytes es
unfolding amendment_bytes entry_bytes
same_bytes_law [] = refl
same_bytes_law (link s a b ∷ es) = ap (λ (l : List ℕ). bytes_of_amendment (amend_edge (present s) a b) ++ l) (same_bytes_law es)
same_bytes_law (mask a ∷ es) = ap (λ (l : List ℕ). bytes_of_amendment (amend_mask a) ++ l) (same_bytes_law es)

same_named : (p q : ℕ) (es : List Entry) → any (names p q) (amendments_of es) ≡ given es p q
unfolding any
same_named p q [] = refl
same_named p q (link s a b ∷ es) = ap (λ (x : Bool). joins p q (link s a b) || x) (same_named p q es)
same_named p q (mask a ∷ es) = same_named p q es

same_masked : (p : ℕ) (es : List Entry) → amended_mask (amendments_of es) p ≡ masked es p
unfolding any
same_masked p [] = refl
same_masked p (link s a b ∷ es) = same_masked p es
same_masked p (mask a ∷ es) = ap (λ (x : Bool). masking p (amend_mask a) || x) (same_masked p es)

module _ (n : ℕ) where
  all_permitted : (es : List Entry) → proper n es ≡ true → All (Permitted n) (amendments_of es)
  all_permitted [] ok = tt
  all_permitted (link s a b ∷ es) ok = ((proper_first n (link s a b) es ok).allowed, all_permitted es (proper_rest n (link s a b) es ok))
  all_permitted (mask a ∷ es) ok = ((proper_first n (mask a) es ok).allowed, all_permitted es (proper_rest n (mask a) es ok))

  -- an edge that is given once stands as it was given
  same_given : (t : Sign) (p q : ℕ) (es : List Entry) → proper n es ≡ true → amended_as t (amendments_of es) p q ≡ given_as t es p q
  unfolding state_from any
  same_given t p q [] ok = refl
  same_given t p q (mask a ∷ es) ok = same_given t p q es (proper_rest n (mask a) es ok)
  same_given t p q (link s a b ∷ es) ok =
      cases _ (joins p q (link s a b)) named (other (same_given t p q es (proper_rest n (link s a b) es ok)))
    where
      Same : Type 0
      Same =
          is_present t (state_from (state_after absent p q (amend_edge (present s) a b)) p q (amendments_of es))
          ≡ (same_sign t s && joins p q (link s a b) || given_as t es p q)

      -- no entry behind it joins them
      named : joins p q (link s a b) ≡ true → Same
      named e =
          let none : given es p q ≡ false = joined_given es p q s a b e ∙ (proper_first n (link s a b) es ok).new in
          let no_sign : given_as t es p q ≡ false =
          refute (given_as t es p q) (λ k. clash (given es p q) (as_given t es p q k) none) in
          ap (is_present t) (unnamed p q _ (amendments_of es) (same_named p q es ∙ none) ∙ applies (joins p q (link s a b)) (present s) absent e)
          ∙ sym (ap₂ (λ (x y : Bool). same_sign t s && x || y) e no_sign ∙ or-false (same_sign t s && true) ∙ and-true (same_sign t s))

      other : amended_as t (amendments_of es) p q ≡ given_as t es p q → joins p q (link s a b) ≡ false → Same
      other ih e =
          ap (λ (w : EdgeState). is_present t (state_from w p q (amendments_of es))) (passes_by (joins p q (link s a b)) (present s) absent e)
          ∙ ih ∙ sym (ap (λ (x : Bool). x || given_as t es p q) (fails_right (same_sign t s) (joins p q (link s a b)) e))

  same_graph : (es : List Entry) → proper n es ≡ true → graph_of_amendments n (amendments_of es) ≡ graph_of_entries n es
  same_graph es ok = cc (table Positive, table Negative, ap (collect 64) (fun_ext (λ p. same_masked p es)))
    where
      table : (s : Sign) → table_of (amended_as s (amendments_of es)) ≡ table_of (given_as s es)
      table s = table_cong _ _ (λ p q _ _. same_given s p q es ok)

-- ---- what is accepted under 10 is accepted under 11, with the same graph

edges_amended : (rest : List ℕ) (g : SignedGraph) → EdgeListOf (0x10 ∷ rest) g → decoded (0x11 ∷ rest) ≡ Ok g
edges_amended rest g w =
    let es : List Entry = w.entries in
    let spelled : rest ≡ g.n ∷ (entry_bytes es ++ 0xff ∷ []) = ap (drop 1) w.spelled in
    ap (λ (l : List ℕ). decoded (0x11 ∷ l)) spelled
    ∙ ap (λ (l : List ℕ). decoded (0x11 ∷ g.n ∷ (l ++ 0xff ∷ []))) (sym (same_bytes_law es))
    ∙ opened_11 (amendment_list g.n (amendments_of es)) refl
    ∙ amending.list_accepted g.n (amendments_of es) w.small (all_permitted g.n es w.once)
    ∙ ap Ok (same_graph g.n es w.once ∙ sym w.exactly)

pub either_opening : (rest : List ℕ) (g : SignedGraph) → decoded (0x10 ∷ rest) ≡ Ok g → decoded (0x11 ∷ rest) ≡ Ok g
either_opening rest g e = go (accepted_words (0x10 ∷ rest) g e)
  where
    go : ListOf (0x10 ∷ rest) g → decoded (0x11 ∷ rest) ≡ Ok g
    go (edges w) = edges_amended rest g w
    go (amendments w) = absurd (let z : 0x10 ≡ 0x11 = ap (λ (l : List ℕ). get_or l 0 0) w.spelled in omega arith)

-- so where both are, they have one graph
pub one_graph : (rest : List ℕ) (g h : SignedGraph) → decoded (0x10 ∷ rest) ≡ Ok g → decoded (0x11 ∷ rest) ≡ Ok h → g ≡ h
one_graph rest g h a b = one_answer (decoded (0x11 ∷ rest)) g h (either_opening rest g a) b

-- ---- a command of an amendment list given again behind itself changes nothing

pub command_again : (n : ℕ) (cs : List Amendment) (c : Amendment) (ds : List Amendment) → n ≤ 64 → All (Permitted n) (cs ++ c ∷ ds)
    → decoded (amendment_list n (cs ++ c ∷ c ∷ ds)) ≡ decoded (amendment_list n (cs ++ c ∷ ds))
command_again n cs c ds small ok =
    opened_11 (amendment_list n (cs ++ c ∷ c ∷ ds)) refl ∙ amending.again_accepted n cs c ds small ok
    ∙ sym (opened_11 (amendment_list n (cs ++ c ∷ ds)) refl)

-- ---- 7 and 15 never come from a list that opens with 11

pub never_again : (bytes : List ℕ) → get_or bytes 0 0 ≡ 0x11 → (decoded_number bytes ≢ 7) × (decoded_number bytes ≢ 15)
never_again bytes first = go (answer bytes)
  where
    fault : (f : Fault) → FaultIn bytes f → (fault_number f ≢ 7) × (fault_number f ≢ 15)
    fault f (unopened k) = (λ e. omega arith, λ e. omega arith)
    fault f (truncated c o is) = (λ e. omega arith, λ e. omega arith)
    fault f (crowded c n rest o is h) = (λ e. omega arith, λ e. omega arith)
    fault f (behind n es part h ok is k) =
        absurd (let z : 0x11 ≡ 0x10 = sym first ∙ ap (λ (l : List ℕ). get_or l 0 0) is in omega arith)
    fault f (amending n cs part h ok is k) = amending.nothing_again n part _ f k

    go : Answer bytes → (decoded_number bytes ≢ 7) × (decoded_number bytes ≢ 15)
    go (inl w) =
        let is : decoded_number bytes ≡ fault_number w.0 = ap outcome_number (words_refused bytes w.0 w.1) in
        (λ e. (fault w.0 w.1).0 (sym is ∙ e), λ e. (fault w.0 w.1).1 (sym is ∙ e))
    go (inr w) =
        let is : decoded_number bytes ≡ 0 = ap outcome_number (words_accepted bytes w.0 w.1) in
        (λ e. omega arith, λ e. omega arith)
