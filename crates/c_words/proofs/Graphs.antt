-- Graphs written as words: what is read at the front of an array is the graph that was written there. Assumes nothing.
use Prim.Native.Nat.{ℕ, ◌≤◌}
use native.Mathlib.Omega.{arith}
use mathlib.Core.Path.{◌≡◌, ap, ◌∙◌}
use mathlib.Core.Bool.{true}
use mathlib.Core.List.{List, [], ◌∷◌, ◌++◌, append_assoc}
use lib.ListN.{length, get_or, take, drop, length-append, length-drop}
use lib.Seq.{take_at, drop_at, get_or_at}
use Rattle.vertex_set.specs.Buffers.{overwritten}
use Rattle.signed_graph.specs.declared.SignedGraph.{SignedGraph}
use Rattle.signed_graph.specs.Soundness.{sound}
use Rattle.signed_graph.proofs.Soundness.{Sound, to_sound}
use Rattle.c_words.specs.Graphs.{graph_words, words_of, graph_at}

-- an array keeps its length when its front is overwritten
overwritten_long : (words before : List ℕ) → length words ≤ length before → length (overwritten words before) ≡ length before
overwritten_long words before h =
    omega (arith, length-append words (drop (length words) before), length-drop (length words) before)

-- a graph whose tables have 64 rows each
module _ (g : SignedGraph) (positives : length g.positive ≡ 64) (negatives : length g.negative ≡ 64) where
  words_long : length (words_of g) ≡ graph_words
  words_long =
      omega (arith, length-append g.positive (g.negative ++ g.masked ∷ []), length-append g.negative (g.masked ∷ []))

  -- at the front of whatever array
  read_front : (rest : List ℕ) → graph_at (words_of g ++ rest) ≡ g
  unfolding graph_at
  read_front rest =
      let behind : List ℕ = g.masked ∷ rest in
      let rows : (g.positive ++ (g.negative ++ g.masked ∷ [])) ++ rest ≡ g.positive ++ (g.negative ++ behind) = simp append_assoc in
      let p : take 64 ((g.positive ++ (g.negative ++ g.masked ∷ [])) ++ rest) ≡ g.positive =
      rw rows (take_at g.positive (g.negative ++ behind) 64 positives) in
      let q : take 64 (drop 64 ((g.positive ++ (g.negative ++ g.masked ∷ [])) ++ rest)) ≡ g.negative =
      rw (rows, drop_at g.positive (g.negative ++ behind) 64 positives) (take_at g.negative behind 64 negatives) in
      let m : get_or ((g.positive ++ (g.negative ++ g.masked ∷ [])) ++ rest) 128 0 ≡ g.masked =
      rw (rows, ← append_assoc) (get_or_at (g.positive ++ g.negative) g.masked rest 0 128
      (omega (arith, length-append g.positive g.negative))) in
      λ i. record { n = g.n; positive = p i; negative = q i; masked = m i }

  -- the graph that is read is the one that was written
  pub written_read : (before : List ℕ) → graph_at (overwritten (words_of g) before) ≡ g
  written_read before = read_front (drop (length (words_of g)) before)

  -- the words behind it are those that stood there
  pub written_behind : (before : List ℕ) → drop graph_words (overwritten (words_of g) before) ≡ drop graph_words before
  written_behind before =
      drop_at (words_of g) (drop (length (words_of g)) before) graph_words words_long ∙ ap (λ (i : ℕ). drop i before) words_long

-- so of every sound graph
module _ (g : SignedGraph) (e : sound g ≡ true) (before : List ℕ) where
  pub sound_read : graph_at (overwritten (words_of g) before) ≡ g
  sound_read = let so : Sound g = to_sound g e in written_read g so.positives.whole so.negatives.whole before

  -- and the array is as long as before
  pub sound_long : graph_words ≤ length before → length (overwritten (words_of g) before) ≡ length before
  sound_long h =
      let so : Sound g = to_sound g e in
      overwritten_long (words_of g) before (omega (arith, words_long g so.positives.whole so.negatives.whole))
