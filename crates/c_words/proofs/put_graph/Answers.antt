-- `c_words::put_graph` meets its contract. n, then the positive rows, then the negative ones, then the masked set. Assumes nothing.
use Prim.Native.Nat.{ℕ, ◌+◌, ◌≤◌}
use native.Mathlib.Omega.{arith}
use mathlib.Core.Path.{◌≡◌, sym, ap, ap₂, ◌∙◌}
use mathlib.Core.List.{List, [], ◌∷◌, ◌++◌, append_assoc}
use lib.ListN.{length, take, drop, set, length-append}
use lib.Seq.{take_at, drop_at, drop-drop}
use borrow.Rule.Slice.PartMut.{put_mid}
use Rattle.vertex_set.proofs.Buffers.{Laid, laid_start, laid_store, laid_end}
use Rattle.c_words.specs.Graphs.{graph_words}
use Rattle.c_words.proofs.put_graph.Goals as goal

-- a piece is written into a part of its length
laid_table : {whole before out : List ℕ} {at : ℕ} (piece left last : List ℕ) → Laid whole before out at (piece ++ left)
    → length piece ≡ 64 → last ≡ piece → Laid whole before (put_mid at 64 out last) (at + 64) left
laid_table {whole} {before} {out} {at} piece left last l long is =
    record {
      done = l.done ++ piece;
      place = length-append l.done piece ∙ ap₂ (λ (x y : ℕ). x + y) l.place long;
      whole_is = l.whole_is ∙ sym (append_assoc l.done piece left);
      out_is =
          ap₂ (λ (x y : List ℕ). take at x ++ (y ++ drop 64 (drop at x))) l.out_is is
          ∙ ap₂ (λ (x y : List ℕ). x ++ (piece ++ drop 64 y)) (take_at l.done (drop at before) at l.place)
          (drop_at l.done (drop at before) at l.place)
          ∙ ap (λ (x : List ℕ). l.done ++ (piece ++ x)) (drop-drop 64 at before)
          ∙ sym (append_assoc l.done piece (drop (at + 64) before));
      fits = l.fits;
    }

written : (n masked : ℕ) (p q out p' q' : List ℕ) → length p ≡ 64 → length q ≡ 64 → graph_words ≤ length out → p' ≡ p → q' ≡ q
    → Laid (n ∷ (p ++ (q ++ masked ∷ []))) out (set (put_mid 65 64 (put_mid 1 64 (set out 0 n) p') q') 129 masked) 130 []
written n masked p q out p' q' lp lq room ep eq =
    let whole = n ∷ (p ++ (q ++ masked ∷ [])) in
    let fits : length whole ≤ length out = omega (arith, length-append p (q ++ masked ∷ []), length-append q (masked ∷ [])) in
    let start = laid_store n (p ++ (q ++ masked ∷ [])) (laid_start whole out fits) in
    laid_store masked [] (laid_table q (masked ∷ []) q' (laid_table p (q ++ masked ∷ []) p' start lp ep) lq eq)

pub returns : goal.returns
returns c =
    let g = c.args.g.now in
    laid_end (written g.n g.masked g.positive g.negative c.args.out.now _ _ (omega arith) (omega arith) c.requires
    c.copy_from_slice.ensures.after c.copy_from_slice-2.ensures.after)
