-- `signed_graph::tables_sound` meets its contract. The rows of the vertices below p are sound. Assumes nothing.
use mathlib.Core.Path.{◌≡◌, refl, sym, ap, ◌∙◌}
use mathlib.Core.List.{List}
use Prim.Native.Nat.{ℕ}
use native.Mathlib.Omega.{arith}
use borrow.Author.Rules.{rules}
use Rattle.vertex_set.specs.Ranges.{all}
use Rattle.vertex_set.proofs.Ranges.{all_more, all_end, all_fails}
use Rattle.bit_matrix.specs.Matrices.{transposed}
use Rattle.signed_graph.specs.Rows.{packed, tables_sound}
use Rattle.signed_graph.proofs.tables_sound.Goals as goal
use Rattle.signed_graph.proofs.tables_sound.Invariants.{test}

all-tests : (positive negative columns table : List ℕ) (top : ℕ) → columns ≡ transposed table → table ≡ packed positive negative
    → all 64 (test positive negative top columns) ≡ tables_sound positive negative top
unfolding tables_sound
all-tests positive negative columns table top e t =
    ap (λ (x : List ℕ). all 64 (test positive negative top x)) (e ∙ ap transposed t)

pub loop-p-init : goal.loop-p-init
unfolding all
loop-p-init c = (omega arith, refl)

pub returns-then-not-rows_sound : goal.returns-then-not-rows_sound
returns-then-not-rows_sound c =
    let s = c.rows_sound in
    sym (all_fails _ 64 c.loop-p.p (search rules) (sym s.ensures ∙ c.if-not-rows_sound.true))
    ∙ all-tests _ _ _ _ _ c.transpose-columns.ensures c.packed.ensures

pub loop-p-preserved : goal.loop-p-preserved
loop-p-preserved c =
    let s = c.rows_sound in
    let l = c.loop-p in
    (omega arith, all_more _ l.p l.invariant.1 (sym s.ensures ∙ c.if-not-rows_sound.false))

pub returns : goal.returns
returns c =
    let l = c.loop-p in
    sym (all_end _ 64 l.p l.invariant.0 c.loop-p-test.false l.invariant.1)
    ∙ all-tests _ _ _ _ _ c.transpose-columns.ensures c.packed.ensures
