-- `signed_graph::count_edges` meets its contract. What is counted are the edges whose lower vertex is below p. Assumes nothing.
use Prim.Native.Nat.{ℕ, ◌+◌}
use native.Mathlib.Omega.{arith}
use mathlib.Core.Path.{◌≡◌, sym, ap, ap₂, ◌∙◌}
use Rattle.vertex_set.specs.Sets.{size}
use Rattle.vertex_set.proofs.SizeBounds.{size_64}
use Rattle.signed_graph.proofs.EdgeCounts.{lower_to, lower_none, lower_more, lower_few, lower_all}
use Rattle.signed_graph.proofs.count_edges.Goals as goal

pub loop-p-init : goal.loop-p-init
loop-p-init c = (omega arith, sym (lower_none c.args.g))

pub overflow_add-count : goal.overflow_add-count
overflow_add-count c =
    let l = c.loop-p in
    let g = c.args.g in
    omega (arith, l.invariant.1, lower_few g l.p, c.size.ensures, size_64 c.members_above-above.result)

pub loop-p-preserved : goal.loop-p-preserved
loop-p-preserved c =
    let l = c.loop-p in
    let g = c.args.g in (
      omega arith,
      ap₂ (λ (x y : ℕ). x + y) l.invariant.1 (c.size.ensures ∙ ap size c.members_above-above.ensures) ∙ sym (lower_more g l.p),
    )

pub returns : goal.returns
returns c =
    let l = c.loop-p in
    let g = c.args.g in
    let e : l.p ≡ 64 = omega arith in
    l.invariant.1 ∙ ap (lower_to g) e ∙ lower_all g
