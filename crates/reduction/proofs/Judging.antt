-- A loop that judges each edge with a vertex of look once: at the last of its vertices that look has. Assumes nothing.
use Prim.Native.Nat.{ℕ, ◌-◌, ◌^◌, ◌≤◌, ◌<◌}
use native.Mathlib.Omega.{arith}
use native.Mathlib.Decide.{ℕ_discrete}
use mathlib.Core.Path.{◌≡◌, refl, sym, ap, ap₂, ◌∙◌, subst}
use mathlib.Core.Logic.{◌≢◌}
use mathlib.Core.Bool.{Bool, true, false, not, ◌&&◌, ◌||◌, and-true, or-true}
use mathlib.Core.List.{List}
use lib.Dec.{eqb}
use lib.Bits.{bit_and}
use lib.ListN.{get_or, length}
use borrow.Author.Tests.{eqb-true, eq-eqb, ne_eqb, lt-ltb}
use Rattle.vertex_set.specs.Sets.{mem}
use Rattle.vertex_set.specs.Members.{TakesLowest}
use Rattle.vertex_set.proofs.Membership.{mem_none, mem_ones, mem_ext}
use Rattle.vertex_set.proofs.LowestVertex.{rest_lt, mem_rest, lowest_in}
use Rattle.vertex_set.proofs.Traversals.{Traversal, traversal_here, traversal_step}
use Rattle.bit_matrix.specs.Matrices.{table_of}
use Rattle.bit_matrix.proofs.Matrices.{table_is}
use Rattle.reduction.specs.RoundTables.{sifted, stays, JudgedOnce, Parted}
use Rattle.reduction.proofs.Striking.{sifted_lt, mem_sifted}
use Rattle.reduction.proofs.Parting.{minus}

pub after_lt : {left p after : ℕ} → TakesLowest left p after → left < 2 ^ 64 → after < 2 ^ 64
after_lt {left} t h = subst (λ (z : ℕ). z < 2 ^ 64) (sym t.is_rest) (rest_lt 64 left h)

-- kept has what stays, and every edge with a vertex that is left
pub record Judging (look : ℕ) (rows : List ℕ) (test : ℕ → ℕ → Bool) (left : ℕ) (kept : List ℕ) : Type 0 where
  pub traversal : Traversal look left
  pub long : length kept ≡ 64
  pub less : (a : ℕ) → get_or kept a 0 ≤ get_or rows a 0
  pub has : (a b : ℕ) → a < 64 → b < 64
      → mem b (get_or kept a 0) ≡ (mem b (get_or rows a 0) && ((mem a left || mem b left) || (not (mem a look || mem b look) || test a b)))

module _ (look : ℕ) {rows : List ℕ} {test : ℕ → ℕ → Bool} (j : JudgedOnce rows test) where
  abbrev joins : ℕ → ℕ → Bool
  joins p q = mem q (get_or rows p 0)

  abbrev stay : ℕ → ℕ → Bool
  stay p q = not (mem p look || mem q look) || test p q

  -- ---- the edges of p that are due

  -- those of its partners that are not left behind it and do not pass
  abbrev goes : ℕ → ℕ → ℕ → Bool
  goes left p b = (joins p b && not (mem b left)) && not (test p b)

  -- as the code computes them
  module _ (left p row kept : ℕ) (h : left < 2 ^ 64) (e : row ≡ get_or rows p 0)
      (i : kept ≡ sifted (bit_and row ((2 ^ 64 - 1) - left)) (2 ^ 64 - 1) (test p)) (b : ℕ) (k : b < 64) where
    abbrev due_at_law : ℕ
    due_at_law = bit_and row ((2 ^ 64 - 1) - left)

    is_due_law : mem b due_at_law ≡ (joins p b && not (mem b left))
    is_due_law = minus b row left k h ∙ ap (λ (z : ℕ). mem b z && not (mem b left)) e

    once : (x z : Bool) → (x && not (x && z)) ≡ (x && not z)
    once true z = refl
    once false z = refl

    pub mem_out : mem b (bit_and (bit_and row ((2 ^ 64 - 1) - left)) ((2 ^ 64 - 1) - kept)) ≡ goes left p b
    mem_out =
        ap (λ (z : ℕ). mem b (bit_and due_at_law ((2 ^ 64 - 1) - z))) i ∙ minus b due_at_law _ k (sifted_lt _ _ (test p))
        ∙ ap₂ (λ (x y : Bool). x && not y) is_due_law
        (mem_sifted due_at_law (2 ^ 64 - 1) (test p) b k
        ∙ ap₂ (λ (x y : Bool). x && (not y || test p b)) is_due_law (mem_ones 64 b ∙ lt-ltb b 64 k))
        ∙ once (joins p b && not (mem b left)) (test p b)

  -- ---- the step

  -- the row of a vertex that is left is whole
  pub whole_row : {left p after : ℕ} {kept : List ℕ} → TakesLowest left p after → Judging look rows test left kept
      → get_or kept p 0 ≡ get_or rows p 0
  whole_row {left} {p} {after} {kept} t d =
      mem_ext 64 (get_or kept p 0) (get_or rows p 0) (omega (arith, d.less p, j.fits p)) (j.fits p) (λ b k.
      d.has p b t.is_vertex k
      ∙ ap (λ (x : Bool). joins p b && ((x || mem b left) || stay p b))
      (ap (λ (z : ℕ). mem z left) t.is_lowest ∙ lowest_in left t.some d.traversal.fits) ∙ and-true (joins p b))

  module _ {left p after : ℕ} {kept : List ℕ} (t : TakesLowest left p after) (d : Judging look rows test left kept) (out : ℕ) (next : List ℕ)
      (o : (b : ℕ) → b < 64 → mem b out ≡ goes after p b) (pt : Parted kept p out next) where
    fits : left < 2 ^ 64
    fits = d.traversal.fits

    low : p < 64
    low = t.is_vertex

    was_left : mem p left ≡ true
    was_left = ap (λ (z : ℕ). mem z left) t.is_lowest ∙ lowest_in left t.some fits

    looked : mem p look ≡ true
    looked = ap (λ (z : ℕ). mem z look) t.is_lowest ∙ traversal_here d.traversal t.some

    now_left : (a : ℕ) → mem a after ≡ (mem a left && not (eqb a p))
    now_left a = ap (mem a) t.is_rest ∙ mem_rest left t.some fits a ∙ ap (λ (z : ℕ). mem a left && not (eqb a z)) (sym t.is_lowest)

    not_left : mem p after ≡ false
    not_left = now_left p ∙ ap₂ (λ (x y : Bool). x && not y) was_left (eq-eqb p p refl)

    still : (a : ℕ) → a ≢ p → mem a after ≡ mem a left
    still a n = now_left a ∙ ap (λ (x : Bool). mem a left && not x) (ne_eqb a p n) ∙ and-true (mem a left)

    abbrev due : ℕ → ℕ → Bool
    due a b = joins a b && ((mem a after || mem b after) || stay a b)

    -- the row of p
    own_row : (b : ℕ) → b < 64 → mem b (get_or next p 0) ≡ due p b
    own_row b k =
        pt.has p b low k
        ∙ ap₂ (λ (x y : Bool). x && not (y && mem b out || eqb b p && mem p out))
        (d.has p b low k ∙ ap (λ (x : Bool). joins p b && ((x || mem b left) || stay p b)) was_left) (eq-eqb p p refl)
        ∙ ap (λ (x : Bool). (joins p b && true) && not (x || eqb b p && mem p out)) (o b k)
        ∙ go (joins p b) (mem b after) (test p b) (eqb b p) (mem p out)
        (λ x. ap (λ (z : ℕ). mem z out) (sym (eqb-true b p x)) ∙ o b k)
        ∙ sym (ap₂ (λ (x y : Bool). joins p b && ((x || mem b after) || (not (y || mem b look) || test p b))) not_left looked)
      where
        go : (x l s t y : Bool) → (t ≡ true → y ≡ ((x && not l) && not s))
            → ((x && true) && not (((x && not l) && not s) || t && y)) ≡ (x && ((false || l) || s))
        go false l s t y h = refl
        go true true s false y h = refl
        go true false true false y h = refl
        go true false false false y h = refl
        go true true s true y h = ap (λ (y : Bool). not y) (h refl)
        go true false true true y h = ap (λ (y : Bool). not y) (h refl)
        go true false false true y h = refl

    -- the column of p
    own_column : (a : ℕ) → a < 64 → a ≢ p → mem p (get_or next a 0) ≡ due a p
    own_column a l n =
        pt.has a p l low
        ∙ ap₂ (λ (x y : Bool). x && not (y && mem p out || eqb p p && mem a out))
        (d.has a p l low ∙ ap (λ (x : Bool). joins a p && ((mem a left || x) || stay a p)) was_left) (ne_eqb a p n)
        ∙ ap₂ (λ (x y : Bool). (joins a p && ((mem a left || true) || stay a p)) && not (x && y)) (eq-eqb p p refl) (o a l ∙ turned)
        ∙ go (joins a p) (mem a left) (mem a after) (stay a p)
        ∙ sym (ap (λ (x : Bool). joins a p && ((mem a after || x) || stay a p)) not_left)
      where
        same_stay : test p a ≡ stay a p
        same_stay = j.alike p a ∙ sym (ap (λ (x : Bool). not x || test a p) (ap (λ (x : Bool). mem a look || x) looked ∙ or-true (mem a look)))

        turned : goes after p a ≡ ((joins a p && not (mem a after)) && not (stay a p))
        turned = ap₂ (λ (x y : Bool). (x && not (mem a after)) && not y) (j.joined p a) same_stay

        go : (x l l' s : Bool) → ((x && ((l || true) || s)) && not ((x && not l') && not s)) ≡ (x && ((l' || false) || s))
        go false l l' s = refl
        go true true true s = refl
        go true true false true = refl
        go true true false false = refl
        go true false true s = refl
        go true false false true = refl
        go true false false false = refl

    -- any other row and column
    elsewhere : (a b : ℕ) → a < 64 → b < 64 → a ≢ p → b ≢ p → mem b (get_or next a 0) ≡ due a b
    elsewhere a b l k n m =
        pt.has a b l k
        ∙ ap₂ (λ (x y : Bool). mem b (get_or kept a 0) && not (x && mem b out || y && mem a out)) (ne_eqb a p n) (ne_eqb b p m)
        ∙ and-true (mem b (get_or kept a 0)) ∙ d.has a b l k
        ∙ sym (ap₂ (λ (x y : Bool). joins a b && ((x || y) || stay a b)) (still a n) (still b m))

    pub judging_step : Judging look rows test after next
    judging_step =
        record {
          traversal = subst (Traversal look) (sym t.is_rest) (traversal_step d.traversal t.some);
          long = pt.long;
          less = λ a. omega (arith, pt.less a, d.less a);
          has = λ a b l k. go a b l k (ℕ_discrete a p) (ℕ_discrete b p);
        }
      where
        go : (a b : ℕ) → a < 64 → b < 64 → Dec (a ≡ p) → Dec (b ≡ p) → mem b (get_or next a 0) ≡ due a b
        go a b l k (yes x) y = subst (λ (z : ℕ). mem b (get_or next z 0) ≡ due z b) (sym x) (own_row b k)
        go a b l k (no x) (yes y) = subst (λ (z : ℕ). mem z (get_or next a 0) ≡ due a z) (sym y) (own_column a l x)
        go a b l k (no x) (no y) = elsewhere a b l k x y

  pub judging_end : {left : ℕ} {kept : List ℕ} → Judging look rows test left kept → left ≡ 0
      → kept ≡ table_of (λ p. stays look (test p) (get_or rows p 0) p)
  judging_end {left} {kept} d z =
      table_is (λ p. stays look (test p) (get_or rows p 0) p) kept d.long (λ p _. omega (arith, d.less p, j.fits p)) (λ a b l k.
      d.has a b l k ∙ ap₂ (λ (x y : Bool). joins a b && ((x || y) || stay a b)) (none a) (none b))
    where
      none : (a : ℕ) → mem a left ≡ false
      none a = ap (mem a) z ∙ mem_none a
