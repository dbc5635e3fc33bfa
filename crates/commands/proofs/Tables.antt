-- A table that takes an edge, or loses it. Assumes nothing.
use Prim.Native.Nat.{ℕ, ◌^◌, ◌<◌}
use native.Mathlib.Omega.{arith}
use native.Mathlib.Decide.{ℕ_discrete}
use mathlib.Core.Path.{◌≡◌, refl, sym, ap, ap₂, ◌∙◌}
use mathlib.Core.Bool.{Bool, true, false, not, ◌&&◌, ◌||◌, and_comm}
use mathlib.Core.List.{List}
use lib.Dec.{eqb}
use lib.ListN.{length, get_or, set, length-set}
use lib.Seq.{get_or-set_same, get_or-set_other}
use lib.Bits.{or_lt, and_lt}
use lib.Pow.{pow-lt}
use borrow.Author.Tests.{eq-eqb, ne_eqb}
use Rattle.vertex_set.specs.Alternatives.{provided, ◌or_else◌}
use Rattle.vertex_set.specs.Sets.{mem, single, others}
use Rattle.vertex_set.proofs.Booleans.{eqb_comm}
use Rattle.vertex_set.proofs.Membership.{mem_minus}
use Rattle.vertex_set.proofs.Collections.{mem_insert, mem_single, collect_lt}
use Rattle.bit_matrix.specs.Matrices.{table_of}
use Rattle.bit_matrix.proofs.Matrices.{table_length, row_lt, table_at, table_is}
use Rattle.commands.specs.Tables.{put_vertex, put_partner, put_edge}

-- ---- a row

single_lt : (q : ℕ) → single q < 2 ^ 64
unfolding single
single_lt q = collect_lt (λ p. eqb p q) 64

put_lt : (b : Bool) (q s : ℕ) → q < 64 → s < 2 ^ 64 → put_vertex b q s < 2 ^ 64
put_lt true q s l h = or_lt 64 s (2 ^ q) h (pow-lt l)
put_lt false q s l h = and_lt 64 s (others q) h (omega (arith, single_lt q))

mem_put : (b : Bool) (q s p : ℕ) → p < 64 → s < 2 ^ 64 → mem p (put_vertex b q s) ≡ (provided (eqb q p) b or_else mem p s)
mem_put true q s p l h = mem_insert p q s ∙ rw (eqb_comm p q) (put (eqb q p) (mem p s))
  where
    put : (x y : Bool) → (y || x) ≡ (provided x true or_else y)
    put true true = refl
    put true false = refl
    put false true = refl
    put false false = refl
mem_put false q s p l h = mem_minus 64 p s (single q) h (single_lt q) ∙ rw (mem_single q p l, eqb_comm p q) (put (eqb q p) (mem p s))
  where
    put : (x y : Bool) → (y && not x) ≡ (provided x false or_else y)
    put true true = refl
    put true false = refl
    put false true = refl
    put false false = refl

-- ---- a table

module _ (b : Bool) (rows : List ℕ) (x y : ℕ) (room : x < length rows) (low : y < 64) where
  abbrev row : ℕ
  row = put_vertex b y (get_or rows x 0)

  partner_lt : ((p : ℕ) → p < 64 → get_or rows p 0 < 2 ^ 64) → (p : ℕ) → p < 64 → get_or (put_partner b rows x y) p 0 < 2 ^ 64
  partner_lt fits p l = go (ℕ_discrete p x)
    where
      go : Dec (p ≡ x) → get_or (put_partner b rows x y) p 0 < 2 ^ 64
      go (yes e) = rw (e, get_or-set_same rows x row 0 room) (put_lt b y (get_or rows x 0) low (rw e at (fits p l)))
      go (no e) = rw (get_or-set_other rows x p row 0 e) (fits p l)

  mem_partner : (p q : ℕ) → q < 64 → get_or rows p 0 < 2 ^ 64
      → mem q (get_or (put_partner b rows x y) p 0) ≡ (provided (eqb x p && eqb y q) b or_else mem q (get_or rows p 0))
  mem_partner p q l fits = go (ℕ_discrete p x)
    where
      go : Dec (p ≡ x) → mem q (get_or (put_partner b rows x y) p 0) ≡ (provided (eqb x p && eqb y q) b or_else mem q (get_or rows p 0))
      go (yes e) =
          rw (e, get_or-set_same rows x row 0 room, eq-eqb x x refl) (mem_put b y (get_or rows x 0) q l (rw e at fits))
      go (no e) = rw (get_or-set_other rows x p row 0 e, ne_eqb x p (λ z. e (sym z)))

-- as the code stores it
pub stored_is : (b : Bool) (rows : List ℕ) (p q x y : ℕ) → x ≡ put_vertex b q (get_or rows p 0) → y ≡ put_vertex b p (get_or (set rows p x) q 0)
    → set (set rows p x) q y ≡ put_edge b rows p q
unfolding put_edge
stored_is b rows p q x y e f = ap₂ (λ (u v : ℕ). set (set rows p u) q v) e (f ∙ ap (λ (u : ℕ). put_vertex b p (get_or (set rows p u) q 0)) e)

module _ (b : Bool) (f : ℕ → ℕ → Bool) (x y : ℕ) (lx : x < 64) (ly : y < 64) where
  abbrev once : List ℕ
  once = put_partner b (table_of f) x y

  room : x < length (table_of f)
  room = omega (arith, table_length f)

  long : length once ≡ 64
  long = length-set (table_of f) x (put_vertex b y (get_or (table_of f) x 0)) ∙ table_length f

  once_lt : (p : ℕ) → p < 64 → get_or once p 0 < 2 ^ 64
  once_lt = partner_lt b (table_of f) x y room ly (row_lt f)

  again : y < length once
  again = omega (arith, long)

  -- the table of what is said of x and y now, and of all others as before
  pub put_table : put_edge b (table_of f) x y ≡ table_of (λ p q. provided (eqb x p && eqb y q || eqb x q && eqb y p) b or_else f p q)
  unfolding put_edge
  put_table =
      table_is (λ p q. provided (eqb x p && eqb y q || eqb x q && eqb y p) b or_else f p q) (put_partner b once y x)
      (length-set once y (put_vertex b x (get_or once y 0)) ∙ long)
      (partner_lt b once y x again lx once_lt)
      (λ p q l k.
      mem_partner b once y x again lx p q k (once_lt p l)
      ∙ rw (mem_partner b (table_of f) x y room ly p q k (row_lt f p l), table_at f p q l k)
      (rw (and_comm (eqb y p) (eqb x q)) (both (eqb x p && eqb y q) (eqb x q && eqb y p) (f p q))))
    where
      both : (u v w : Bool) → (provided v b or_else (provided u b or_else w)) ≡ (provided (u || v) b or_else w)
      both true true w = refl
      both true false w = refl
      both false true w = refl
      both false false w = refl
