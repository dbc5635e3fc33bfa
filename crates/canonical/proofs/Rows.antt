-- The edges of a graph row by row and its masks, how many they are, and the bytes that they take. Assumes nothing.
use Prim.Native.Nat.{ℕ, suc, ◌+◌, ◌-◌, ◌*◌, ◌^◌, ◌≤◌, ◌<◌}
use native.Mathlib.Omega.{arith}
use mathlib.Core.Path.{◌≡◌, refl, sym, ap, ap₂, ◌∙◌}
use mathlib.Core.Bool.{Bool, true, false, ◌&&◌, ◌||◌}
use mathlib.Core.List.{List, [], ◌∷◌, ◌++◌, append_assoc}
use lib.Dec.{ltb}
use lib.ListN.{length, get_or, length-append}
use borrow.Author.Tests.{lt-ltb, le-ltb}
use Rattle.vertex_set.specs.Lists.{All}
use Rattle.vertex_set.specs.Ranges.{gather}
use Rattle.vertex_set.specs.Members.{TakesLowest}
use Rattle.vertex_set.specs.Sets.{mem, size, over_members}
use Rattle.vertex_set.proofs.Booleans.{clash, fails_left, fails_right}
use Rattle.vertex_set.proofs.Ranges.{gather_more, gather_end}
use Rattle.vertex_set.proofs.Sums.{sum_cong, sum_past, length_sum}
use Rattle.vertex_set.proofs.Membership.{mem_past, mem_none}
use Rattle.vertex_set.proofs.Gathering.{gather_part, gather_cong, over_none, over_lowest, length_over}
use Rattle.vertex_set.proofs.SizeBounds.{size_empty}
use Rattle.signed_graph.specs.declared.SignedGraph.{SignedGraph}
use Rattle.signed_graph.specs.declared.Partners.{Partners}
use Rattle.signed_graph.specs.Tables.{positives, negatives, members_above}
use Rattle.signed_graph.specs.Graphs.{positive_edge, negative_edge, edge, edge_count}
use Rattle.signed_graph.specs.Soundness.{sound}
use Rattle.signed_graph.proofs.Soundness.{Sound, to_sound, high_row}
use Rattle.signed_graph.proofs.EdgeCounts.{mem_above, above, lower_all}
use Rattle.commands.specs.Entries.{Entry, link, mask, command_byte, bytes_of, entry_bytes}
use Rattle.canonical.specs.Canonical.{edge_by, edge_between, edges_above, ordered_edges, masks_of, ordered_masks, ordered_entries, canonical}
use Rattle.canonical.specs.EdgeRows.{sign_by, edges_to}
use Rattle.canonical.proofs.Canonical.{edges_three, masks_two}

-- ---- bytes

bytes_append : (es fs : List Entry) → entry_bytes (es ++ fs) ≡ entry_bytes es ++ entry_bytes fs
unfolding entry_bytes
bytes_append [] fs = refl
bytes_append (e ∷ es) fs =
    ap (λ (x : List ℕ). bytes_of e ++ x) (bytes_append es fs) ∙ sym (append_assoc (bytes_of e) (entry_bytes es) (entry_bytes fs))

-- entries of k bytes each
length_bytes : (k : ℕ) (es : List Entry) → All (λ e. length (bytes_of e) ≡ k) es → length (entry_bytes es) ≡ k * length es
unfolding entry_bytes
length_bytes k [] h = omega arith
length_bytes k (e ∷ es) h = omega (arith, length-append (bytes_of e) (entry_bytes es), h.0, length_bytes k es h.1)

module _ (g : SignedGraph) where
  -- behind the opening come the edges, then the masks, then the close
  pub bytes_parts : entry_bytes (ordered_entries g) ++ 0xff ∷ [] ≡ entry_bytes (ordered_edges g) ++ (entry_bytes (ordered_masks g) ++ 0xff ∷ [])
  bytes_parts =
      ap (λ (x : List ℕ). x ++ 0xff ∷ []) (bytes_append (ordered_edges g) (ordered_masks g))
      ∙ append_assoc (entry_bytes (ordered_edges g)) (entry_bytes (ordered_masks g)) (0xff ∷ [])

  pub length_form : length (canonical g) ≡ 3 + 3 * length (ordered_edges g) + 2 * size g.masked
  unfolding masks_of
  length_form =
      omega (
        arith,
        ap length bytes_parts,
        length-append (entry_bytes (ordered_edges g)) (entry_bytes (ordered_masks g) ++ 0xff ∷ []),
        length-append (entry_bytes (ordered_masks g)) (0xff ∷ []),
        length_bytes 3 (ordered_edges g) (edges_three g),
        length_bytes 2 (ordered_masks g) (masks_two g.masked),
        length_over mask g.masked,
      )

-- ---- the edges from p to the members of a set, from its lowest member up

module _ (positive p : ℕ) where
  abbrev to : ℕ → List Entry
  to q = link (sign_by (mem q positive)) p q ∷ []

  pub bytes_none : (s : ℕ) → s ≡ 0 → entry_bytes (edges_to positive s p) ≡ []
  unfolding entry_bytes edges_to
  bytes_none s e = ap (λ (x : ℕ). entry_bytes (edges_to positive x p)) e ∙ ap entry_bytes (over_none to)

  pub bytes_lowest : {s q left command : ℕ} → s < 2 ^ 64 → TakesLowest s q left → command ≡ command_byte (sign_by (mem q positive))
      → entry_bytes (edges_to positive s p) ≡ (command ∷ p ∷ q ∷ []) ++ entry_bytes (edges_to positive left p)
  unfolding entry_bytes edges_to
  bytes_lowest {s} {q} {left} {command} h t is =
      ap entry_bytes (over_lowest to s t.some h ∙ ap₂ (λ (x r : ℕ). to x ++ edges_to positive r p) (sym t.is_lowest) (sym t.is_rest))
      ∙ ap (λ (x : ℕ). x ∷ p ∷ q ∷ entry_bytes (edges_to positive left p)) (sym is)

-- ---- the masks of a set, from its lowest member up

pub masks_none : (s : ℕ) → s ≡ 0 → entry_bytes (masks_of s) ≡ []
unfolding entry_bytes masks_of
masks_none s e = ap (λ (x : ℕ). entry_bytes (masks_of x)) e ∙ ap entry_bytes (over_none (λ p. mask p ∷ []))

pub masks_lowest : {s p left : ℕ} → s < 2 ^ 64 → TakesLowest s p left
    → entry_bytes (masks_of s) ≡ (0x23 ∷ p ∷ []) ++ entry_bytes (masks_of left)
unfolding entry_bytes masks_of
masks_lowest {s} {p} {left} h t =
    ap entry_bytes (over_lowest (λ p. mask p ∷ []) s t.some h ∙ ap₂ (λ (x r : ℕ). mask x ∷ masks_of r) (sym t.is_lowest) (sym t.is_rest))

-- ---- a row of a sound graph

-- the edge from p to q, by whether q is one of them
abbrev entry : SignedGraph → ℕ → ℕ → Bool → List Entry
entry g p q b = elim b [ true ↦ link (sign_by (positive_edge g p q)) p q ∷ [] | false ↦ [] ]

module _ (g : SignedGraph) (s : Sound g) (p : ℕ) (h : p < g.n) where
  edges_above_law : edges_to (get_or g.positive p 0) (above g p) p ≡ edges_above g p
  unfolding edges_to over_members
  edges_above_law =
      gather_part row 64 (suc p) g.n h s.small (λ q b. ap (entry g p q) (low q b)) (λ q a b. ap (entry g p q) (high q a b))
      ∙ gather_cong row (edge_between g p) (g.n - suc p) (suc p)
      (λ q a b. ap (entry g p q) (between q a (omega (arith, s.small))) ∙ same q (positive_edge g p q) (negative_edge g p q))
    where
      row : ℕ → List Entry
      row q = entry g p q (mem q (above g p))

      member : (q : ℕ) → q < 64 → mem q (above g p) ≡ (ltb p q && edge g p q)
      member q l = mem_above (get_or g.positive p 0) (get_or g.negative p 0) p q l

      low : (q : ℕ) → q < suc p → mem q (above g p) ≡ false
      low q b = member q (omega (arith, s.small)) ∙ fails_left (ltb p q) (edge g p q) (le-ltb p q (omega arith))

      high : (q : ℕ) → g.n ≤ q → q < 64 → mem q (above g p) ≡ false
      high q a b =
          member q b
          ∙ fails_right (ltb p q) (edge g p q)
          (ap₂ (λ (x y : Bool). x || y) (mem_past g.n q (get_or g.positive p 0) (s.positives.low p) a)
          (mem_past g.n q (get_or g.negative p 0) (s.negatives.low p) a))

      between : (q : ℕ) → p < q → q < 64 → mem q (above g p) ≡ edge g p q
      between q a b = member q b ∙ ap (λ (x : Bool). x && edge g p q) (lt-ltb p q a)

      same : (q : ℕ) (a b : Bool) → elim (a || b) [ true ↦ link (sign_by a) p q ∷ [] | false ↦ [] ] ≡ edge_by a b p q
      same q true b = refl
      same q false true = refl
      same q false false = refl

  length_above : length (edges_above g p) ≡ size (above g p)
  unfolding edges_to
  length_above = ap length (sym edges_above_law) ∙ length_over (λ q. link (sign_by (positive_edge g p q)) p q) (above g p)

-- ---- the rows from p on

-- the edges whose lower vertex is p or higher
abbrev pub edges_from : SignedGraph → ℕ → List Entry
edges_from g p = gather (g.n - p) p (edges_above g)

pub from_start : (g : SignedGraph) → ordered_edges g ≡ edges_from g 0
unfolding ordered_edges
from_start g =
    let e : g.n ≡ g.n - 0 = omega arith in
    ap (λ (d : ℕ). gather d 0 (edges_above g)) e

-- `of` has the partners of p, and x those of them above p
pub bytes_row : (g : SignedGraph) → Sound g → (p : ℕ) → p < g.n → {of : Partners} {x : ℕ}
    → of ≡ record { positive = positives g p; negative = negatives g p } → x ≡ members_above of.positive of.negative p
    → entry_bytes (edges_from g p) ≡ entry_bytes (edges_to of.positive x p) ++ entry_bytes (edges_from g (p + 1))
bytes_row g s p h {of} {x} o is =
    let same : x ≡ above g p = is ∙ ap (λ (y : Partners). members_above y.positive y.negative p) o in
    ap entry_bytes (gather_more (edges_above g) g.n p h) ∙ bytes_append (edges_above g p) (edges_from g (p + 1))
    ∙ ap (λ (es : List Entry). entry_bytes es ++ entry_bytes (edges_from g (p + 1)))
    (sym (edges_above_law g s p h) ∙ ap₂ (λ (a y : ℕ). edges_to a y p) (sym (ap (λ (y : Partners). y.positive) o)) (sym same))

pub bytes_end : (g : SignedGraph) (p : ℕ) → g.n ≤ p → entry_bytes (edges_from g p) ≡ []
unfolding entry_bytes
bytes_end g p h = ap entry_bytes (gather_end (edges_above g) g.n p h)

-- ---- how many there are

module _ (g : SignedGraph) (s : Sound g) where
  none_high : (p : ℕ) → g.n ≤ p → size (above g p) ≡ 0
  none_high p h =
      size_empty (above g p) (λ q l m.
      clash (mem q (above g p)) m
      (mem_above (get_or g.positive p 0) (get_or g.negative p 0) p q l
      ∙ fails_right (ltb p q) (edge g p q)
      (ap₂ (λ (x y : Bool). x || y) (ap (mem q) (high_row s.positives p h) ∙ mem_none q)
      (ap (mem q) (high_row s.negatives p h) ∙ mem_none q))))

  -- the canonical form has each edge once
  pub edges_listed : length (ordered_edges g) ≡ edge_count g
  unfolding ordered_edges
  edges_listed =
      length_sum (edges_above g) g.n
      ∙ sum_cong (λ p. length (edges_above g p)) (λ p. size (above g p)) g.n (length_above g s)
      ∙ sym (sum_past (λ p. size (above g p)) g.n none_high 64 s.small) ∙ lower_all g

  pub length_canonical : length (canonical g) ≡ 3 + 3 * edge_count g + 2 * size g.masked
  length_canonical = omega (arith, length_form g, edges_listed)

-- of a graph that passes the test of soundness
pub length_sound : (g : SignedGraph) → sound g ≡ true → length (canonical g) ≡ 3 + 3 * edge_count g + 2 * size g.masked
length_sound g e = length_canonical g (to_sound g e)
