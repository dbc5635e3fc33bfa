-- The canonical form: it is in order, it has exactly the edges and the masked vertices of its graph, and there is no other.
-- Assumes nothing.
use Prim.Native.Nat.{ℕ, suc, ◌-◌, ◌≤◌, ◌<◌}
use native.Mathlib.Omega.{arith}
use native.Mathlib.Decide.{dec_lt}
use mathlib.Core.Path.{◌≡◌, refl, sym, ap, ap₂, ◌∙◌, subst}
use mathlib.Core.Bool.{Bool, true, false, ◌&&◌, ◌||◌, or-false}
use mathlib.Core.List.Memᴰ
use mathlib.Core.List.{List, [], ◌∷◌, Memᴰ}
use lib.Dec.{ltb, eqb}
use lib.ListN.{length}
use borrow.Author.Tests.{ltb-true, lt-ltb, le-ltb, eqb-true, eq-eqb, ne_eqb}
use Rattle.vertex_set.specs.Lists.{All, any, Sorted}
use Rattle.vertex_set.specs.Ranges.{gather}
use Rattle.vertex_set.specs.Sets.{mem}
use Rattle.vertex_set.proofs.Booleans.{clash, refute, iff, and_intro, and_left, and_right, or_left, or_right, or_cases}
use Rattle.vertex_set.proofs.Lists.{all_append, all_mem, mem_all, sorted_append, sorted_unique, any_append, any_mem, mem_any}
use Rattle.vertex_set.proofs.Membership.{mem_lt}
use Rattle.vertex_set.proofs.Gathering.{gather_mem, mem_gather, gather_sorted, over_mem, mem_over, over_sorted}
use Rattle.signed_graph.specs.declared.SignedGraph.{SignedGraph}
use Rattle.signed_graph.specs.Graphs.{positive_edge, negative_edge}
use Rattle.signed_graph.proofs.Soundness.{Sound, partner_below}
use Rattle.commands.specs.declared.Sign.{Sign}
use Rattle.commands.specs.declared.Sign.TheVariants.{Positive, Negative}
use Rattle.commands.specs.Entries.{Entry, link, mask, same_sign, joins, joins_as, masks, given_as, masked, proper, graph_of_entries, bytes_of, list_of}
use Rattle.canonical.specs.Canonical.{lower_first, before, Ordered, CanonicalForm, edge_by, edge_between, edges_above, ordered_edges, masks_of, ordered_entries}
use Rattle.commands.proofs.Entries.{joins_cases, as_comm, sign_self, Allowed, repeats, proper_cons}
use Rattle.commands.proofs.Graphs.{edge_as, graph_is}

-- ---- the order of entries

before_means : (s t : Sign) (a b c d : ℕ) → before (link s a b) (link t c d) ≡ true → (a ≤ c) × (a ≡ c → b < d)
before_means s t a b c d e =
    or_cases ((a ≤ c) × (a ≡ c → b < d)) (ltb a c) (eqb a c && ltb b d) e
    (λ l. let m : a < c = ltb-true a c l in (omega arith, λ q. omega arith))
    (λ l. let q : a ≡ c = eqb-true a c (and_left (eqb a c) (ltb b d) l) in
    (omega arith, λ _. ltb-true b d (and_right (eqb a c) (ltb b d) l)))

before_asymmetric : (e f : Entry) → before e f ≡ true → before f e ≡ false
before_asymmetric (link s a b) (mask c) h = refl
before_asymmetric (mask a) (link t c d) h = clash false h refl
before_asymmetric (mask a) (mask c) h = let l : a < c = ltb-true a c h in le-ltb c a (omega arith)
before_asymmetric (link s a b) (link t c d) h =
    refute (before (link t c d) (link s a b)) (λ k.
    let u = before_means s t a b c d h in
    let v = before_means t s c d a b k in
    let same : a ≡ c = omega (arith, u.0, v.0) in
    omega (arith, u.1 same, v.1 (sym same)))

-- ---- the edges of a graph are in order

module _ (g : SignedGraph) where
  -- the edge between p and q, if there is one
  between_mem : (e : Entry) (p q : ℕ) → Memᴰ e (edge_between g p q) → (s : Sign) × (e ≡ link s p q) × (edge_as s g p q ≡ true)
  between_mem e p q m = go (positive_edge g p q) (negative_edge g p q) refl refl m
    where
      go : (x y : Bool) → positive_edge g p q ≡ x → negative_edge g p q ≡ y → Memᴰ e (edge_by x y p q)
          → (s : Sign) × (e ≡ link s p q) × (edge_as s g p q ≡ true)
      go true y u v k = (Positive, Memᴰ.eq_of_singleton k, u)
      go false true u v k = (Negative, Memᴰ.eq_of_singleton k, v)
      go false false u v k = absurd (Memᴰ.not-nil k)

  between_sorted : (p q : ℕ) → Sorted before (edge_between g p q)
  between_sorted p q = go (positive_edge g p q) (negative_edge g p q)
    where
      go : (x y : Bool) → Sorted before (edge_by x y p q)
      go true y = (tt, tt)
      go false true = (tt, tt)
      go false false = tt

  -- an edge above p
  record Above (e : Entry) (p : ℕ) : Type 0 where
    pub sign : Sign
    pub higher : ℕ
    pub above : p < higher
    pub below : higher < g.n
    pub is : e ≡ link sign p higher
    pub had : edge_as sign g p higher ≡ true

  above_mem : (e : Entry) (p : ℕ) → Memᴰ e (edges_above g p) → Above e p
  above_mem e p m =
      let r = gather_mem (edge_between g p) e (g.n - suc p) (suc p) m in
      let b = between_mem e p r.0 r.3 in
      record { sign = b.0; higher = r.0; above = r.1; below = omega (arith, r.2); is = b.1; had = b.2 }

  above_sorted : (p : ℕ) → Sorted before (edges_above g p)
  above_sorted p =
      gather_sorted (edge_between g p) before (g.n - suc p) (suc p) (between_sorted p) (λ j k a b x y m n.
      let u = between_mem x p j m in
      let v = between_mem y p k n in
      ap₂ before u.1 v.1
      ∙ or_right (ltb p p) (eqb p p && ltb j k) (and_intro (eqb p p) (ltb j k) (eq-eqb p p refl) (lt-ltb j k b)))

  edges_mem : (e : Entry) → Memᴰ e (ordered_edges g) → (p : ℕ) × Above e p
  unfolding ordered_edges
  edges_mem e m =
      let r = gather_mem (edges_above g) e g.n 0 m in
      (r.0, above_mem e r.0 r.3)

  -- each takes three bytes
  pub edges_three : All (λ e. length (bytes_of e) ≡ 3) (ordered_edges g)
  edges_three = mem_all (λ e. length (bytes_of e) ≡ 3) (ordered_edges g) (λ e m. ap (λ (x : Entry). length (bytes_of x)) (edges_mem e m).1.is)

  edges_ordered : Ordered (ordered_edges g)
  unfolding ordered_edges
  edges_ordered =
      record {
        lower = mem_all (λ e. lower_first e ≡ true) (gather g.n 0 (edges_above g)) (λ e m.
            let r = edges_mem e m in
            ap lower_first r.1.is ∙ lt-ltb r.0 r.1.higher r.1.above);
        ascending = gather_sorted (edges_above g) before g.n 0 above_sorted (λ j k a b x y m n.
            ap₂ before (above_mem x j m).is (above_mem y k n).is
            ∙ or_left (ltb j k) (eqb j k && ltb (above_mem x j m).higher (above_mem y k n).higher) (lt-ltb j k b));
      }

-- ---- the masks of a set are in order, behind the edges

masks_mem : (s : ℕ) (e : Entry) → Memᴰ e (masks_of s) → (p : ℕ) × (mem p s ≡ true) × (e ≡ mask p)
unfolding masks_of
masks_mem s e m = let r = over_mem (λ p. mask p ∷ []) s e m in (r.0, r.1, Memᴰ.eq_of_singleton r.2)

-- each takes two bytes
pub masks_two : (s : ℕ) → All (λ e. length (bytes_of e) ≡ 2) (masks_of s)
masks_two s = mem_all (λ e. length (bytes_of e) ≡ 2) (masks_of s) (λ e m. ap (λ (x : Entry). length (bytes_of x)) (masks_mem s e m).2)

masks_sorted : (s : ℕ) → Sorted before (masks_of s)
unfolding masks_of
masks_sorted s =
    over_sorted (λ p. mask p ∷ []) s before (λ p. (tt, tt)) (λ j k l x y m n.
    ap₂ before (Memᴰ.eq_of_singleton m) (Memᴰ.eq_of_singleton n) ∙ lt-ltb j k l)

pub entries_ordered : (g : SignedGraph) → Ordered (ordered_entries g)
entries_ordered g =
    record {
      lower = all_append (λ e. lower_first e ≡ true) (ordered_edges g) (masks_of g.masked) (edges_ordered g).lower
          (mem_all (λ e. lower_first e ≡ true) (masks_of g.masked) (λ e m. ap lower_first (masks_mem g.masked e m).2));
      ascending = sorted_append before (ordered_edges g) (masks_of g.masked) (edges_ordered g).ascending (masks_sorted g.masked)
          (mem_all (λ e. All (λ f. before e f ≡ true) (masks_of g.masked)) (ordered_edges g) (λ e m.
          mem_all (λ f. before e f ≡ true) (masks_of g.masked) (λ f k.
          ap₂ before (edges_mem g e m).1.is (masks_mem g.masked f k).2)));
    }

-- ---- they are the graph's edges and its masked vertices

sign_same : (s t : Sign) → same_sign s t ≡ true → s ≡ t
sign_same Positive Positive e = refl
sign_same Positive Negative e = clash false e refl
sign_same Negative Positive e = clash false e refl
sign_same Negative Negative e = refl

-- an edge joins its own vertices
joins_own : (s : Sign) (a b : ℕ) → joins_as s a b (link s a b) ≡ true
joins_own s a b =
    and_intro (same_sign s s) (joins a b (link s a b)) (sign_self s)
    (or_left (eqb a a && eqb b b) (eqb a b && eqb b a) (and_intro (eqb a a) (eqb b b) (eq-eqb a a refl) (eq-eqb b b refl)))

module _ (g : SignedGraph) (h : Sound g) where
  edge_comm : (s : Sign) (p q : ℕ) → edge_as s g p q ≡ edge_as s g q p
  edge_comm Positive p q = h.positives.symmetric p q
  edge_comm Negative p q = h.negatives.symmetric p q

  edge_below : (s : Sign) (p q : ℕ) → edge_as s g p q ≡ true → (p < g.n) × (q < g.n)
  edge_below Positive p q = partner_below h.positives p q
  edge_below Negative p q = partner_below h.negatives p q

  edge_self : (s : Sign) (p : ℕ) → edge_as s g p p ≡ false
  edge_self Positive p = h.positives.loopless p
  edge_self Negative p = h.negatives.loopless p

  between_has : (s : Sign) (p q : ℕ) → edge_as s g p q ≡ true → Memᴰ (link s p q) (edge_between g p q)
  between_has Positive p q e = rw e (Memᴰ.head refl)
  between_has Negative p q e = rw (other, e) (Memᴰ.head refl)
    where
      other : positive_edge g p q ≡ false
      other = refute (positive_edge g p q) (λ t. clash (negative_edge g p q) e (h.apart p q t))

  had_given : (s : Sign) (p q : ℕ) → p < q → edge_as s g p q ≡ true → given_as s (ordered_edges g) p q ≡ true
  unfolding ordered_edges
  had_given s p q l e =
      mem_any (joins_as s p q) (link s p q) (gather g.n 0 (edges_above g))
      (mem_gather (edges_above g) (link s p q) g.n 0 p (omega arith) (omega (arith, (edge_below s p q e).0))
      (mem_gather (edge_between g p) (link s p q) (g.n - suc p) (suc p) q l (omega (arith, (edge_below s p q e).1)) (between_has s p q e)))
      (joins_own s p q)

  given_had : (s : Sign) (p q : ℕ) → given_as s (ordered_edges g) p q ≡ true → edge_as s g p q ≡ true
  given_had s p q e =
      let r = any_mem (joins_as s p q) (ordered_edges g) e in
      let a = edges_mem g r.0 r.1 in
      let t : joins_as s p q (link a.1.sign a.0 a.1.higher) ≡ true = ap (joins_as s p q) (sym a.1.is) ∙ r.2 in
      go a.1.sign a.0 a.1.higher a.1.had
      (and_left (same_sign s a.1.sign) (joins p q (link a.1.sign a.0 a.1.higher)) t)
      (and_right (same_sign s a.1.sign) (joins p q (link a.1.sign a.0 a.1.higher)) t)
    where
      go : (t : Sign) (a b : ℕ) → edge_as t g a b ≡ true → same_sign s t ≡ true → joins p q (link t a b) ≡ true → edge_as s g p q ≡ true
      go t a b had same j =
          ap (λ (x : Sign). edge_as x g p q) (sign_same s t same)
          ∙ joins_cases (edge_as t g p q ≡ true) p q t a b j
          (λ x y. ap₂ (edge_as t g) (sym x) (sym y) ∙ had)
          (λ x y. edge_comm t p q ∙ ap₂ (edge_as t g) (sym x) (sym y) ∙ had)

  edges_given : (s : Sign) (p q : ℕ) → given_as s (ordered_edges g) p q ≡ edge_as s g p q
  edges_given s p q = iff (given_as s (ordered_edges g) p q) (edge_as s g p q) (given_had s p q) (λ e. has e (dec_lt p q) (dec_lt q p))
    where
      has : edge_as s g p q ≡ true → Dec (p < q) → Dec (q < p) → given_as s (ordered_edges g) p q ≡ true
      has e (yes x) y = had_given s p q x e
      has e (no x) (yes y) = as_comm s (ordered_edges g) p q ∙ had_given s q p y (edge_comm s q p ∙ e)
      has e (no x) (no y) =
          let same : q ≡ p = omega arith in clash (edge_as s g p p) (ap (edge_as s g p) (sym same) ∙ e) (edge_self s p)

  -- masks join nothing
  pub entries_given : (s : Sign) (p q : ℕ) → given_as s (ordered_entries g) p q ≡ edge_as s g p q
  entries_given s p q =
      any_append (joins_as s p q) (ordered_edges g) (masks_of g.masked) ∙ ap₂ ◌||◌ (edges_given s p q) none ∙ or-false (edge_as s g p q)
    where
      none : given_as s (masks_of g.masked) p q ≡ false
      none =
          refute (given_as s (masks_of g.masked) p q) (λ t.
          let r = any_mem (joins_as s p q) (masks_of g.masked) t in
          clash (joins_as s p q r.0) r.2 (ap (joins_as s p q) (masks_mem g.masked r.0 r.1).2))

  -- edges mask nothing
  pub entries_masked : (p : ℕ) → masked (ordered_entries g) p ≡ mem p g.masked
  unfolding masks_of
  entries_masked p = any_append (masks p) (ordered_edges g) (masks_of g.masked) ∙ ap₂ ◌||◌ none (iff _ _ had has)
    where
      none : masked (ordered_edges g) p ≡ false
      none =
          refute (masked (ordered_edges g) p) (λ t.
          let r = any_mem (masks p) (ordered_edges g) t in
          clash (masks p r.0) r.2 (ap (masks p) (edges_mem g r.0 r.1).1.is))

      had : masked (masks_of g.masked) p ≡ true → mem p g.masked ≡ true
      had t =
          let r = any_mem (masks p) (masks_of g.masked) t in
          let k = masks_mem g.masked r.0 r.1 in
          let same : k.0 ≡ p = eqb-true k.0 p (ap (masks p) (sym k.2) ∙ r.2) in
          ap (λ (q : ℕ). mem q g.masked) (sym same) ∙ k.1

      has : mem p g.masked ≡ true → masked (masks_of g.masked) p ≡ true
      has m =
          mem_any (masks p) (mask p) (masks_of g.masked)
          (mem_over (λ p. mask p ∷ []) g.masked (mask p) p (omega (arith, mem_lt g.n p g.masked h.masks m, h.small)) m (Memᴰ.head refl))
          (eq-eqb p p refl)

  pub entries_graph : graph_of_entries g.n (ordered_entries g) ≡ g
  entries_graph =
      graph_is g (λ s. given_as s (ordered_entries g)) (masked (ordered_entries g)) h (λ s p q. sym (entries_given s p q))
      (λ p. sym (entries_masked p))

-- ---- an ordered list below n is proper

abbrev Below : ℕ → Entry → Type 0
Below n (link s a b) = b < n
Below n (mask a) = a < n

allowed_of : (n : ℕ) (e : Entry) → lower_first e ≡ true → Below n e → Allowed n e
allowed_of n (link s a b) l k = let up : a < b = ltb-true a b l in (omega arith, k, λ e. omega arith)
allowed_of n (mask a) l k = k

-- an entry does not say what one before it says
before_new : (e f : Entry) → lower_first e ≡ true → lower_first f ≡ true → before e f ≡ true → repeats e f ≡ false
before_new (link s a b) (link t c d) u v h =
    refute (joins a b (link t c d)) (λ j.
    let after = before_means s t a b c d h in
    joins_cases ⊥ a b t c d j (λ x y. omega (arith, after.1 (sym x))) (λ x y. omega (arith, ltb-true a b u, ltb-true c d v)))
before_new (link s a b) (mask c) u v h = refl
before_new (mask a) (link t c d) u v h = refl
before_new (mask a) (mask c) u v h = ne_eqb c a (λ x. omega (arith, ltb-true a c h))

ordered_proper : (n : ℕ) (es : List Entry) → All (λ e. lower_first e ≡ true) es → Sorted before es → All (Below n) es → proper n es ≡ true
unfolding proper
ordered_proper n [] l s b = refl
ordered_proper n (e ∷ es) l o k =
    proper_cons n e es (record { allowed = allowed_of n e l.0 k.0; new = new }) (ordered_proper n es l.1 o.1 k.1)
  where
    new : any (repeats e) es ≡ false
    new =
        refute (any (repeats e) es) (λ t.
        let r = any_mem (repeats e) es t in
        clash (repeats e r.0) r.2
        (before_new e r.0 l.0 (all_mem (λ e. lower_first e ≡ true) r.0 es l.1 r.1)
        (all_mem (λ f. before e f ≡ true) r.0 es o.0 r.1)))

pub entries_proper : (g : SignedGraph) → Sound g → proper g.n (ordered_entries g) ≡ true
entries_proper g h =
    ordered_proper g.n (ordered_entries g) (entries_ordered g).lower (entries_ordered g).ascending
    (all_append (Below g.n) (ordered_edges g) (masks_of g.masked)
    (mem_all (Below g.n) (ordered_edges g) (λ e m. let r = edges_mem g e m in subst (Below g.n) (sym r.1.is) r.1.below))
    (mem_all (Below g.n) (masks_of g.masked) (λ e m.
    let r = masks_mem g.masked e m in
    subst (Below g.n) (sym r.2) (mem_lt g.n r.0 g.masked h.masks r.1))))

-- ---- there is one ordered list of given edges and masks

mem_given : (s : Sign) (a b : ℕ) (es : List Entry) → Memᴰ (link s a b) es → given_as s es a b ≡ true
mem_given s a b es m = mem_any (joins_as s a b) (link s a b) es m (joins_own s a b)

given_mem : (s : Sign) (a b : ℕ) (es : List Entry) → All (λ e. lower_first e ≡ true) es → a < b → given_as s es a b ≡ true
    → Memᴰ (link s a b) es
given_mem s a b es l h e = let r = any_mem (joins_as s a b) es e in go r.0 r.1 r.2
  where
    go : (e : Entry) → Memᴰ e es → joins_as s a b e ≡ true → Memᴰ (link s a b) es
    go (mask c) m j = clash false j refl
    go (link t c d) m j =
        let up : c < d = ltb-true c d (all_mem (λ e. lower_first e ≡ true) (link t c d) es l m) in
        let same : s ≡ t = sign_same s t (and_left (same_sign s t) (joins a b (link t c d)) j) in
        joins_cases (Memᴰ (link s a b) es) a b t c d (and_right (same_sign s t) (joins a b (link t c d)) j)
        (λ x y. subst (λ (z : Entry). Memᴰ z es) (ap (λ (v : Sign). link v c d) (sym same) ∙ ap₂ (link s) x y) m)
        (λ x y. absurd (omega arith))

masked_mem : (a : ℕ) (es : List Entry) → masked es a ≡ true → Memᴰ (mask a) es
masked_mem a es e = let r = any_mem (masks a) es e in go r.0 r.1 r.2
  where
    go : (e : Entry) → Memᴰ e es → masks a e ≡ true → Memᴰ (mask a) es
    go (link t c d) m j = clash false j refl
    go (mask c) m j = subst (λ (x : ℕ). Memᴰ (mask x) es) (eqb-true c a j) m

ordered_unique : (es fs : List Entry) → Ordered es → Ordered fs → ((s : Sign) (p q : ℕ) → given_as s es p q ≡ given_as s fs p q)
    → ((p : ℕ) → masked es p ≡ masked fs p) → es ≡ fs
ordered_unique es fs o k same also =
    sorted_unique before before_asymmetric es fs o.ascending k.ascending
    (moves es fs o.lower k.lower same also)
    (moves fs es k.lower o.lower (λ s p q. sym (same s p q)) (λ p. sym (also p)))
  where
    moves : (xs ys : List Entry) → All (λ e. lower_first e ≡ true) xs → All (λ e. lower_first e ≡ true) ys
        → ((s : Sign) (p q : ℕ) → given_as s xs p q ≡ given_as s ys p q) → ((p : ℕ) → masked xs p ≡ masked ys p)
        → (e : Entry) → Memᴰ e xs → Memᴰ e ys
    moves xs ys u v w z (link s a b) m =
        given_mem s a b ys v (ltb-true a b (all_mem (λ e. lower_first e ≡ true) (link s a b) xs u m))
        (sym (w s a b) ∙ mem_given s a b xs m)
    moves xs ys u v w z (mask a) m = masked_mem a ys (sym (z a) ∙ mem_any (masks a) (mask a) xs m (eq-eqb a a refl))

pub one_form : (n : ℕ) (given given' : Sign → ℕ → ℕ → Bool) (hidden hidden' : ℕ → Bool) (form form' : List ℕ)
    → CanonicalForm n given hidden form → CanonicalForm n given' hidden' form' → ((s : Sign) (p q : ℕ) → given s p q ≡ given' s p q)
    → ((p : ℕ) → hidden p ≡ hidden' p) → form ≡ form'
one_form n given given' hidden hidden' form form' c d same also =
    c.spelled
    ∙ ap (list_of n) (ordered_unique c.entries d.entries c.ordered d.ordered
    (λ s p q. c.same s p q ∙ same s p q ∙ sym (d.same s p q))
    (λ p. c.same_masks p ∙ also p ∙ sym (d.same_masks p)))
    ∙ sym d.spelled
