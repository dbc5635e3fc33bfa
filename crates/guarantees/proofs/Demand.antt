-- Demand 3, for every list of page calls. Assumes nothing.
use Prim.Native.Nat.{ℕ, ◌≤◌}
use native.Mathlib.Omega.{arith}
use mathlib.Core.Path.{◌≡◌, refl, sym, ap, ap₂, ◌∙◌, subst}
use mathlib.Core.Logic.{inl, inr}
use mathlib.Core.Bool.{true, false}
use mathlib.Core.List.{List, [], ◌∷◌, ◌++◌, map, Memᴰ}
use lib.ListN.{length}
use borrow.Author.Tests.{le-leb}
use Rattle.std.specs.Prelude.{Result, Ok, Err}
use Rattle.vertex_set.specs.declared.Sides.{Sides}
use Rattle.vertex_set.specs.Lists.{Sorted}
use Rattle.vertex_set.proofs.Booleans.{clash}
use Rattle.signed_graph.specs.declared.SignedGraph.{SignedGraph}
use Rattle.signed_graph.specs.declared.Refusal.{Refusal}
use Rattle.signed_graph.specs.Soundness.{sound}
use Rattle.signed_graph.specs.Calls.{Check, passed, check_by, check_of}
use Rattle.signed_graph.proofs.Soundness.{Sound, to_sound}
use Rattle.clique.specs.Groups.{Group, groups}
use Rattle.clique.proofs.Groups.{groups_exact}
use Rattle.reduction.specs.Reductions.{reduced, reduced_left}
use Rattle.reduction.proofs.Groups.{SameGroups, reduce_keeps}
use Rattle.edge_list.proofs.Answers.{accepted_words, accepted_sound}
use Rattle.pages.specs.declared.Bookmark.{Bookmark}
use Rattle.pages.specs.declared.Bookmark.TheVariants.{Start}
use Rattle.pages.specs.declared.Page.{Page}
use Rattle.clique.specs.Listing.{Item, item_of, comes_before, listing, item_set}
use Rattle.group_pages.specs.Records.{record_width, record_of}
use Rattle.pages.specs.Pages.{due, answer, filled, page_by, bytes_by}
use Rattle.group_pages.specs.Calls.{due_groups}
use Rattle.largest.specs.Largest.{larger, largest_of, largest_or_none, largest_group_by, largest_group}
use Rattle.group_pages.proofs.Records.{record_wide}
use Rattle.pages.proofs.Pages.{Paged, paged}
use Rattle.clique.proofs.Listing.{listing_sorted, listing_exact}
use Rattle.group_pages.proofs.Distinct.{records_differ}
use Rattle.largest.proofs.LargestOf.{largest_found}
use Rattle.guarantees.specs.Demand.{Call, Ran, is_accepted, taken, call_step, OneOf, Gets, Linked, Largest, Demand3, Statement}
use Rattle.pages.proofs.PageLists.{Idle, Chain, all_pages}

-- ---- the listing of S reduced is that of S

same_items : (g r : SignedGraph) (l : List ℕ) → ((s : ℕ) → Memᴰ s l → item_of r s ≡ item_of g s)
    → map (item_of r) l ≡ map (item_of g) l
same_items g r [] h = refl
same_items g r (s ∷ l) h =
    ap₂ (λ (x : Item) (t : List Item). x ∷ t) (h s (Memᴰ.head refl)) (same_items g r l (λ t m. h t (Memᴰ.tail m)))

same_listing : (g r : SignedGraph) (k : ℕ) → Sound g → SameGroups g r k → listing r k ≡ listing g k
unfolding listing
same_listing g r k so same =
    ap (map (item_of r)) same.listed
    ∙ same_items g r (groups g k)
    (λ s m. let h : Group g k s = (groups_exact g so k s).0 m in
    ap₂ (λ (x y : ℕ). record { vertices = s; left = x; right = y }) (same.lefts s h) (same.rights s h))

-- ---- a refused call

idle : (t : Check) (c : Call) (l : List Item) → c.answer ≡ page_by item_set record_width t c.from (length c.entry) l
    → c.exit ≡ bytes_by record_of record_width t l c.entry → taken c ≡ false → Idle (call_step c)
unfolding answer
idle (Ok x) c l p q e = clash (taken c) (ap (λ (a : Page). is_accepted a.outcome) p) e
idle (Err why) c l p q e =
    record {
      counted = ap (λ (a : Page). a.count) p;
      kept = q;
      same = ap (λ (a : Page). a.next) p;
      told = ap (λ (a : Page). a.end) p;
    }

pub ran_idle : (c : Call) → Ran c → taken c ≡ false → Idle (call_step c)
ran_idle c h = idle (check_of c.graph c.k) c (due_groups c.graph c.k c.from) h.answered h.wrote

-- ---- the largest group

largest_of_law : (l : List Item) → Sorted comes_before l → (r : Result Sides Refusal) → r ≡ largest_or_none (largest_of l) → Largest l r
unfolding largest_of
largest_of_law [] h r e = record { none = (λ q. refl, λ q. e); else = λ d. absurd (d refl) }
largest_of_law (x ∷ l) h r e =
    record {
      none = (λ q. absurd (let z : ◌≡◌ {A = ℕ} 0 1 = cc in omega arith), λ q. absurd (omega arith));
      else = λ d. (larger x (largest_of l), e, largest_found (x ∷ l) h (larger x (largest_of l)) refl);
    }

module _ (S : SignedGraph) (k : ℕ) (sound_S : sound S ≡ true) (small : k ≤ 32) where
  pub so : Sound S
  so = to_sound S sound_S

  pub sorted : Sorted comes_before (listing S k)
  sorted = listing_sorted S so k

  -- ---- S and S reduced

  -- one of the two is S, or what the reduction leaves
  one_left : (P : SignedGraph → Type 0) → P S → P (reduced_left (reduced S k)) → (g : SignedGraph) → OneOf S k g → P g
  one_left P p q g (inl e) = subst P (sym e) p
  one_left P p q g (inr e) = subst P (sym e) q

  pub one_listing : (g : SignedGraph) → OneOf S k g → listing g k ≡ listing S k
  one_listing =
      one_left (λ g. listing g k ≡ listing S k) refl
      (same_listing S (reduced_left (reduced S k)) k so (reduce_keeps S k sound_S small).1)

  one_sound : (g : SignedGraph) → OneOf S k g → sound g ≡ true
  one_sound = one_left (λ g. sound g ≡ true) sound_S (reduce_keeps S k sound_S small).0

  pub one_check : (g : SignedGraph) → OneOf S k g → check_of g k ≡ passed
  one_check g o = ap₂ check_by (one_sound g o) (le-leb k 32 small)

  -- what the reduction leaves is one of the two
  pub left_one : OneOf S k (reduced_left (reduced S k))
  left_one = inr refl

  -- ---- the page calls

  module _ (c : Call) (h : Ran c) (w : Gets S k c) where
    check : check_of c.graph c.k ≡ passed
    check = ap (check_of c.graph) w.0 ∙ one_check c.graph w.1

    same_due : due_groups c.graph c.k c.from ≡ due item_set c.from (listing S k)
    same_due = ap (due item_set c.from) (ap (listing c.graph) w.0 ∙ one_listing c.graph w.1)

    answered : c.answer ≡ answer item_set record_width c.from (length c.entry) (due item_set c.from (listing S k))
    answered = h.answered ∙ ap₂ (λ (x : Check) (l : List Item). page_by item_set record_width x c.from (length c.entry) l) check same_due

    wrote : c.exit ≡ filled record_of record_width (due item_set c.from (listing S k)) c.entry
    wrote = h.wrote ∙ ap₂ (λ (x : Check) (l : List Item). bytes_by record_of record_width x l c.entry) check same_due

    is_taken : taken c ≡ true
    unfolding answer
    is_taken = ap (λ (a : Page). is_accepted a.outcome) answered

    pub is_page : Paged item_set record_of record_width (listing S k) c.from c.entry c.answer c.exit
    is_page =
        subst (λ (a : Page). Paged item_set record_of record_width (listing S k) c.from c.entry a c.exit) (sym answered)
        (subst (Paged item_set record_of record_width (listing S k) c.from c.entry _) (sym wrote)
        (paged item_set record_of record_width (listing S k) record_wide sorted c.from c.entry))

  abbrev Pages : Bookmark → List Call → Type 0
  Pages = Chain item_set record_of record_width (listing S k) call_step

  chain : (m : Bookmark) (calls : List Call) → Linked S k m calls → Pages m calls
  chain m [] h = tt
  chain m (c ∷ calls) h = (
    h.1,
    record { page = λ t. is_page c h.0 (h.2 t); idle = ran_idle c h.0 },
    chain c.answer.next calls h.3,
  )

  -- each call of the list ran
  ran : (done : List Call) (c : Call) (left : List Call) (m : Bookmark) → Linked S k m (done ++ c ∷ left) → Ran c
  ran [] c left m h = h.0
  ran (d ∷ done) c left m h = ran done c left d.answer.next h.3

  -- ---- the whole

  pub one_largest : (g : SignedGraph) → OneOf S k g → largest_group g k ≡ largest_or_none (largest_of (listing S k))
  one_largest g o = ap₂ (λ (x : Check) (l : List Item). largest_group_by x (largest_of l)) (one_check g o) (one_listing g o)

  largest_one : (g : SignedGraph) → OneOf S k g → (r : Result Sides Refusal) → r ≡ largest_group g k → Largest (listing S k) r
  largest_one g o r e = largest_of_law (listing S k) sorted r (e ∙ one_largest g o)

  whole : (calls : List Call) → Linked S k Start calls → Demand3 S k calls
  whole calls h =
      record {
        order = sorted;
        exact = listing_exact S so k;
        pages = all_pages item_set record_of record_width (listing S k) call_step (records_differ S so k) calls (chain Start calls h);
        not_refused = λ done c left e. is_taken c (ran done c left Start (subst (Linked S k Start) e h));
        largest = largest_one;
      }

pub demand_3 : Statement
demand_3 bytes S e k small = whole S k (accepted_sound (accepted_words bytes S e)) small
