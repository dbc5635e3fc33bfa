-- Demand 3 for every list of calls of `mastpickle_list_page`: each that the interface does not refuse is a call of the base, with the
-- graph and the bookmark that are read from its arrays. Assumes nothing.
use Prim.Native.Nat.{ℕ, ◌≤◌}
use native.Mathlib.Omega.{arith}
use mathlib.Core.Path.{◌≡◌, refl, sym, ap, ap₂, ◌∙◌, subst}
use mathlib.Core.Logic.{◌≢◌}
use mathlib.Core.Bool.{Bool, true, false}
use mathlib.Core.List.{List, [], ◌∷◌}
use lib.Dec.{leb, eqb}
use lib.ListN.{length, get_or}
use borrow.Author.Tests.{leb-true, le-leb, eqb-true, eqb-false}
use Rattle.std.specs.Prelude.{Result, Ok, Err}
use Rattle.vertex_set.specs.declared.Sides.{Sides}
use Rattle.vertex_set.specs.Lists.{Sorted}
use Rattle.vertex_set.specs.Buffers.{overwritten}
use Rattle.vertex_set.proofs.Booleans.{clash, cases}
use Rattle.signed_graph.specs.declared.SignedGraph.{SignedGraph}
use Rattle.signed_graph.specs.Soundness.{sound}
use Rattle.signed_graph.specs.declared.Refusal.{Refusal}
use Rattle.signed_graph.specs.Calls.{Check, graph_check, answer_number, check_of, number_by, refusal_number}
use Rattle.signed_graph.proofs.Calls.{call_check}
use Rattle.commands.specs.Faults.{graph_given}
use Rattle.edge_list.specs.Decoding.{decoded}
use Rattle.pages.specs.declared.Bookmark.{Bookmark}
use Rattle.pages.specs.declared.Bookmark.TheVariants.{Start, After}
use Rattle.pages.specs.declared.Page.{Page}
use Rattle.pages.specs.Pages.{answer, page_by}
use Rattle.pages.specs.Answers.{mark_kind, page_values}
use Rattle.pages.proofs.Answers.{page_values_law}
use Rattle.pages.proofs.PageLists.{Idle, Chain, all_pages}
use Rattle.clique.specs.Listing.{Item, item_set, comes_before, listing}
use Rattle.clique.proofs.Listing.{listing_exact}
use Rattle.group_pages.specs.Records.{record_width, record_of}
use Rattle.group_pages.specs.Calls.{due_groups, page_of, page_bytes, page_values_of}
use Rattle.group_pages.proofs.Distinct.{records_differ}
use Rattle.largest.specs.Largest.{larger, largest_of, largest_or_none, largest_group, sides_left, largest_number}
use Rattle.largest.proofs.LargestOf.{largest_found}
use Rattle.largest.proofs.Bests.{largest_number_law}
use Rattle.guarantees.specs.Demand.{Call, Ran, is_accepted, Gets, call_of}
use Rattle.guarantees.proofs.Demand.{ran_idle, so, sorted, one_check, is_page, one_largest}
use Rattle.c_words.specs.Graphs.{graph_at}
use Rattle.c_words.specs.Refusals.{unless_refused, number_after, words_after}
use Rattle.c_words.proofs.Refusals.{none_refused}
use Rattle.c_groups.specs.Answers.{largest_words}
use Rattle.c_groups.specs.Calls.{largest_returns, largest_answer}
use Rattle.c_pages.specs.Answers.{mark_at}
use Rattle.c_pages.specs.Reading.{page_told}
use Rattle.c_pages.specs.Refusals.{page_refusal}
use Rattle.c_pages.proofs.Refusals.{page_taken, page_high}
use Rattle.c_pages.proofs.Reading.{page_read}
use Rattle.c_guarantees.specs.CDemand.{PageCall, PageRan, own_refused, returns0, page_given_by, page_given, page_step, PageGets, ArrayOf, PagesLinked, LargestTold, CDemand3, CStatement}
use Rattle.c_guarantees.proofs.Arrays.{decode_accepts, sound_S, array_reads}

-- ---- numbers

-- the number of a check is the call's
answer_number_law : (g : SignedGraph) (k : ℕ) → answer_number (check_of g k) ≡ refusal_number g k
answer_number_law g k = (call_check g k (graph_check g) (leb k 32) refl refl).1

-- a page has the outcome of its check
page_outcome : (t : Check) (m : Bookmark) (room : ℕ) (l : List Item) → (page_by item_set record_width t m room l).outcome ≡ t
unfolding answer
page_outcome (Ok x) m room l = refl
page_outcome (Err why) m room l = refl

refused_number : (t : Check) → answer_number t ≢ 0 → is_accepted t ≡ false
refused_number (Ok x) d = absurd (d refl)
refused_number (Err why) d = refl

-- a call's own numbers are below the interface's
call_low : (sound small : Bool) → number_by sound small ≤ 11
call_low false small = omega arith
call_low true false = omega arith
call_low true true = omega arith

kind_low : (m : Bookmark) → mark_kind m ≤ 1
kind_low Start = omega arith
kind_low (After s) = omega arith

-- ---- one call

-- as a call of the base
abbrev base_call : PageCall → Call
base_call c = call_of (graph_at c.graph) c.k c.from c.out_entry (page_given c) c.out_exit

module _ (c : PageCall) (h : PageRan c) where
  abbrev g : SignedGraph
  g = graph_at c.graph

  abbrev mark : Bookmark
  mark = mark_at c.kind c.set

  abbrev page : Page
  page = page_of g c.k mark (length c.out_entry)

  -- the interface's own refusal, 0 where there is none
  abbrev own : ℕ
  own = page_refusal (length c.graph) (length c.answer_entry) c.kind

  -- where there is none, what the page call of the base gives
  module _ (z : own ≡ 0) where
    number_is : c.number ≡ answer_number (check_of g c.k)
    number_is = h.returned ∙ ap (λ (o : ℕ). number_after o (refusal_number g c.k)) z ∙ sym (answer_number_law g c.k)

    bytes_are : c.out_exit ≡ page_bytes g c.k mark c.out_entry
    bytes_are = h.wrote ∙ ap (λ (o : ℕ). unless_refused o c.out_entry (page_bytes g c.k mark c.out_entry)) z

    values_are : page_values page ≡ page_values_of g c.k mark (length c.out_entry)
    values_are = page_values_law item_set record_width (check_of g c.k) mark (length c.out_entry) (due_groups g c.k mark)

    words_are : c.answer_exit ≡ overwritten (page_values page) c.answer_entry
    words_are =
        h.answered ∙ ap₂ (λ (o : ℕ) (words : List ℕ). words_after o words c.answer_entry) z (sym values_are)

    outcome_is : page.outcome ≡ check_of g c.k
    outcome_is = page_outcome (check_of g c.k) mark (length c.out_entry) (due_groups g c.k mark)

    told_is : page_told c.number c.answer_exit ≡ page
    told_is = ap₂ page_told (number_is ∙ ap answer_number (sym outcome_is)) words_are ∙ page_read page c.answer_entry

  -- the number tells whether there is one
  own_none : own_refused c ≡ false → own ≡ 0
  own_none f =
      cases (own ≡ 0) (eqb own 0) (eqb-true own 0) (λ e.
      let high = page_high (length c.graph) (length c.answer_entry) c.kind (eqb-false own 0 e) in
      let is : c.number ≡ own = h.returned ∙ rw (e, unless_refused) refl in
      clash (own_refused c) (le-leb 101 c.number (omega (arith, high, is))) f)

  own_some : own_refused c ≡ true → eqb own 0 ≡ false
  own_some t =
      cases (eqb own 0 ≡ false) (eqb own 0) (λ e.
      let low = call_low (sound g) (leb c.k 32) in
      let is = number_is (eqb-true own 0 e) ∙ answer_number_law g c.k in
      absurd (omega (arith, leb-true 101 c.number t, is, low))) (λ e. e)

  kept : own_refused c ≡ true → (c.out_exit ≡ c.out_entry) × (c.answer_exit ≡ c.answer_entry)
  kept t = let e = own_some t in (h.wrote ∙ rw (e, unless_refused) refl, h.answered ∙ rw (e, unless_refused) refl)

  kind : own_refused c ≡ false → get_or c.answer_exit 2 0 ≤ 1
  kind f = subst (λ (words : List ℕ). get_or words 2 0 ≤ 1) (sym (words_are (own_none f))) (kind_low page.next)

  -- a call of the base, where its kind and set are those of the bookmark from which its caller goes on
  base_ran : own_refused c ≡ false → mark ≡ c.from → Ran (base_call c)
  base_ran f e =
      let z = own_none f in
      record {
        answered = ap (λ (b : Bool). page_given_by b c) f ∙ told_is z
            ∙ ap (λ (m : Bookmark). page_of g c.k m (length c.out_entry)) e;
        wrote = bytes_are z ∙ ap (λ (m : Bookmark). page_bytes g c.k m c.out_entry) e;
      }

  -- a call that does not return 0
  idle : (own_refused c ≡ false → mark ≡ c.from) → returns0 c ≡ false → Idle (page_step c)
  idle e n = cases (Idle (page_step c)) (own_refused c) own_idle base_idle
    where
      own_idle : own_refused c ≡ true → Idle (page_step c)
      own_idle t =
          record {
            counted = ap (λ (b : Bool). (page_given_by b c).count) t;
            kept = (kept t).0;
            same = ap (λ (b : Bool). (page_given_by b c).next) t;
            told = ap (λ (b : Bool). (page_given_by b c).end) t;
          }

      base_idle : own_refused c ≡ false → Idle (page_step c)
      base_idle f =
          let z = own_none f in
          let not_0 : answer_number (check_of g c.k) ≢ 0 = λ q. eqb-false c.number 0 n (number_is z ∙ q) in
          let i = ran_idle (base_call c) (base_ran f (e f))
          (ap (λ (b : Bool). is_accepted (page_given_by b c).outcome) f ∙ ap (λ (p : Page). is_accepted p.outcome) (told_is z)
          ∙ ap is_accepted (outcome_is z) ∙ refused_number (check_of g c.k) not_0) in
          record { counted = i.counted; kept = i.kept; same = i.same; told = i.told }

-- ---- the largest group

largest_told : (l : List Item) → Sorted comes_before l → (number : ℕ) (words before : List ℕ)
    → number ≡ answer_number (largest_or_none (largest_of l))
    → words ≡ overwritten (largest_words (sides_left (largest_or_none (largest_of l)))) before → LargestTold l number words
unfolding largest_of
largest_told [] h number words before n w =
    record {
      none = (λ _. refl, λ _. n);
      zeros = λ _. (ap (λ (x : List ℕ). get_or x 0 0) w, ap (λ (x : List ℕ). get_or x 1 0) w);
      else = λ d. absurd (d refl);
    }
largest_told (x ∷ l) h number words before n w =
    record {
      none = (λ q. absurd (omega (arith, n, q)), λ q. absurd (omega (arith, q)));
      zeros = λ q. absurd (omega (arith, q));
      else = λ d. (
        n,
        (
          larger x (largest_of l),
          ap (λ (x : List ℕ). get_or x 0 0) w,
          ap (λ (x : List ℕ). get_or x 1 0) w,
          largest_found (x ∷ l) h (larger x (largest_of l)) refl,
        ),
      );
    }

module _ (bytes : List ℕ) (is_graph : decoded bytes ≡ Ok (graph_given (decoded bytes))) (k : ℕ) (small : k ≤ 32) where
  abbrev S : SignedGraph
  S = graph_given (decoded bytes)

  abbrev sound_is : sound S ≡ true
  sound_is = sound_S bytes is_graph

  -- ---- the page calls

  gets : (c : PageCall) → PageGets bytes k c → Gets S k (base_call c)
  gets c w = (w.0, (array_reads bytes is_graph k small c.graph w.1).0)

  chain : (m : Bookmark) (calls : List PageCall) → PagesLinked bytes k m calls
      → Chain item_set record_of record_width (listing S k) page_step m calls
  chain m [] h = tt
  chain m (c ∷ calls) h =
      let e : own_refused c ≡ false → mark_at c.kind c.set ≡ c.from = λ f. h.2 f ∙ sym h.1 in (
        h.1,
        record {
          page = λ t.
              let f : own_refused c ≡ false = ap (leb 101) (eqb-true c.number 0 t) in
              is_page S k sound_is small (base_call c) (base_ran c h.0 f (e f)) (gets c (h.3 t));
          idle = idle c h.0 e;
        },
        chain (page_given c).next calls h.4,
      )

  not_refused : (c : PageCall) → PageRan c → PageGets bytes k c → 4 ≤ length c.answer_entry → c.kind ≤ 1 → c.number ≡ 0
  not_refused c h w four one =
      let reads = array_reads bytes is_graph k small c.graph w.1 in
      number_is c h (page_taken (length c.graph) (length c.answer_entry) c.kind reads.1 four one)
      ∙ ap answer_number (ap (check_of (graph_at c.graph)) w.0 ∙ one_check S k sound_is small (graph_at c.graph) reads.0)

  -- ---- the whole

  largest : (graph answer : List ℕ) → ArrayOf bytes k graph → 2 ≤ length answer
      → LargestTold (listing S k) (largest_returns graph k answer) (largest_answer graph k answer)
  largest graph answer o two =
      let reads = array_reads bytes is_graph k small graph o in
      let g = graph_at graph in
      let z = none_refused (length graph) (length answer) 2 reads.1 two in
      let is = one_largest S k sound_is small g reads.0 in
      largest_told (listing S k) (sorted S k sound_is small) (largest_returns graph k answer) (largest_answer graph k answer) answer
      (ap (λ (own : ℕ). number_after own (largest_number g k)) z ∙ sym (largest_number_law g k)
      ∙ ap (λ (r : Result Sides Refusal). answer_number r) is)
      (ap (λ (own : ℕ). words_after own (largest_words (sides_left (largest_group g k))) answer) z
      ∙ ap (λ (r : Result Sides Refusal). overwritten (largest_words (sides_left r)) answer) is)

  whole : (calls : List PageCall) → PagesLinked bytes k Start calls → CDemand3 bytes S k calls
  whole calls h =
      record {
        graph = is_graph;
        order = sorted S k sound_is small;
        exact = listing_exact S (so S k sound_is small) k;
        pages = all_pages item_set record_of record_width (listing S k) page_step (records_differ S (so S k sound_is small) k) calls
            (chain Start calls h);
        untouched = kept;
        not_refused = not_refused;
        kinds = kind;
        largest = largest;
      }

pub c_demand_3 : CStatement
c_demand_3 bytes before answer z = whole bytes (decode_accepts bytes before answer z)
