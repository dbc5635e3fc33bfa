-- The users' third demand for the C calls, on arrays: what a list of calls of `mastpickle_list_page` writes, all calls together, where
-- the answer of one gives the next its bookmark; and what `mastpickle_largest` says. The arrays for graphs are those that
-- `mastpickle_decode` and `mastpickle_reduce` leave. S is the graph of an accepted list, k a threshold. Assumes nothing.
use Rattle.std.specs.Prelude.{ℕ, ◌≤◌, ◌≡◌, ◌≢◌, ◌⊎◌, ◌↔◌, Bool, true, false, leb, eqb, length, get_or, Ok}
use mathlib.Core.List.{List, [], ◌∷◌, Memᴰ}
use Rattle.vertex_set.specs.Lists.{Sorted}
use Rattle.signed_graph.specs.declared.SignedGraph.{SignedGraph}
use Rattle.commands.specs.Faults.{graph_given}
use Rattle.edge_list.specs.Decoding.{decoded}
use Rattle.clique.specs.Listing.{Item, Listed, comes_before, listing}
use Rattle.pages.specs.declared.Bookmark.{Bookmark}
use Rattle.pages.specs.declared.Bookmark.TheVariants.{Start}
use Rattle.pages.specs.declared.End.TheVariants.{More}
use Rattle.pages.specs.declared.Page.{Page}
use Rattle.pages.specs.PageLists.{Step, AllPages}
use Rattle.group_pages.specs.Records.{record_width, record_of}
use Rattle.largest.specs.Largest.{IsLargest}
use Rattle.c_graphs.specs.Calls.{decode_returns, decode_graph, reduce_returns, reduce_graph}
use Rattle.c_groups.specs.Calls.{largest_returns, largest_answer}
use Rattle.c_pages.specs.Answers.{mark_at}
use Rattle.c_pages.specs.Reading.{check_told, page_told}
use Rattle.c_pages.specs.Calls.{list_page_returns, list_page_buffer, list_page_answer}

-- ---- the arrays for S

-- `mastpickle_decode` returned 0 for the list, and left the array so: the array has S
pub record LeftByDecode (bytes array : List ℕ) : Type 0 where
  pub before : List ℕ
  pub answer : List ℕ
  pub returned : decode_returns bytes before answer ≡ 0
  pub left : array ≡ decode_graph bytes before answer

-- `mastpickle_reduce` returned 0 for such an array and k, and left the array so: the array has S reduced for k
pub record LeftByReduce (bytes : List ℕ) (k : ℕ) (array : List ℕ) : Type 0 where
  pub graph : List ℕ
  pub by_decode : LeftByDecode bytes graph
  pub before : List ℕ
  pub answer : List ℕ
  pub returned : reduce_returns graph k before answer ≡ 0
  pub left : array ≡ reduce_graph graph k before answer

-- the array has S, or S reduced for k
abbrev pub ArrayOf : List ℕ → ℕ → List ℕ → Type 0
ArrayOf bytes k array = LeftByDecode bytes array ⊎ LeftByReduce bytes k array

-- ---- the calls

-- a call of `mastpickle_list_page`: the bookmark from which its caller goes on, what it got, the number that it returned, and its
-- arrays as it returned
pub record PageCall : Type 0 where
  pub from : Bookmark
  pub graph : List ℕ
  pub k : ℕ
  pub kind : ℕ
  pub set : ℕ
  pub out_entry : List ℕ
  pub answer_entry : List ℕ
  pub number : ℕ
  pub out_exit : List ℕ
  pub answer_exit : List ℕ

-- what `mastpickle_list_page` ensures of a call
pub record PageRan (c : PageCall) : Type 0 where
  pub returned : c.number ≡ list_page_returns c.graph c.k c.kind c.answer_entry
  pub wrote : c.out_exit ≡ list_page_buffer c.graph c.k c.kind c.set c.out_entry c.answer_entry
  pub answered : c.answer_exit ≡ list_page_answer c.graph c.k c.kind c.set c.out_entry c.answer_entry

-- a call from what `mastpickle_list_page` gets and gives
abbrev pub page_call_of : Bookmark → List ℕ → ℕ → ℕ → ℕ → List ℕ → List ℕ → ℕ → List ℕ → List ℕ → PageCall
page_call_of from graph k kind set out_entry answer_entry number out_exit answer_exit =
    record {
      from = from;
      graph = graph;
      k = k;
      kind = kind;
      set = set;
      out_entry = out_entry;
      answer_entry = answer_entry;
      number = number;
      out_exit = out_exit;
      answer_exit = answer_exit;
    }

-- the call returned 0
abbrev pub returns0 : PageCall → Bool
returns0 c = eqb c.number 0

-- the interface itself refused the call, which then wrote nothing at all: 101, 102 or 103
abbrev pub own_refused : PageCall → Bool
own_refused c = leb 101 c.number

-- the page that a call gave: what its number and the words of its answer tell; where the interface itself refused it, no record, more,
-- and the bookmark from which its caller goes on
abbrev pub page_given_by : Bool → PageCall → Page
page_given_by true c = record { outcome = check_told c.number; count = 0; next = c.from; end = More }
page_given_by false c = page_told c.number c.answer_exit

abbrev pub page_given : PageCall → Page
page_given c = page_given_by (own_refused c) c

abbrev pub page_step : PageCall → Step
page_step c =
    record { accepted = returns0 c; from = c.from; entry = c.out_entry; answer = page_given c; exit = c.out_exit }

-- the call has the threshold k, and an array with S or S reduced for k
abbrev pub PageGets : List ℕ → ℕ → PageCall → Type 0
PageGets bytes k c = (c.k ≡ k) × ArrayOf bytes k c.graph

-- a list of calls that begins at the bookmark m: each later call goes on from the bookmark whose kind and set are the words 2 and 3 of
-- the last answer; its own kind and set are that bookmark's, but where the interface itself refuses it they may be any; and each that
-- returns 0 has the threshold k, and an array with S or S reduced for k
abbrev pub PagesLinked : List ℕ → ℕ → Bookmark → List PageCall → Type 0
PagesLinked bytes k m [] = Unit {0}
PagesLinked bytes k m (c ∷ calls) =
    PageRan c × (c.from ≡ m) × (own_refused c ≡ false → mark_at c.kind c.set ≡ m) × (returns0 c ≡ true → PageGets bytes k c)
    × PagesLinked bytes k (page_given c).next calls

-- ---- what is said of them

-- of the number and the words that `mastpickle_largest` gave, where the groups are those of l
pub record LargestTold (l : List Item) (number : ℕ) (words : List ℕ) : Type 0 where
  -- it returns 12 exactly where there is none, and then both words are 0
  pub none : (number ≡ 12) ↔ (length l ≡ 0)
  pub zeros : length l ≡ 0 → (get_or words 0 0 ≡ 0) × (get_or words 1 0 ≡ 0)
  -- else it returns 0, and the words are the sides of one of them, and each of the others has fewer vertices, or as many and a later place
  pub else : length l ≢ 0
      → (number ≡ 0) × ((x : Item) × (get_or words 0 0 ≡ x.left) × (get_or words 1 0 ≡ x.right) × IsLargest l x)

-- the whole
pub record CDemand3 (bytes : List ℕ) (S : SignedGraph) (k : ℕ) (calls : List PageCall) : Type 0 where
  -- the list is accepted, and S is its graph
  pub graph : decoded bytes ≡ Ok S
  -- the listing is in listing order, so each group is in it once; and in it is exactly what is a group, with its sides
  pub order : Sorted comes_before (listing S k)
  pub exact : (x : Item) → Memᴰ x (listing S k) ↔ Listed S k x
  -- the page calls, all together: the records that they wrote, and what each says
  pub pages : AllPages record_of record_width (listing S k) page_step calls
  -- a call that the interface itself refuses leaves its arrays as they were; every other one gives the kind 0 or 1
  pub untouched : (c : PageCall) → PageRan c → own_refused c ≡ true → (c.out_exit ≡ c.out_entry) × (c.answer_exit ≡ c.answer_entry)
  pub kinds : (c : PageCall) → PageRan c → own_refused c ≡ false → get_or c.answer_exit 2 0 ≤ 1
  -- a call with k, an array with S or S reduced for k, four words for its answer and the kind 0 or 1 returns 0, whatever its buffer
  pub not_refused : (c : PageCall) → PageRan c → PageGets bytes k c → 4 ≤ length c.answer_entry → c.kind ≤ 1 → c.number ≡ 0
  -- the largest group, asked of an array with S or S reduced for k, with two words for the answer
  pub largest : (graph answer : List ℕ) → ArrayOf bytes k graph → 2 ≤ length answer
      → LargestTold (listing S k) (largest_returns graph k answer) (largest_answer graph k answer)

-- for every list that `mastpickle_decode` accepts, every threshold up to 32 and every list of page calls from Start on, refused
-- ones among them, with arrays of any lengths
abbrev pub CStatement : Type 0
CStatement = (bytes before answer : List ℕ) → decode_returns bytes before answer ≡ 0 → (k : ℕ) → k ≤ 32 → (calls : List PageCall)
    → PagesLinked bytes k Start calls → CDemand3 bytes (graph_given (decoded bytes)) k calls
