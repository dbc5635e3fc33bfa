-- The users' third demand: what a list of page calls writes, all calls together, and what the call for the largest group says.
-- S is the graph of an accepted list, k a threshold. Assumes nothing.
use Rattle.std.specs.Prelude.{ℕ, ◌≤◌, ◌≡◌, ◌≢◌, ◌⊎◌, ◌↔◌, Bool, true, false, length, Result, Ok, Err}
use mathlib.Core.List.{List, [], ◌∷◌, ◌++◌, Memᴰ}
use Rattle.vertex_set.specs.declared.Sides.{Sides}
use Rattle.vertex_set.specs.Lists.{Sorted}
use Rattle.signed_graph.specs.declared.SignedGraph.{SignedGraph}
use Rattle.signed_graph.specs.declared.Refusal.{Refusal}
use Rattle.signed_graph.specs.declared.Refusal.TheVariants.{NoGroup}
use Rattle.signed_graph.specs.Calls.{Check}
use Rattle.reduction.specs.Reductions.{reduced, reduced_left}
use Rattle.edge_list.specs.Decoding.{decoded}
use Rattle.pages.specs.declared.Bookmark.{Bookmark}
use Rattle.pages.specs.declared.Bookmark.TheVariants.{Start}
use Rattle.pages.specs.declared.Page.{Page}
use Rattle.clique.specs.Listing.{Item, Listed, comes_before, listing}
use Rattle.group_pages.specs.Records.{record_width, record_of}
use Rattle.group_pages.specs.Calls.{page_of, page_bytes}
use Rattle.largest.specs.Largest.{IsLargest, largest_group}
use Rattle.pages.specs.PageLists.{Step, AllPages}

-- ---- the calls

-- a page call: what it got, its answer, and the buffer as it returned
pub record Call : Type 0 where
  pub graph : SignedGraph
  pub k : ℕ
  pub from : Bookmark
  pub entry : List ℕ
  pub answer : Page
  pub exit : List ℕ

-- what `list_page` ensures of a call
pub record Ran (c : Call) : Type 0 where
  pub answered : c.answer ≡ page_of c.graph c.k c.from (length c.entry)
  pub wrote : c.exit ≡ page_bytes c.graph c.k c.from c.entry

abbrev pub is_accepted : Check → Bool
is_accepted (Ok passed) = true
is_accepted (Err why) = false

-- the call was not refused
abbrev pub taken : Call → Bool
taken c = is_accepted c.answer.outcome

abbrev pub call_step : Call → Step
call_step c = record { accepted = taken c; from = c.from; entry = c.entry; answer = c.answer; exit = c.exit }

-- a call from what `list_page` gets and gives
abbrev pub call_of : SignedGraph → ℕ → Bookmark → List ℕ → Page → List ℕ → Call
call_of g k m entry answer exit = record { graph = g; k = k; from = m; entry = entry; answer = answer; exit = exit }

-- g is S, or S reduced for k
abbrev pub OneOf : SignedGraph → ℕ → SignedGraph → Type 0
OneOf S k g = (g ≡ S) ⊎ (g ≡ reduced_left (reduced S k))

-- the call has the threshold k, and the graph S or S reduced for k
abbrev pub Gets : SignedGraph → ℕ → Call → Type 0
Gets S k c = (c.k ≡ k) × OneOf S k c.graph

-- a list of calls that begins at the bookmark m: each later call has the bookmark of the answer before it, refused or not; and each that
-- is accepted has the threshold k, and S or S reduced for k
abbrev pub Linked : SignedGraph → ℕ → Bookmark → List Call → Type 0
Linked S k m [] = Unit {0}
Linked S k m (c ∷ calls) = Ran c × (c.from ≡ m) × (taken c ≡ true → Gets S k c) × Linked S k c.answer.next calls

-- ---- what is said of them

-- of the answer of the call for the largest group, where the groups are those of l
pub record Largest (l : List Item) (r : Result Sides Refusal) : Type 0 where
  -- it says that there is none exactly where there is none
  pub none : (r ≡ Err NoGroup) ↔ (length l ≡ 0)
  -- else it gives the sides of one of them, and each of the others has fewer vertices, or as many and a later place
  pub else : length l ≢ 0 → (x : Item) × (r ≡ Ok (record { left = x.left; right = x.right })) × IsLargest l x

-- the whole
pub record Demand3 (S : SignedGraph) (k : ℕ) (calls : List Call) : Type 0 where
  -- the listing is in listing order, so each group is in it once; and in it is exactly what is a group, with its sides
  pub order : Sorted comes_before (listing S k)
  pub exact : (x : Item) → Memᴰ x (listing S k) ↔ Listed S k x
  -- the page calls, all together: the records that they wrote, and what each says
  pub pages : AllPages record_of record_width (listing S k) call_step calls
  -- a call with k, and S or S reduced for k, is accepted, whatever its buffer
  pub not_refused : (done : List Call) (c : Call) (left : List Call) → calls ≡ done ++ c ∷ left → Gets S k c → taken c ≡ true
  -- the largest group, asked of S or of S reduced for k
  pub largest : (g : SignedGraph) → OneOf S k g → (r : Result Sides Refusal) → r ≡ largest_group g k → Largest (listing S k) r

-- for every accepted list, be it an edge list or an amendment list, every threshold up to 32 and every list of page calls from Start
-- on, refused ones among them, with buffers of any lengths
abbrev pub Statement : Type 0
Statement = (bytes : List ℕ) (S : SignedGraph) → decoded bytes ≡ Ok S → (k : ℕ) → k ≤ 32 → (calls : List Call)
    → Linked S k Start calls → Demand3 S k calls
