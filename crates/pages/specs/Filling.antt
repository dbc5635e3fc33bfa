-- For proofs: a page that is filled item by item, and what a bookmark leaves behind. Assumes nothing.
use Rattle.std.specs.Prelude.{ℕ, ◌<◌, ◌≡◌, false, List, ◌++◌, length}
use Rattle.vertex_set.specs.Sets.{mem}
use Rattle.signed_graph.specs.Calls.{passed}
use Rattle.pages.specs.declared.Bookmark.{Bookmark}
use Rattle.pages.specs.declared.End.TheVariants.{Finished}
use Rattle.pages.specs.declared.Page.{Page}
use Rattle.pages.specs.Pages.{due_at, answer, filled}

-- a page with no record yet
abbrev pub empty : Bookmark → Page
empty m = record { outcome = passed; count = 0; next = m; end = Finished }

-- for any items with records of one width
module _ {X : Type 0} (set : X → ℕ) (encode : X → List ℕ) (w : ℕ) where
  -- the page holds the due items met so far: its answer and its buffer are those of a page at which these alone are due
  pub record Holds (m : Bookmark) (buffer : List ℕ) (met : List X) (page : Page) (out : List ℕ) : Type 0 where
    pub answered : page ≡ answer set w m (length buffer) met
    pub wrote : out ≡ filled encode w met buffer

  -- where the page held the due items met so far, it now holds these too
  pub record Adds (m : Bookmark) (items : List X) (page : Page) (entry : List ℕ) (after : Page) (exit : List ℕ) : Type 0 where
    pub adds : (buffer : List ℕ) (met : List X) → Holds m buffer met page entry → Holds m buffer (met ++ items) after exit

-- no set that has, below v, exactly the vertices of c is due
abbrev pub Past : Bookmark → ℕ → ℕ → Type 0
Past m c v = (s : ℕ) → ((q : ℕ) → q < v → mem q s ≡ mem q c) → due_at m s ≡ false
