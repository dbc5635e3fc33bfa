-- What is due and what is printed, by the words for an edge list and for its faults. Assumes nothing.
use Rattle.std.specs.Prelude.{Result, Ok, Err}
use Rattle.std.proofs.Common.{◌≡◌, ℕ, ◌≤◌, ◌<◌, List, ◌∷◌, ◌++◌, length, refl, ap, ap₂, ◌∙◌, subst}
use borrow.Author.Tests.{le-leb, lt-leb}
use Rattle.signed_graph.specs.declared.SignedGraph.{SignedGraph}
use Rattle.signed_graph.specs.declared.Refusal.TheVariants.{ThresholdTooLarge}
use Rattle.signed_graph.specs.Calls.{Check, passed, check_by, check_of}
use Rattle.clique.specs.Listing.{listing}
use Rattle.largest.specs.Largest.{largest_group}
use Rattle.commands.specs.declared.Fault.{Fault}
use Rattle.commands.specs.Faults.{fault_number, fault_place, graph_given}
use Rattle.edge_list.specs.Faults.{FaultIn}
use Rattle.edge_list.specs.Decoding.{decoded}
use Rattle.edge_list.specs.Acceptance.{ListOf}
use Rattle.edge_list.proofs.Answers.{words_accepted, words_refused, accepted_sound}
use Rattle.report.specs.Lines.{line_text, count_line, refusal_line, fault_line}
use Rattle.output.specs.declared.Due.{Due}
use Rattle.output.specs.Output.{
  input_list,
  due_by,
  due_of,
  due_for,
  input_of,
  groups_text,
  line_of_largest,
  printed_of,
  printed,
}

-- ---- where groups are due, the call's check accepts

checked_by : (c : Check) (g : SignedGraph) (k : ℕ) (d : Due) → check_of g k ≡ c → due_by c g k ≡ Ok d → check_of d.graph d.threshold ≡ passed
checked_by (Err why) g k d is e = cc
checked_by (Ok x) g k d is e =
    let same : ◌≡◌ {A = Due} (record { graph = g; threshold = k }) d = cc in
    subst (λ (y : Due). check_of y.graph y.threshold ≡ passed) same is

checked : (r : Result SignedGraph Fault) (k : ℕ) (d : Due) → due_of r k ≡ Ok d → check_of d.graph d.threshold ≡ passed
checked (Err f) k d e = cc
checked (Ok g) k d e = checked_by (check_of g k) g k d refl e

pub due_checked : (input : List ℕ) (d : Due) → due_for input ≡ Ok d → check_of d.graph d.threshold ≡ passed
due_checked input d e = checked (decoded (input_list input)) _ d e

-- ---- what is due is the input's graph, for its threshold

given_by : (c : Check) (g : SignedGraph) (k : ℕ) (d : Due) → due_by c g k ≡ Ok d → d ≡ record { graph = g; threshold = k }
given_by (Err why) g k d e = cc
given_by (Ok x) g k d e = cc

given : (r : Result SignedGraph Fault) (k : ℕ) (d : Due) → due_of r k ≡ Ok d → d ≡ record { graph = graph_given r; threshold = k }
given (Err f) k d e = cc
given (Ok g) k d e = given_by (check_of g k) g k d e

pub due_input : (input : List ℕ) (d : Due) → due_for input ≡ Ok d → d ≡ input_of input
due_input input d e = given (decoded (input_list input)) _ d e

-- ---- what is printed

-- a list with a fault: the line of the fault and nothing else, whatever the threshold is
pub fault_printed : (k : ℕ) (list : List ℕ) (f : Fault) → FaultIn list f → printed (k ∷ list) ≡ fault_line (fault_number f) (fault_place f)
unfolding printed
fault_printed k list f w = ap (λ (r : Result SignedGraph Fault). printed_of (due_of r k)) (words_refused list f w)

-- an edge list of g
module _ (k : ℕ) (list : List ℕ) (g : SignedGraph) (w : ListOf list g) where
  of_check : (c : Check) → check_of g k ≡ c → printed (k ∷ list) ≡ printed_of (due_by c g k)
  unfolding printed
  of_check c e =
      ap (λ (r : Result SignedGraph Fault). printed_of (due_of r k)) (words_accepted list g w)
      ∙ ap (λ (x : Check). printed_of (due_by x g k)) e

  -- and a threshold over 32
  pub threshold_printed : 32 < k → printed (k ∷ list) ≡ refusal_line 11
  threshold_printed h = of_check (Err ThresholdTooLarge) (ap₂ check_by (accepted_sound w) (lt-leb k 32 h))

  -- and a threshold of at most 32: the groups, the largest, and how many there are
  pub groups_printed : k ≤ 32
      → printed (k ∷ list) ≡ groups_text (listing g k) ++ (line_text (line_of_largest (largest_group g k)) ++ count_line (length (listing g k)))
  groups_printed h = of_check passed (ap₂ check_by (accepted_sound w) (le-leb k 32 h))
