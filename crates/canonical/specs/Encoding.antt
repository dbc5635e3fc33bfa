-- Encoding (document 01: the writer): its answer, and what it leaves in the buffer. Assumes nothing.
use Rattle.std.specs.Prelude.{ℕ, not, List, ltb, length, Result, Ok, Err}
use Rattle.vertex_set.specs.Alternatives.{provided, ◌or_else◌}
use Rattle.vertex_set.specs.Buffers.{overwritten}
use Rattle.signed_graph.specs.declared.SignedGraph.{SignedGraph}
use Rattle.signed_graph.specs.declared.Refusal.{Refusal}
use Rattle.signed_graph.specs.declared.Refusal.TheVariants.{Unsound, BufferTooShort}
use Rattle.signed_graph.specs.Soundness.{sound}
use Rattle.canonical.specs.Canonical.{canonical}

-- the answer, where the buffer has room for so many bytes
unfoldable pub encoded : SignedGraph → ℕ → Result ℕ Refusal
encoded g room =
    provided (not (sound g)) (Err Unsound)
    or_else provided (ltb room (length (canonical g))) (Err BufferTooShort)
    or_else Ok (length (canonical g))

-- the buffer behind the call; a refusal leaves it as it was
unfoldable pub buffered : SignedGraph → List ℕ → List ℕ
buffered g out =
    provided (not (sound g)) out
    or_else provided (ltb (length out) (length (canonical g))) out
    or_else overwritten (canonical g) out

-- the length that an answer gives: 0 where the call is refused
abbrev pub encoded_length : Result ℕ Refusal → ℕ
encoded_length (Ok k) = k
encoded_length (Err r) = 0

-- the number that the call returns: 10 where the graph is not sound, then 13 where the buffer is shorter than the form
unfoldable pub encoding_number : SignedGraph → ℕ → ℕ
encoding_number g room =
    provided (not (sound g)) 10
    or_else provided (ltb room (length (canonical g))) 13
    or_else 0

-- and the length
unfoldable pub encoding_length : SignedGraph → ℕ → ℕ
encoding_length g room =
    provided (not (sound g)) 0
    or_else provided (ltb room (length (canonical g))) 0
    or_else length (canonical g)
