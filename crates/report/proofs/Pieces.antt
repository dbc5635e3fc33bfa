-- A line of two pieces in a buffer, of which the first is written. Assumes nothing.
use Rattle.std.proofs.Common.{◌≡◌, ℕ, ◌≤◌, List, [], ◌++◌, length, drop, sym, subst, append-nil}
use Rattle.vertex_set.proofs.Buffers.{Laid, laid_first, laid_as}

pub first_laid : (first last whole out o : List ℕ) (k : ℕ) → whole ≡ first ++ last → length whole ≤ length out → k ≡ length first
    → o ≡ first ++ drop (length first) out → Laid whole out o k (last ++ [])
first_laid first last whole out o k parts room e is =
    laid_as (sym (append-nil last)) (
    subst (λ (x : List ℕ). Laid x out o k last) (sym parts)
    (laid_first first last out o k (subst (λ (x : List ℕ). length x ≤ length out) parts room) e is))
