-- `bit_matrix::exchange_digit` meets its contract. The rows before `at` are exchanged. Assumes nothing.
use Prim.Native.Nat.{ℕ, zero, suc, ◌+◌, ◌*◌, ◌%◌, ◌^◌, ◌≤◌, ◌<◌}
use mathlib.Core.Path.{◌≡◌, refl}
use native.Mathlib.Omega.{arith}
use mathlib.Core.List.{List}
use lib.ListN.{get_or}
use lib.Pow.{pow_pos}
use Rattle.vertex_set.specs.Sets.{collect}
use Rattle.vertex_set.proofs.Collections.{shifted}
use Rattle.bit_matrix.specs.declared.TheConstants.{ZERO_COLUMNS}
use Rattle.bit_matrix.specs.Transposition.{zero_columns, RowsExchanged}
use Rattle.bit_matrix.proofs.Digits.{block_fits}
use Rattle.bit_matrix.proofs.Transposition.{Exchanging, digit_start, digit_step, digit_end}
use Rattle.bit_matrix.proofs.exchange_digit.Goals as goal

-- the masks are the columns whose digit is 0
masks : (k : ℕ) → k < 6 → get_or ZERO_COLUMNS k 0 ≡ zero_columns k
unfolding zero_columns collect
masks zero h = refl
masks (suc zero) h = refl
masks (suc (suc zero)) h = refl
masks (suc (suc (suc zero))) h = refl
masks (suc (suc (suc (suc zero)))) h = refl
masks (suc (suc (suc (suc (suc zero))))) h = refl
masks (suc (suc (suc (suc (suc (suc k)))))) h = absurd (omega (arith, h))

-- what `1 << k` computes
abbrev half : ℕ → ℕ
half k = (1 * 2 ^ k) % 2 ^ 64

module _ {k at : ℕ} {before rows : List ℕ} (d : Exchanging k at before rows) (small : k < 6) (h : at < 64) where
  is_half : half k ≡ 2 ^ k
  is_half = shifted 64 k (omega arith)

  -- the block at `at` has room
  room : (0 < half k) × (at + 2 * half k ≤ 64)
  room = let e = is_half in (omega (arith, pow_pos k), omega (arith, block_fits at k small d.block h))

  step : {now : List ℕ} → RowsExchanged (half k) (get_or ZERO_COLUMNS k 0) at (at + half k) rows now → Exchanging k (at + 2 * half k) before now
  step {now} = digit_step d (get_or ZERO_COLUMNS k 0) (half k) now (masks k small) is_half small

pub loop-at-init : goal.loop-at-init
loop-at-init c = (omega arith, digit_start c.args.k c.args.rows.now c.told-rows)

pub exchange_rows-requires : goal.exchange_rows-requires
exchange_rows-requires c = room c.loop-at.invariant.1 c.requires c.loop-at-test.true

pub loop-at-preserved : goal.loop-at-preserved
loop-at-preserved c =
    let d = c.loop-at.invariant.1 in
    ((room d c.requires c.loop-at-test.true).1, step d c.requires c.loop-at-test.true c.exchange_rows.ensures)

pub returns : goal.returns
returns c = digit_end c.loop-at.invariant.1 c.loop-at-test.false

pub returns-2 : goal.returns-2
returns-2 c =
    let d = c.loop-at.invariant.1 in
    let r = room d c.requires c.loop-at-test.true in
    digit_end (step d c.requires c.loop-at-test.true c.exchange_rows.ensures) (omega arith)
