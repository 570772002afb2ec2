-- The two stores of a fill, and what is reported, by the allowance.
-- Assumes nothing.
use mathlib.Core.Path.{◌≡◌}
use Prim.Native.Nat.{ℕ, zero, suc, ◌≤◌, ◌<◌}
use native.Mathlib.Omega.{arith}
use borrow.Author.Tests.{lt-ltb, le-ltb}
use Rattle.fills.specs.declared.FillEnd.TheVariants.{Filled, Cut}
use Rattle.region_fills.specs.Fills.{report}

-- what holds at each of the two places holds of every place
pub both-places : (P : ℕ → Type 0) → P 0 → P 1 → (k : ℕ) → k < 2 → P k
both-places P a b zero h = a
both-places P a b (suc zero) h = b
both-places P a b (suc (suc k)) h = absurd (omega arith)

pub report-cut : (k : ℕ) → k < 2 → report k ≡ record { end = Cut; stores = k }
unfolding report
report-cut k h = rw (lt-ltb k 2 h)

pub report-filled : (k : ℕ) → 2 ≤ k → report k ≡ record { end = Filled; stores = 2 }
unfolding report
report-filled k h = rw (le-ltb k 2 h)
