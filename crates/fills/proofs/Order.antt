-- What a fill reports, by the allowance.
-- Assumes nothing.
use mathlib.Core.Path.{◌≡◌}
use Prim.Native.Nat.{ℕ, ◌≤◌, ◌<◌}
use native.Mathlib.Omega.{arith}
use borrow.Author.Tests.{lt-ltb, le-ltb}
use Rattle.std.specs.Prelude.{min}
use Rattle.fills.specs.declared.FillEnd.TheVariants.{Filled, Cut}
use Rattle.fills.specs.Fills.{report, report_of}

pub report-cut : (k : ℕ) → k < 4 → report k ≡ record { end = Cut; stores = k }
unfolding report
report-cut k h = rw (lt-ltb k 4 h)

pub report-filled : (k : ℕ) → 4 ≤ k → report k ≡ record { end = Filled; stores = 4 }
unfolding report
report-filled k h = rw (le-ltb k 4 h)

-- of n stores, by how many were made
module _ (made n k : ℕ) (counted : made ≡ min k n) where
  pub reports-cut : made < n → ◌≡◌ (record { end = Cut; stores = made }) (report_of n k)
  unfolding report_of
  reports-cut h = let e : made ≡ k = omega (arith, counted) in rw (e, lt-ltb k n (omega (arith, counted, h)))

  pub reports-filled : n ≤ made → ◌≡◌ (record { end = Filled; stores = made }) (report_of n k)
  unfolding report_of
  reports-filled h = let e : made ≡ n = omega (arith, counted) in rw (e, le-ltb k n (omega (arith, counted, h)))
