-- What a row covers, by the distance from its input address.
-- Assumes nothing.
use mathlib.Core.Path.{◌≡◌}
use mathlib.Core.Bool.{true, false}
use Prim.Native.Nat.{ℕ, ◌+◌, ◌-◌, ◌^◌, ◌≤◌, ◌<◌}
use native.Mathlib.Omega.{arith}
use lib.Dec.{leb, ltb}
use borrow.Author.Tests.{ltb-true, lt-ltb, leb-true, le-leb, lt-leb}
use Rattle.words.proofs.Truth.{same_test, and_true, left, right}
use Rattle.rows.specs.declared.Row.{Row}
use Rattle.rows.specs.Rows.{span, covers}

module _ (row : Row) (a : ℕ) where
  pub outside : a < row.w2 → false ≡ covers row a
  unfolding covers
  outside h = rw (lt-leb row.w2 a h)

  pub inside : row.w2 ≤ a → ltb (a - row.w2) (2 ^ span row) ≡ covers row a
  unfolding covers
  inside h =
      rw (le-leb row.w2 a h)
      (same_test (ltb (a - row.w2) (2 ^ span row)) (ltb a (row.w2 + 2 ^ span row))
      (λ e. lt-ltb a (row.w2 + 2 ^ span row) (omega (arith, ltb-true (a - row.w2) (2 ^ span row) e)))
      (λ e. lt-ltb (a - row.w2) (2 ^ span row) (omega (arith, ltb-true a (row.w2 + 2 ^ span row) e))))

  -- the plain reading
  pub covers-means : covers row a ≡ true → (row.w2 ≤ a) × (a < row.w2 + 2 ^ span row)
  unfolding covers
  covers-means e =
      let low = leb row.w2 a in
      let high = ltb a (row.w2 + 2 ^ span row) in
      (leb-true row.w2 a (left low high e), ltb-true a (row.w2 + 2 ^ span row) (right low high e))

  pub means-covers : row.w2 ≤ a → a < row.w2 + 2 ^ span row → covers row a ≡ true
  unfolding covers
  means-covers l h = and_true (le-leb row.w2 a l) (lt-ltb a (row.w2 + 2 ^ span row) h)
