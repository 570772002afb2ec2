-- What it means that two spans overlap, and how their distance tells it, so that no end is formed.
-- Assumes nothing.
use mathlib.Core.Path.{◌≡◌}
use mathlib.Core.Bool.{true}
use Prim.Native.Nat.{ℕ, ◌+◌, ◌-◌, ◌≤◌, ◌<◌, max}
use native.Mathlib.Omega.{arith}
use lib.Dec.{ltb}
use borrow.Author.Tests.{ltb-true, lt-ltb}
use Rattle.words.specs.Spans.{overlap}
use Rattle.words.proofs.Truth.{left, right, and_true, same_test}

module _ (a n b k : ℕ) where
  -- the number x lies in both
  pub record Shared (x : ℕ) : Type 0 where
    pub from_first : a ≤ x
    pub to-first : x < a + n
    pub from_second : b ≤ x
    pub to-second : x < b + k

  pub first-ends-later : overlap a n b k ≡ true → b < a + n
  unfolding overlap
  first-ends-later e = ltb-true b (a + n) (right (ltb a (b + k)) (ltb b (a + n)) e)

  pub second-ends-later : overlap a n b k ≡ true → a < b + k
  unfolding overlap
  second-ends-later e = ltb-true a (b + k) (left (ltb a (b + k)) (ltb b (a + n)) e)

  pub is-overlap : a < b + k → b < a + n → overlap a n b k ≡ true
  unfolding overlap
  is-overlap p q = and_true (lt-ltb a (b + k) p) (lt-ltb b (a + n) q)

  -- any number in both makes them overlap
  pub shared-overlap : (x : ℕ) → Shared x → overlap a n b k ≡ true
  shared-overlap x s =
      is-overlap (omega (arith, s.from_first, s.to-second)) (omega (arith, s.from_second, s.to-first))

  -- and the later beginning is one
  pub overlap-shared : 0 < n → 0 < k → overlap a n b k ≡ true → Shared (max a b)
  overlap-shared p q e =
      let f = first-ends-later e in
      let s = second-ends-later e in
      record { from_first = omega arith; to-first = omega arith; from_second = omega arith; to-second = omega arith }

  -- by the distance of the beginnings
  pub before : a < b → 0 < k → ltb (b - a) n ≡ overlap a n b k
  before h p =
      same_test (ltb (b - a) n) (overlap a n b k)
      (λ e. is-overlap (omega arith) (omega (arith, ltb-true (b - a) n e)))
      (λ e. lt-ltb (b - a) n (omega (arith, first-ends-later e)))

  pub behind : b ≤ a → 0 < n → ltb (a - b) k ≡ overlap a n b k
  behind h p =
      same_test (ltb (a - b) k) (overlap a n b k)
      (λ e. is-overlap (omega (arith, ltb-true (a - b) k e)) (omega arith))
      (λ e. lt-ltb (a - b) k (omega (arith, second-ends-later e)))

-- which span is named first makes no difference
pub either_first : (a n b k : ℕ) → overlap a n b k ≡ overlap b k a n
either_first a n b k =
    same_test (overlap a n b k) (overlap b k a n)
    (λ e. is-overlap b k a n (first-ends-later a n b k e) (second-ends-later a n b k e))
    (λ e. is-overlap a n b k (first-ends-later b k a n e) (second-ends-later b k a n e))
