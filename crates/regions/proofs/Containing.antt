-- What it means that one span lies in another, and how the distance of their beginnings tells it, so that no end is formed.
-- Assumes nothing.
use mathlib.Core.Path.{◌≡◌, sym, ap, ◌∙◌}
use mathlib.Core.Bool.{true, false}
use Prim.Native.Nat.{ℕ, ◌+◌, ◌-◌, ◌*◌, ◌/◌, ◌%◌, ◌^◌, ◌≤◌, ◌<◌}
use native.Mathlib.Nat.{zero-mod, add-mul, one-mul, mul_assoc, mul-le-mul_right, lt_of_mul-lt-mul_right}
use native.Mathlib.Omega.{arith}
use lib.Dec.{leb}
use lib.Pow.{pow_pos, pow-add, split}
use borrow.Author.Tests.{leb-true, le-leb}
use Rattle.words.proofs.Truth.{left, right, and_true, never, same_test}
use Rattle.regions.specs.Scopes.{lies_in}

module _ (a n b k : ℕ) where
  pub begins-in : lies_in a n b k ≡ true → b ≤ a
  unfolding lies_in
  begins-in e = leb-true b a (left (leb b a) (leb (a + n) (b + k)) e)

  pub ends-in : lies_in a n b k ≡ true → a + n ≤ b + k
  unfolding lies_in
  ends-in e = leb-true (a + n) (b + k) (right (leb b a) (leb (a + n) (b + k)) e)

  pub is-in : b ≤ a → a + n ≤ b + k → lies_in a n b k ≡ true
  unfolding lies_in
  is-in p q = and_true (le-leb b a p) (le-leb (a + n) (b + k) q)

  -- a longer one lies in no shorter one
  pub not-longer : lies_in a n b k ≡ true → n ≤ k
  not-longer e = omega (arith, begins-in e, ends-in e)

  pub longer : k < n → false ≡ lies_in a n b k
  longer h = sym (never (lies_in a n b k) (λ e. omega (arith, not-longer e)))

  pub before : a < b → false ≡ lies_in a n b k
  before h = sym (never (lies_in a n b k) (λ e. omega (arith, begins-in e)))

  pub past : 0 < n → b ≤ a → k ≤ a - b → false ≡ lies_in a n b k
  past some h l = sym (never (lies_in a n b k) (λ e. omega (arith, ends-in e)))

  pub behind : b ≤ a → n ≤ k → leb (a - b) (k - n) ≡ lies_in a n b k
  behind h l =
      same_test (leb (a - b) (k - n)) (lies_in a n b k)
      (λ e. is-in h (omega (arith, leb-true (a - b) (k - n) e)))
      (λ e. le-leb (a - b) (k - n) (omega (arith, ends-in e)))

  -- byte by byte: each number of the first is one of the second
  pub each_in : lies_in a n b k ≡ true → (x : ℕ) → a ≤ x → x < a + n → (b ≤ x) × (x < b + k)
  each_in e x l h = (omega (arith, begins-in e), omega (arith, ends-in e))

  pub in-each : 0 < n → ((x : ℕ) → a ≤ x → x < a + n → (b ≤ x) × (x < b + k)) → lies_in a n b k ≡ true
  in-each some each =
      let first = each a (omega arith) (omega arith) in
      let last = each (a + n - 1) (omega arith) (omega arith) in
      is-in first.0 (omega (arith, last.1))

-- In steps of A: if a number lies in the one step from a on and in those from b on, the first lies in the others.
scaled : (A q r s x : ℕ) → q * A ≤ x → x < q * A + A → r * A ≤ x → x < r * A + s * A → (r * A ≤ q * A) × (q * A + A ≤ r * A + s * A)
scaled A q r s x a b c d =
    let one : (q + 1) * A ≡ q * A + A = add-mul q 1 A ∙ ap (λ (n : ℕ). q * A + n) (one-mul A) in
    let sum : (r + s) * A ≡ r * A + s * A = add-mul r s A in
    let low : r < q + 1 = lt_of_mul-lt-mul_right A (omega arith) in
    let high : q < r + s = lt_of_mul-lt-mul_right A (omega arith) in
    let over : (q + 1) * A ≤ (r + s) * A = mul-le-mul_right A (omega arith) in
    (mul-le-mul_right A (omega arith), omega arith)

-- Spans of powers of two that begin at multiples of their lengths: a shorter one lies in a longer one, or shares nothing with it.
module _ (i j a b : ℕ) (shorter : i ≤ j) (at_a : a % 2 ^ i ≡ 0) (at_b : b % 2 ^ j ≡ 0) where
  pub never-partly : (x : ℕ) → a ≤ x → x < a + 2 ^ i → b ≤ x → x < b + 2 ^ j → lies_in a (2 ^ i) b (2 ^ j) ≡ true
  never-partly x a-from a-to b-from b-to =
      let A = 2 ^ i in
      let D = 2 ^ (j - i) in
      let q = a / A in
      let p = b / 2 ^ j in
      let length : 2 ^ j ≡ D * A = ap (λ (n : ℕ). 2 ^ n) (let e : j ≡ (j - i) + i = omega arith in e) ∙ pow-add 2 (j - i) i in
      let first : q * A ≡ a = omega (arith, split a i) in
      let whole : p * 2 ^ j ≡ b = omega (arith, split b j) in
      let second : p * D * A ≡ b = mul_assoc p D A ∙ ap (λ (n : ℕ). p * n) (sym length) ∙ whole in
      let both = scaled A q (p * D) D x (omega arith) (omega arith) (omega arith) (omega arith) in
      is-in a A b (2 ^ j) (omega (arith, both.0)) (omega (arith, both.1))

-- so one that begins below a larger power of two ends there at the latest
pub ends_below : (i j a : ℕ) → i ≤ j → a % 2 ^ i ≡ 0 → a < 2 ^ j → a + 2 ^ i ≤ 2 ^ j
ends_below i j a h e below =
    let all = never-partly i j a 0 h e (zero-mod (2 ^ j)) a (omega arith) (omega (arith, pow_pos i)) (omega arith) (omega arith) in
    omega (arith, ends-in a (2 ^ i) 0 (2 ^ j) all)
