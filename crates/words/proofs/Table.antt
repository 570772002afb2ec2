-- A rule at each place, from one test over all of them.
-- Assumes nothing.
use mathlib.Core.Path.{◌≡◌, refl}
use mathlib.Core.Bool.{Bool, true, false, ◌&&◌}
use mathlib.Core.List.{List, [], ◌∷◌}
use mathlib.Core.Logic.{⊎_elim}
use Prim.Native.Nat.{ℕ, zero, suc, ◌+◌, ◌<◌}
use native.Mathlib.Nat.{add-zero, add-suc, suc-add, zero-add, eq-or-lt_of_le, le_of_suc-le-suc, not-suc-le-zero}
use native.Mathlib.Omega.{arith}
use lib.Dec.{T}
use lib.ListN.{length, get_or}
use Rattle.words.specs.Ranges.{all}
use Rattle.words.proofs.Truth.{left, right, and_true, clash, passed}

-- numbers: a test that passes at each below n, and the other way round
pub all-at : (n : ℕ) (p : ℕ → Bool) → all n p ≡ true → (i : ℕ) → i < n → p i ≡ true
all-at zero p e i h = absurd (not-suc-le-zero h)
all-at (suc n) p e i h =
    ⊎_elim (λ s. rw s (left (p n) (all n p) e)) (λ l. all-at n p (right (p n) (all n p) e) i l) (eq-or-lt_of_le (le_of_suc-le-suc h))

pub at_all : (n : ℕ) (p : ℕ → Bool) → ((i : ℕ) → i < n → p i ≡ true) → all n p ≡ true
at_all zero p f = refl
at_all (suc n) p f = and_true (f n (omega arith)) (at_all n p (λ i h. f i (omega arith)))

-- a number below n at which a test fails, where it does not pass at each
pub record Failing (n : ℕ) (p : ℕ → Bool) : Type 0 where
  pub at : ℕ
  pub below : at < n
  pub fails : p at ≡ false

pub fails_somewhere : (n : ℕ) (p : ℕ → Bool) → all n p ≡ false → Failing n p
fails_somewhere zero p e = clash refl e
fails_somewhere (suc n) p e = by_test (p n) refl (fails_somewhere n p)
  where
    by_test : (b : Bool) → p n ≡ b → (all n p ≡ false → Failing n p) → Failing (suc n) p
    by_test false q lower = record { at = n; below = omega arith; fails = q }
    by_test true q lower = let r = lower (rw q at e) in record { at = r.at; below = omega (arith, r.below); fails = r.fails }

-- a table: each entry passes the rule of its place, the first standing at place i
abbrev pub obeys : {A : Type 0} → (ℕ → A → Bool) → ℕ → List A → Bool
obeys rule i [] = true
obeys rule i (x ∷ xs) = rule i x && obeys rule (suc i) xs

module _ {A : Type 0} (rule : ℕ → A → Bool) (d : A) where
  from_at : (xs : List A) (i : ℕ) → obeys rule i xs ≡ true → (k : ℕ) → k < length xs → rule (i + k) (get_or xs k d) ≡ true
  from_at [] i e k h = absurd (omega arith)
  from_at (x ∷ xs) i e zero h = rw add-zero (left (rule i x) (obeys rule (suc i) xs) e)
  from_at (x ∷ xs) i e (suc k) h =
      let below : k < length xs = omega arith in
      rw (add-suc, ← suc-add) (from_at xs (suc i) (right (rule i x) (obeys rule (suc i) xs) e) k below)

  pub entry : (xs : List A) → T (obeys rule 0 xs) → (k : ℕ) → k < length xs → rule k (get_or xs k d) ≡ true
  entry xs t k h = rw zero-add at (from_at xs 0 (passed t) k h)
