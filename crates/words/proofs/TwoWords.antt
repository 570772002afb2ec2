-- Two words as one number: the bits below 64 are the low word's, those from 64 on the high word's.
-- Assumes nothing.
use mathlib.Core.Path.{◌≡◌, sym, ap, ◌∙◌}
use mathlib.Core.Bool.{Bool, ◌&&◌}
use mathlib.Core.Logic.{⊎_elim}
use Prim.Native.Nat.{ℕ, ◌+◌, ◌-◌, ◌*◌, ◌/◌, ◌%◌, ◌^◌, ◌≤◌, ◌<◌}
use native.Mathlib.Omega.{arith}
use lib.Dec.{eqb}
use lib.Pow.{high, low, field, shr-shr, mod-mod-pow}
use Rattle.words.specs.Parts.{part, is_set, joined}
use Rattle.words.specs.Ranges.{set_only}
use Rattle.words.proofs.Truth.{same_test, left, right, and_true, less_or_not}
use Rattle.words.proofs.Masks.{reads, read_back}

-- a field of d bits from l on, where it ends at 64 or below, goes by the remainder modulo 2 ^ 64
below : (d l x : ℕ) → d + l ≤ 64 → x / 2 ^ l % 2 ^ d ≡ x % 2 ^ 64 / 2 ^ l % 2 ^ d
below d l x h =
    let sum : (64 - (d + l)) + (d + l) ≡ 64 = omega arith in
    sym (field x d l) ∙ ap (λ (y : ℕ). y / 2 ^ l) (sym (mod-mod-pow x (64 - (d + l)) (d + l)) ∙ ap (λ (k : ℕ). x % 2 ^ k % 2 ^ (d + l)) sum)
    ∙ field (x % 2 ^ 64) d l

module _ (lo hi : ℕ) (fits : lo < 2 ^ 64) where
  low_word : joined lo hi % 2 ^ 64 ≡ lo
  unfolding joined
  low_word = low hi 64 fits

  high_word : (l : ℕ) → joined lo hi / 2 ^ (64 + l) ≡ hi / 2 ^ l
  unfolding joined
  high_word l = sym (shr-shr (hi * 2 ^ 64 + lo) 64 l) ∙ ap (λ (x : ℕ). x / 2 ^ l) (high hi 64 fits)

  pub part_low : (h l : ℕ) → l ≤ h → h < 64 → part h l (joined lo hi) ≡ part h l lo
  unfolding part
  part_low h l ordered small =
      below (h + 1 - l) l (joined lo hi) (omega arith) ∙ ap (λ (x : ℕ). x / 2 ^ l % 2 ^ (h + 1 - l)) low_word

  pub part-high : (h l : ℕ) → 64 ≤ l → l ≤ h → part h l (joined lo hi) ≡ part (h - 64) (l - 64) hi
  unfolding part
  part-high h l from ordered =
      let place : 64 + (l - 64) ≡ l = omega arith in
      let width : h + 1 - l ≡ h - 64 + 1 - (l - 64) = omega arith in
      ap (λ (k : ℕ). joined lo hi / 2 ^ k % 2 ^ (h + 1 - l)) (sym place) ∙ ap (λ (x : ℕ). x % 2 ^ (h + 1 - l)) (high_word (l - 64))
      ∙ ap (λ (k : ℕ). hi / 2 ^ (l - 64) % 2 ^ k) width

  pub set-low : (i : ℕ) → i < 64 → is_set i (joined lo hi) ≡ is_set i lo
  unfolding is_set
  set-low i small = ap (λ (x : ℕ). eqb x 1) (below 1 i (joined lo hi) (omega arith) ∙ ap (λ (x : ℕ). x / 2 ^ i % 2) low_word)

  pub set-high : (i : ℕ) → is_set (64 + i) (joined lo hi) ≡ is_set i hi
  unfolding is_set
  set-high i = ap (λ (x : ℕ). eqb (x % 2) 1) (high_word i)

  -- a test of the set bits of both, word by word
  pub set-only : (p : ℕ → Bool) → set_only 128 p (joined lo hi) ≡ (set_only 64 p lo && set_only 64 (λ i. p (64 + i)) hi)
  set-only p =
      same_test (set_only 128 p (joined lo hi)) (set_only 64 p lo && set_only 64 (λ i. p (64 + i)) hi)
      (λ e. and_true
      (read_back p 64 lo (λ i h s. reads p 128 (joined lo hi) e i (omega arith) (set-low i h ∙ s)))
      (read_back (λ i. p (64 + i)) 64 hi (λ i h s. reads p 128 (joined lo hi) e (64 + i) (omega arith) (set-high i ∙ s))))
      (λ e. read_back p 128 (joined lo hi) (λ i h s. ⊎_elim
      (λ l. reads p 64 lo (left (set_only 64 p lo) (set_only 64 (λ k. p (64 + k)) hi) e) i l (sym (set-low i l) ∙ s))
      (λ g. let place : 64 + (i - 64) ≡ i = omega arith in
      rw place at
      (reads (λ k. p (64 + k)) 64 hi (right (set_only 64 p lo) (set_only 64 (λ k. p (64 + k)) hi) e) (i - 64) (omega arith)
      (sym (set-high (i - 64)) ∙ rw place s)))
      (less_or_not i 64)))
