-- The bits of a word after `put`, one by one, and of several fields put; `put` into two words that are one number.
-- Assumes nothing.
use mathlib.Core.Path.{◌≡◌, refl, sym, ap, ap₂, ◌∙◌}
use mathlib.Core.Bool.{Bool, true, false, ◌&&◌, ◌||◌}
use mathlib.Core.List.{List, [], ◌∷◌, map}
use mathlib.Core.Logic.{◌⊎◌, inl, inr, ⊎_elim}
use Prim.Native.Nat.{ℕ, ◌+◌, ◌-◌, ◌/◌, ◌%◌, ◌^◌, ◌≤◌, ◌<◌}
use native.Mathlib.Omega.{arith}
use lib.Arith.{digits_lt}
use lib.Dec.{T, eqb, leb, ltb, leb→le}
use lib.Pow.{shr-shr, field, mod-mod-pow}
use borrow.Author.Tests.{leb-true, leb-false, le-leb, lt-leb, lt-ltb}
use Rattle.words.specs.Choice.{pick}
use Rattle.words.specs.Parts.{part, is_set, put, joined}
use Rattle.words.specs.Ranges.{Range, bits, get, set, Field, puts, named}
use Rattle.words.proofs.Truth.{truth, and_true, or_left, or_right, same_test, less_or_not, T-left, T-right}
use Rattle.words.proofs.Parts.{ordered, apart, keeps, put_same, put-lt, put-within}
use Rattle.words.proofs.Masks.{same_bits}
use Rattle.words.proofs.TwoWords.{set-low, set-high}

-- bit i lies in the range
abbrev pub inside : Range → ℕ → Bool
inside (bits h l) i = leb l i && leb i h

-- bit k of a remainder modulo 2 ^ d, above which k is not
bit_below : (d k x : ℕ) → k < d → x % 2 ^ d / 2 ^ k % 2 ≡ x / 2 ^ k % 2
bit_below d k x h =
    let sum : (d - k - 1 + 1) + k ≡ d = omega arith in
    ap (λ (n : ℕ). x % 2 ^ n / 2 ^ k % 2) (sym sum) ∙ ap (λ (y : ℕ). y % 2) (field x (d - k - 1 + 1) k) ∙ mod-mod-pow (x / 2 ^ k) (d - k - 1) 1

module _ (h l : ℕ) (o : l ≤ h) (v w i : ℕ) where
  abbrev p : ℕ
  p = put h l v w

  bit_in : l ≤ i → i ≤ h → p / 2 ^ i % 2 ≡ v / 2 ^ (i - l) % 2
  unfolding part
  bit_in a b =
      let sum : l + (i - l) ≡ i = omega arith in
      let d = h + 1 - l in
      let small : i - l < d = omega arith in
      ap (λ (n : ℕ). p / 2 ^ n % 2) (sym sum) ∙ ap (λ (y : ℕ). y % 2) (sym (shr-shr p l (i - l)))
      ∙ sym (bit_below d (i - l) (p / 2 ^ l) small) ∙ ap (λ (y : ℕ). y / 2 ^ (i - l) % 2) (put_same h l o v w)
      ∙ bit_below d (i - l) v small

  bit-out : (i < l) ⊎ (h < i) → p / 2 ^ i % 2 ≡ w / 2 ^ i % 2
  unfolding part
  bit-out side =
      let one : i + 1 - i ≡ 1 = omega arith in
      let clear : (ltb h i || ltb i l) ≡ true = ⊎_elim (λ a. or_right (ltb h i) (ltb i l) (lt-ltb i l a)) (λ b. or_left (ltb h i) (ltb i l) (lt-ltb h i b)) side in
      let far : T (apart (bits h l) (bits i i)) = truth (and_true (and_true (le-leb l h o) (le-leb i i (omega arith))) clear) in
      rw one at (keeps (bits h l) v w (bits i i) far)

  -- in the range it is the number's, else the word's
  pub put-bit : is_set i p ≡ pick (inside (bits h l) i) (is_set (i - l) v) (is_set i w)
  unfolding is_set
  put-bit = by_tests (leb l i) (leb i h) refl refl
    where
      by_tests : (a b : Bool) → leb l i ≡ a → leb i h ≡ b → eqb (p / 2 ^ i % 2) 1 ≡ pick (a && b) (eqb (v / 2 ^ (i - l) % 2) 1) (eqb (w / 2 ^ i % 2) 1)
      by_tests true true e q = ap (λ (x : ℕ). eqb x 1) (bit_in (leb-true l i e) (leb-true i h q))
      by_tests true false e q = ap (λ (x : ℕ). eqb x 1) (bit-out (inr (leb-false i h q)))
      by_tests false b e q = ap (λ (x : ℕ). eqb x 1) (bit-out (inl (leb-false l i e)))

-- bit i of a number, as a bit of its part
part-bit : (h l c i : ℕ) → l ≤ i → i ≤ h → is_set (i - l) (part h l c) ≡ is_set i c
unfolding is_set part
part-bit h l c i a b =
    let sum : l + (i - l) ≡ i = omega arith in
    ap (λ (x : ℕ). eqb x 1)
    (bit_below (h + 1 - l) (i - l) (c / 2 ^ l) (omega arith) ∙ ap (λ (y : ℕ). y % 2) (shr-shr c l (i - l)) ∙ ap (λ (n : ℕ). c / 2 ^ n % 2) sum)

-- a part of c, put where it stands in c
same-part : (r : Range) (c w i : ℕ) → T (ordered r) → is_set i (set r (get r c) w) ≡ pick (inside r i) (is_set i c) (is_set i w)
same-part (bits h l) c w i o = put-bit h l (leb→le l h o) (part h l c) w i ∙ by_tests (leb l i) (leb i h) refl refl
  where
    by_tests : (a b : Bool) → leb l i ≡ a → leb i h ≡ b → pick (a && b) (is_set (i - l) (part h l c)) (is_set i w) ≡ pick (a && b) (is_set i c) (is_set i w)
    by_tests true true e q = part-bit h l c i (leb-true l i e) (leb-true i h q)
    by_tests true false e q = refl
    by_tests false b e q = refl

-- the parts of c in some ranges, each where it stands
abbrev pub copies : List Range → ℕ → List Field
copies rs c = map (λ (r : Range). record { at = r; value = get r c }) rs

abbrev pub all_ordered : List Range → Bool
all_ordered [] = true
all_ordered (r ∷ rs) = ordered r && all_ordered rs

pub copied : (rs : List Range) (c w i : ℕ) → T (all_ordered rs) → is_set i (puts (copies rs c) w) ≡ pick (named rs i) (is_set i c) (is_set i w)
copied [] c w i t = refl
copied (bits h l ∷ rs) c w i t =
    copied rs c (set (bits h l) (part h l c) w) i (T-right (leb l h) (all_ordered rs) t)
    ∙ ap (λ (b : Bool). pick (named rs i) (is_set i c) b) (same-part (bits h l) c w i (T-left (leb l h) (all_ordered rs) t))
    ∙ either-range (inside (bits h l) i) (named rs i) (is_set i c) (is_set i w)
  where
    either-range : (a b x y : Bool) → pick b x (pick a x y) ≡ pick (a || b) x y
    either-range true true x y = refl
    either-range true false x y = refl
    either-range false b x y = refl

-- two words as one number
pub joined_lt : (lo hi : ℕ) → lo < 2 ^ 64 → hi < 2 ^ 64 → joined lo hi < 2 ^ 128
unfolding joined
joined_lt lo hi p q = digits_lt q p

outside : (h l i : ℕ) → (i < l) ⊎ (h < i) → inside (bits h l) i ≡ false
outside h l i side = ⊎_elim (λ a. rw (lt-leb l i a)) (λ b. not-both (leb l i) (leb i h) (lt-leb i h b)) side
  where
    not-both : (a b : Bool) → b ≡ false → (a && b) ≡ false
    not-both true b e = e
    not-both false b e = refl

module _ (lo hi h l v : ℕ) (p : lo < 2 ^ 64) (q : hi < 2 ^ 64) (o : l ≤ h) where
  -- in the low word, and in the high one
  pub put_low : h < 64 → put h l v (joined lo hi) ≡ joined (put h l v lo) hi
  put_low small =
      let fits = put-lt h l o v lo p small in
      same_bits 128 (put h l v (joined lo hi)) (joined (put h l v lo) hi)
      (put-within h l o v (joined lo hi) 128 (joined_lt lo hi p q) (omega arith))
      (joined_lt (put h l v lo) hi fits q)
      (λ i below. put-bit h l o v (joined lo hi) i ∙ ⊎_elim
      (λ a. ap (λ (b : Bool). pick (inside (bits h l) i) (is_set (i - l) v) b) (set-low lo hi p i a) ∙ sym (put-bit h l o v lo i) ∙ sym (set-low (put h l v lo) hi fits i a))
      (λ b. let place : 64 + (i - 64) ≡ i = omega arith in
      rw (outside h l i (inr (omega arith)))
      (rw place at (set-high lo hi p (i - 64) ∙ sym (set-high (put h l v lo) hi fits (i - 64)))))
      (less_or_not i 64))

  pub put-high : 64 ≤ l → h < 128 → put h l v (joined lo hi) ≡ joined lo (put (h - 64) (l - 64) v hi)
  put-high from small =
      let o' : l - 64 ≤ h - 64 = omega arith in
      let fits = put-lt (h - 64) (l - 64) o' v hi q (omega arith) in
      same_bits 128 (put h l v (joined lo hi)) (joined lo (put (h - 64) (l - 64) v hi))
      (put-within h l o v (joined lo hi) 128 (joined_lt lo hi p q) small)
      (joined_lt lo (put (h - 64) (l - 64) v hi) p fits)
      (λ i below. put-bit h l o v (joined lo hi) i ∙ ⊎_elim
      (λ a. rw (outside h l i (inl (omega arith))) (set-low lo hi p i a ∙ sym (set-low lo (put (h - 64) (l - 64) v hi) p i a)))
      (λ b. let place : 64 + (i - 64) ≡ i = omega arith in
      let less : i - 64 - (l - 64) ≡ i - l = omega arith in
      let lower : inside (bits h l) i ≡ inside (bits (h - 64) (l - 64)) (i - 64) = moved i b in
      rw (lower, ← less)
      (ap (λ (x : Bool). pick (inside (bits (h - 64) (l - 64)) (i - 64)) (is_set (i - 64 - (l - 64)) v) x) (rw place at (set-high lo hi p (i - 64)))
      ∙ sym (put-bit (h - 64) (l - 64) o' v hi (i - 64)) ∙ rw place at (sym (set-high lo (put (h - 64) (l - 64) v hi) p (i - 64)))))
      (less_or_not i 64))
    where
      moved : (i : ℕ) → 64 ≤ i → inside (bits h l) i ≡ inside (bits (h - 64) (l - 64)) (i - 64)
      moved i b =
          ap₂ ◌&&◌
          (same_test (leb l i) (leb (l - 64) (i - 64)) (λ e. le-leb (l - 64) (i - 64) (omega (arith, leb-true l i e))) (λ e. le-leb l i (omega (arith, leb-true (l - 64) (i - 64) e))))
          (same_test (leb i h) (leb (i - 64) (h - 64)) (λ e. le-leb (i - 64) (h - 64) (omega (arith, leb-true i h e))) (λ e. le-leb i h (omega (arith, leb-true (i - 64) (h - 64) e))))
