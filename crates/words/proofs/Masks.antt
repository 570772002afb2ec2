-- A mask tests by `w & mask == w` that a word sets none but the mask's bits.
-- Assumes nothing.
use mathlib.Core.Path.{◌≡◌, refl, sym, ap, ap₂, ◌∙◌}
use mathlib.Core.Bool.{Bool, true, false, not, ◌||◌}
use Prim.Native.Nat.{ℕ, zero, suc, ◌+◌, ◌*◌, ◌/◌, ◌%◌, ◌^◌, ◌<◌, min}
use native.Mathlib.Nat.{mod-lt, div-one, div-div-eq-div-mul, div-lt_iff_lt-mul, pow-suc, mul_comm, div-add-mod'}
use native.Mathlib.Omega.{arith}
use lib.Arith.{lt-one}
use lib.Bits.{bit_and, and_step, and_comm, and_shr, and_mod, and_le_r}
use lib.Dec.{eqb}
use borrow.Author.Tests.{eqb-true, eq-eqb}
use Rattle.words.specs.Choice.{pick}
use Rattle.words.specs.Parts.{is_set}
use Rattle.words.specs.Ranges.{all, set_only}
use Rattle.words.proofs.Truth.{clash, same_test, then_true, true_then}
use Rattle.words.proofs.Table.{all-at, at_all, fails_somewhere}

-- the bits of w lie under those of m
abbrev Under : ℕ → ℕ → ℕ → Type 0
Under n w m = (i : ℕ) → i < n → is_set i w ≡ true → is_set i m ≡ true

two_pos : 0 < 2
two_pos = omega arith

under_of : (n w m : ℕ) → bit_and w m ≡ w → Under n w m
unfolding is_set
under_of n w m e i h s =
    let low : w / 2 ^ i % 2 ≡ bit_and (w / 2 ^ i % 2) (m / 2 ^ i % 2) =
    ap (λ (x : ℕ). x / 2 ^ i % 2) (sym e) ∙ ap (λ (x : ℕ). x % 2) (and_shr w m i) ∙ and_mod (w / 2 ^ i) (m / 2 ^ i) 1 in
    eq-eqb (m / 2 ^ i % 2) 1
    (omega (arith, eqb-true (w / 2 ^ i % 2) 1 s, and_le_r (w / 2 ^ i % 2) (m / 2 ^ i % 2), mod-lt (m / 2 ^ i) two_pos))

least : (a b : ℕ) → a < 2 → (a ≡ 1 → b ≡ 1) → min a b ≡ a
least zero b h f = omega arith
least (suc zero) b h f = let e : b ≡ 1 = f refl in omega arith
least (suc (suc a)) b h f = absurd (omega arith)

halved : (w i : ℕ) → w / 2 / 2 ^ i % 2 ≡ w / 2 ^ suc i % 2
halved w i = ap (λ (x : ℕ). x % 2) (div-div-eq-div-mul w 2 (2 ^ i) ∙ ap (λ (x : ℕ). w / x) (mul_comm 2 (2 ^ i) ∙ sym (pow-suc 2 i)))

of_under : (n w m : ℕ) → w < 2 ^ n → Under n w m → bit_and w m ≡ w
unfolding is_set
of_under zero w m h f = ap (λ (x : ℕ). bit_and x m) (lt-one h) ∙ sym (lt-one h)
of_under (suc n) w m h f =
    let half : w / 2 < 2 ^ n = (div-lt_iff_lt-mul two_pos).1 (rw pow-suc at h) in
    let rest : bit_and (w / 2) (m / 2) ≡ w / 2 =
    of_under n (w / 2) (m / 2) half (λ i l s. rw (halved m i) (f (suc i) (omega arith) (rw (halved w i) at s))) in
    let first : w % 2 ≡ 1 → m % 2 ≡ 1 =
    λ e. ap (λ (x : ℕ). x % 2) (sym (div-one m)) ∙ eqb-true (m / 1 % 2) 1 (f 0 (omega arith) (eq-eqb (w / 1 % 2) 1 (ap (λ (x : ℕ). x % 2) (div-one w) ∙ e))) in
    and_step w m ∙ ap₂ (λ (x y : ℕ). x * 2 + y) rest (least (w % 2) (m % 2) (mod-lt w two_pos) first) ∙ div-add-mod' w 2

-- two numbers with the same bits are one
pub same_bits : (n a b : ℕ) → a < 2 ^ n → b < 2 ^ n → ((i : ℕ) → i < n → is_set i a ≡ is_set i b) → a ≡ b
same_bits n a b p q f =
    sym (of_under n a b p (λ i h s. sym (f i h) ∙ s)) ∙ and_comm a b ∙ of_under n b a q (λ i h s. f i h ∙ s)

-- the set bits of the mask m are those that pass the test
abbrev pub exact : (ℕ → Bool) → ℕ → Bool
exact p m = all 64 (λ i. pick (is_set i m) (p i) (not (p i)))

agree : (a b : Bool) → pick a b (not b) ≡ true → a ≡ b
agree true b e = sym e
agree false true e = e
agree false false e = refl

was_set : (a b : Bool) → (not a || b) ≡ false → a ≡ true
was_set true b e = refl
was_set false b e = clash refl e

failed : (a b : Bool) → (not a || b) ≡ false → b ≡ false
failed true b e = e
failed false b e = clash refl e

module _ (p : ℕ → Bool) where
  abbrev lies : ℕ → ℕ → Bool
  lies w i = not (is_set i w) || p i

  -- the plain reading: each set bit passes
  pub reads : (n w : ℕ) → set_only n p w ≡ true → (i : ℕ) → i < n → is_set i w ≡ true → p i ≡ true
  unfolding set_only
  reads n w e i h s = then_true (all-at n (lies w) e i h) s

  pub read_back : (n w : ℕ) → ((i : ℕ) → i < n → is_set i w ≡ true → p i ≡ true) → set_only n p w ≡ true
  unfolding set_only
  read_back n w f = at_all n (lies w) (λ i h. true_then (is_set i w) (f i h))

  -- a set bit that does not pass, where not each does
  pub record Spoilt (n w : ℕ) : Type 0 where
    pub bit : ℕ
    pub within : bit < n
    pub bit_set : is_set bit w ≡ true
    pub fails : p bit ≡ false

  pub spoilt : (n w : ℕ) → set_only n p w ≡ false → Spoilt n w
  unfolding set_only
  spoilt n w e =
      let at = fails_somewhere n (lies w) e in
      record {
        bit = at.at;
        within = at.below;
        bit_set = was_set (is_set at.at w) (p at.at) at.fails;
        fails = failed (is_set at.at w) (p at.at) at.fails;
      }

  pub masked : (m w : ℕ) → exact p m ≡ true → w < 2 ^ 64 → eqb (bit_and w m) w ≡ set_only 64 p w
  masked m w e fit =
      let has : (i : ℕ) → i < 64 → is_set i m ≡ p i =
      λ i h. agree (is_set i m) (p i) (all-at 64 (λ k. pick (is_set k m) (p k) (not (p k))) e i h) in
      same_test (eqb (bit_and w m) w) (set_only 64 p w)
      (λ t. read_back 64 w (λ i h s. sym (has i h) ∙ under_of 64 w m (eqb-true (bit_and w m) w t) i h s))
      (λ o. eq-eqb (bit_and w m) w (of_under 64 w m fit (λ i h s. has i h ∙ reads 64 w o i h s)))
