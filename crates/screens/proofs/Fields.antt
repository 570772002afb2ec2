-- What a mask of several fields leaves of a word: their numbers, each in its place.
-- Assumes nothing.
use Rattle.std.proofs.Common.{◌≡◌, ℕ, ◌+◌, ◌-◌, ◌*◌, ◌/◌, ◌%◌, ◌^◌, List, [], ◌∷◌, sym, ap, ◌∙◌, ap₂, mul_assoc, mul_comm, add-mul, add_comm, zero-mul, mul-one, div-one, arith, pow_pos, pow-add, shr-shr}
use native.Mathlib.Nat.{mod-mod}
use lib.Bits.{bit_and, and_shr, and_mod, and_mask, and_zero_r}
use lib.Pow.{split, shl-shr, high, low, ones_lt}

-- a field, from where the one below it ends: so many bits between, and so many of its own
pub record Field : Type 0 where
  pub skip : ℕ
  pub wide : ℕ

abbrev pub gap : ℕ → ℕ → Field
gap skip wide = record { skip = skip; wide = wide }

abbrev pub mask_of : List Field → ℕ
mask_of [] = 0
mask_of (f ∷ fs) = (mask_of fs * 2 ^ f.wide + (2 ^ f.wide - 1)) * 2 ^ f.skip

-- the numbers of a word's fields in their places, of those from bit p on
abbrev pub placed : ℕ → List Field → ℕ → ℕ
placed p [] w = 0
placed p (f ∷ fs) w = w / 2 ^ (p + f.skip) % 2 ^ f.wide * 2 ^ (p + f.skip) + placed (p + f.skip + f.wide) fs w

-- a mask, cut in two at bit k
cut : (k w m : ℕ) → bit_and w m ≡ bit_and (w / 2 ^ k) (m / 2 ^ k) * 2 ^ k + bit_and (w % 2 ^ k) (m % 2 ^ k)
cut k w m = sym (split (bit_and w m) k) ∙ ap₂ (λ (x y : ℕ). x * 2 ^ k + y) (and_shr w m k) (and_mod w m k)

above : (k w m : ℕ) → bit_and w (m * 2 ^ k) ≡ bit_and (w / 2 ^ k) m * 2 ^ k
above k w m =
    let plain : m * 2 ^ k ≡ m * 2 ^ k + 0 = omega arith in
    let none : m * 2 ^ k % 2 ^ k ≡ 0 = ap (λ (x : ℕ). x % 2 ^ k) plain ∙ low m k (pow_pos k) in
    let rest : bit_and (w / 2 ^ k) m * 2 ^ k + 0 ≡ bit_and (w / 2 ^ k) m * 2 ^ k = omega arith in
    cut k w (m * 2 ^ k)
    ∙ ap₂ (λ (x y : ℕ). bit_and (w / 2 ^ k) x * 2 ^ k + y) (shl-shr m k) (ap (bit_and (w % 2 ^ k)) none ∙ and_zero_r (w % 2 ^ k))
    ∙ rest

ones_below : (n w m : ℕ) → bit_and w (m * 2 ^ n + (2 ^ n - 1)) ≡ bit_and (w / 2 ^ n) m * 2 ^ n + w % 2 ^ n
ones_below n w m =
    cut n w (m * 2 ^ n + (2 ^ n - 1))
    ∙ ap₂ (λ (x y : ℕ). bit_and (w / 2 ^ n) x * 2 ^ n + y) (high m n (ones_lt n))
    (ap (bit_and (w % 2 ^ n)) (low m n (ones_lt n)) ∙ and_mask (w % 2 ^ n) n ∙ mod-mod w (2 ^ n))

-- what a mask leaves of the word from bit p on
leaves : (fs : List Field) (p w : ℕ) → bit_and (w / 2 ^ p) (mask_of fs) * 2 ^ p ≡ placed p fs w
leaves [] p w = ap (λ (x : ℕ). x * 2 ^ p) (and_zero_r (w / 2 ^ p)) ∙ zero-mul (2 ^ p)
leaves (f ∷ fs) p w =
    let s = f.skip in
    let n = f.wide in
    let m = mask_of fs in
    let q = p + s in
    let inner : bit_and (w / 2 ^ p) (mask_of (f ∷ fs)) ≡ (bit_and (w / 2 ^ (q + n)) m * 2 ^ n + w / 2 ^ q % 2 ^ n) * 2 ^ s =
    above s (w / 2 ^ p) (m * 2 ^ n + (2 ^ n - 1))
    ∙ ap (λ (x : ℕ). bit_and x (m * 2 ^ n + (2 ^ n - 1)) * 2 ^ s) (shr-shr w p s)
    ∙ ap (λ (x : ℕ). x * 2 ^ s) (ones_below n (w / 2 ^ q) m ∙ ap (λ (x : ℕ). bit_and x m * 2 ^ n + w / 2 ^ q % 2 ^ n) (shr-shr w q n)) in
    ap (λ (x : ℕ). x * 2 ^ p) inner ∙ spread (bit_and (w / 2 ^ (q + n)) m) (w / 2 ^ q % 2 ^ n) p s n
    ∙ ap (λ (x : ℕ). w / 2 ^ q % 2 ^ n * 2 ^ q + x) (leaves fs (q + n) w)
  where
    around : (a x y z : ℕ) → a * x * y * z ≡ a * (z * y * x)
    around a x y z =
        ap (λ (n : ℕ). n * z) (mul_assoc a x y) ∙ mul_assoc a (x * y) z
        ∙ ap (λ (n : ℕ). a * n) (mul_comm (x * y) z ∙ ap (λ (n : ℕ). z * n) (mul_comm x y) ∙ sym (mul_assoc z y x))

    spread : (a b p s n : ℕ) → (a * 2 ^ n + b) * 2 ^ s * 2 ^ p ≡ b * 2 ^ (p + s) + a * 2 ^ (p + s + n)
    spread a b p s n = rw (pow-add 2 (p + s) n, pow-add 2 p s) (each a b (2 ^ n) (2 ^ s) (2 ^ p))
      where
        each : (a b x y z : ℕ) → (a * x + b) * y * z ≡ b * (z * y) + a * (z * y * x)
        each a b x y z =
            ap (λ (n : ℕ). n * z) (add-mul (a * x) b y) ∙ add-mul (a * x * y) (b * y) z
            ∙ ap₂ (λ (m n : ℕ). m + n) (around a x y z) (mul_assoc b y z ∙ ap (λ (n : ℕ). b * n) (mul_comm y z))
            ∙ add_comm (a * (z * y * x)) (b * (z * y))

pub under : (fs : List Field) (mask w : ℕ) → mask_of fs ≡ mask → bit_and w mask ≡ placed 0 fs w
under fs mask w m = ap₂ bit_and (sym (div-one w)) (sym m) ∙ sym (mul-one (bit_and (w / 1) (mask_of fs))) ∙ leaves fs 0 w

-- so a word whose fields have their numbers has the value under the mask
pub marked_by : (fs : List Field) (mask value w : ℕ) → mask_of fs ≡ mask → placed 0 fs w ≡ value → bit_and w mask ≡ value
marked_by fs mask value w m v = under fs mask w m ∙ v
