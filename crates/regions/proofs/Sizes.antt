-- The ten sizes: in the papers' units, and in their order.
-- Assumes nothing.
use mathlib.Core.Path.{◌≡◌, refl}
use mathlib.Core.List.{[], ◌∷◌, map}
use Prim.Native.Nat.{ℕ, zero, suc, ◌+◌, ◌*◌, ◌^◌, ◌≤◌, ◌<◌}
use native.Mathlib.Omega.{arith}
use lib.Dec.{ltb}
use lib.ListN.{length}
use lib.Pow.{pow-lt}
use borrow.Author.Tests.{ltb-true}
use Rattle.words.specs.Ranges.{all}
use Rattle.words.proofs.Table.{all-at}
use Rattle.regions.specs.Regions.{sizes, log2_size, bytes, address_bits}

abbrev kb : ℕ
kb = 2 ^ 10

abbrev mb : ℕ
mb = 2 ^ 20

abbrev gb : ℕ
gb = 2 ^ 30

pub in_units : map (λ (n : ℕ). 2 ^ n) sizes
    ≡ 4 * kb ∷ 16 * kb ∷ 64 * kb ∷ 2 * mb ∷ 32 * mb ∷ 512 * mb ∷ 1 * gb ∷ 16 * gb ∷ 64 * gb ∷ 512 * gb ∷ []
in_units = refl

-- the last arm of a match knows that its number is none of the k keys from i on, one after the other; so it is past them
abbrev NoneOf : Type 0 → ℕ → ℕ → ℕ → Type 0
NoneOf N zero i x = N
NoneOf N (suc k) i x = NoneOf (N × (x ≡ i → ⊥)) k (suc i) x

pub past-keys : (N : Type 0) (k i x : ℕ) → (N → i ≤ x) → NoneOf N k i x → k + i ≤ x
past-keys N zero i x h n = omega (arith, h n)
past-keys N (suc k) i x h n =
    omega (arith, past-keys (N × (x ≡ i → ⊥)) k (suc i) x (λ m. omega (arith, h m.0, m.1)) n)

-- a larger code is a larger size
pub larger_code : (c d : ℕ) → c < d → d < length sizes → bytes c < bytes d
unfolding log2_size
larger_code c d h l =
    pow-lt
    (ltb-true (log2_size c) (log2_size d)
    (all-at d (λ i. ltb (log2_size i) (log2_size d)) (all-at (length sizes) (λ k. all k (λ i. ltb (log2_size i) (log2_size k))) refl d l) c h))

-- and the largest is no larger than the addresses
pub small : (c : ℕ) → c < length sizes → log2_size c < address_bits
unfolding log2_size
small c h = ltb-true (log2_size c) address_bits (all-at (length sizes) (λ i. ltb (log2_size i) address_bits) refl c h)
