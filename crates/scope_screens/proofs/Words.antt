-- Word 0 and word 1 of a row under the masks of the commands' screens, by the row's parts.
-- Assumes nothing.
use Rattle.std.proofs.Common.{◌≡◌, ℕ, ◌+◌, ◌-◌, ◌*◌, ◌/◌, ◌%◌, ◌^◌, ◌≤◌, [], ◌∷◌, sym, refl, ap, ◌∙◌, ap₂, div-one, arith, shr-shr}
use native.Mathlib.Nat.{zero-div}
use lib.Bits.{bit_and, bit_xor, and_high, xor_self, xor_shr}
use lib.Pow.{field, shl-shr}
use Rattle.words.specs.Parts.{part}
use Rattle.words.specs.Ranges.{get}
use Rattle.rows.specs.Rows as rows
use Rattle.screens.specs.Places.{mask_of, stages_bits}
use Rattle.screens.proofs.Fields.{gap, under, marked_by}
use Rattle.scope_screens.specs.ScopeScreens.{kind_mask, own_mask, own_asid_mask, stage_mask, stage_asid_mask, either_mask, any_mask}

-- low bits that are taken away before are not missed
rounded : (k n a : ℕ) → k ≤ n → a / 2 ^ k * 2 ^ k / 2 ^ n ≡ a / 2 ^ n
rounded k n a h =
    let sum : k + (n - k) ≡ n = omega arith in
    ap (λ (x : ℕ). a / 2 ^ k * 2 ^ k / 2 ^ x) (sym sum)
    ∙ sym (shr-shr (a / 2 ^ k * 2 ^ k) k (n - k))
    ∙ ap (λ (x : ℕ). x / 2 ^ (n - k)) (shl-shr (a / 2 ^ k) k)
    ∙ shr-shr a k (n - k)
    ∙ ap (λ (x : ℕ). a / 2 ^ x) sum

module _ (w : ℕ) where
  pub kind-is : (k : ℕ) → get rows.kind_bits w ≡ k → bit_and w kind_mask ≡ k * 2
  unfolding part
  kind-is k a = marked_by (gap 1 2 ∷ []) kind_mask (k * 2) w refl (omega (arith, a))

  pub own_is : (k m value : ℕ) → get rows.kind_bits w ≡ k → get rows.mark_bits w ≡ m → value ≡ k * 2 + m * 2 ^ 11 → bit_and w own_mask ≡ value
  unfolding part
  own_is k m value a b v = marked_by (gap 1 2 ∷ gap 8 2 ∷ []) own_mask value w refl (omega (arith, a, b, v))

  pub own-asid-is : (k m i value : ℕ) → get rows.kind_bits w ≡ k → get rows.global_bits w ≡ 0 → get rows.mark_bits w ≡ m → get rows.asid_bits w ≡ i
      → value ≡ k * 2 + m * 2 ^ 11 + i * 2 ^ 32 → bit_and w own_asid_mask ≡ value
  unfolding part
  own-asid-is k m i value a g b d v = marked_by (gap 1 2 ∷ gap 1 1 ∷ gap 6 2 ∷ gap 19 16 ∷ []) own_asid_mask value w refl (omega (arith, a, g, b, d, v))

  pub stage_is : (k i value : ℕ) → get rows.kind_bits w ≡ k → get rows.mark_bits w ≡ 0 → get rows.vmid_bits w ≡ i
      → value ≡ k * 2 + i * 2 ^ 16 → bit_and w stage_mask ≡ value
  unfolding part
  stage_is k i value a b c v = marked_by (gap 1 2 ∷ gap 8 2 ∷ gap 3 16 ∷ []) stage_mask value w refl (omega (arith, a, b, c, v))

  pub stage-asid-is : (k i j value : ℕ) → get rows.kind_bits w ≡ k → get rows.global_bits w ≡ 0 → get rows.mark_bits w ≡ 0 → get rows.vmid_bits w ≡ i
      → get rows.asid_bits w ≡ j → value ≡ k * 2 + i * 2 ^ 16 + j * 2 ^ 32 → bit_and w stage_asid_mask ≡ value
  unfolding part
  stage-asid-is k i j value a g b c d v =
      marked_by (gap 1 2 ∷ gap 1 1 ∷ gap 6 2 ∷ gap 3 16 ∷ gap 0 16 ∷ []) stage_asid_mask value w refl (omega (arith, a, g, b, c, d, v))

  -- kind's upper bit alone: 0 for configurations, 1 for stages
  upper : (k : ℕ) → get rows.kind_bits w ≡ k → w / 2 ^ 2 % 2 ^ 1 ≡ k / 2
  unfolding part
  upper k a = omega (arith, a)

  pub either_is : (k i value : ℕ) → get rows.kind_bits w ≡ k → k / 2 ≡ 1 → get rows.mark_bits w ≡ 0 → get rows.vmid_bits w ≡ i
      → value ≡ 4 + i * 2 ^ 16 → bit_and w either_mask ≡ value
  unfolding part
  either_is k i value a u b c v = marked_by (gap 2 1 ∷ gap 8 2 ∷ gap 3 16 ∷ []) either_mask value w refl (omega (arith, upper k a, u, b, c, v))

  pub any-is : (k : ℕ) → get rows.kind_bits w ≡ k → k / 2 ≡ 1 → get rows.mark_bits w ≡ 0 → bit_and w any_mask ≡ 4
  unfolding part
  any-is k a u b = marked_by (gap 2 1 ∷ gap 8 2 ∷ []) any_mask 4 w refl (omega (arith, upper k a, u, b))

  pub config-is : (k : ℕ) → get rows.kind_bits w ≡ k → k / 2 ≡ 0 → bit_and w (mask_of (stages_bits ∷ [])) ≡ 0
  config-is k a u = under (gap 2 1 ∷ []) (mask_of (stages_bits ∷ [])) w refl ∙ omega (arith, upper k a, u)

  -- the stream under the mask of a block
  under-block : (k : ℕ) → k ≤ 32 → bit_and w (2 ^ 32 - 2 ^ k) ≡ get rows.stream_bits w / 2 ^ k * 2 ^ k
  unfolding part
  under-block k h =
      let j = 32 - k in
      let sum : j + k ≡ 32 = omega arith in
      ap (λ (n : ℕ). bit_and w (2 ^ n - 2 ^ k)) (sym sum)
      ∙ and_high w j k
      ∙ ap (λ (x : ℕ). x * 2 ^ k)
      (sym (field w j k) ∙ ap (λ (n : ℕ). w % 2 ^ n / 2 ^ k) sum ∙ ap (λ (x : ℕ). x % 2 ^ 32 / 2 ^ k) (sym (div-one w)))

  -- a row of a block's streams
  pub within_block : (k n s : ℕ) → k ≤ 32 → get rows.stream_bits w / 2 ^ k ≡ s / 2 ^ k
      → bit_xor (bit_and w (2 ^ 32 - 2 ^ k)) (s / 2 ^ k * 2 ^ k) / 2 ^ n ≡ 0
  within_block k n s h e =
      rw (under-block k h, e) (ap (λ (x : ℕ). x / 2 ^ n) (xor_self (s / 2 ^ k * 2 ^ k)) ∙ zero-div (2 ^ n))

  -- or one whose own block is larger and has them
  pub around-block : (k n s : ℕ) → k ≤ 32 → k ≤ n → get rows.stream_bits w / 2 ^ n ≡ s / 2 ^ n
      → bit_xor (bit_and w (2 ^ 32 - 2 ^ k)) (s / 2 ^ k * 2 ^ k) / 2 ^ n ≡ 0
  around-block k n s h l e =
      xor_shr (bit_and w (2 ^ 32 - 2 ^ k)) (s / 2 ^ k * 2 ^ k) n
      ∙ ap₂ bit_xor (ap (λ (x : ℕ). x / 2 ^ n) (under-block k h) ∙ rounded k n (get rows.stream_bits w) l ∙ e) (rounded k n s l)
      ∙ xor_self (s / 2 ^ n)
