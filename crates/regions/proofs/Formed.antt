-- What a well-formed row is, part by part.
-- Assumes nothing.
use mathlib.Core.Path.{◌≡◌}
use mathlib.Core.Bool.{true, false, ◌&&◌}
use mathlib.Core.Logic.{⊎_elim}
use Prim.Native.Nat.{◌+◌, ◌%◌, ◌^◌, ◌≤◌, ◌<◌}
use native.Mathlib.Omega.{arith}
use lib.Dec.{eqb, ltb}
use lib.ListN.{length}
use borrow.Author.Tests.{eqb-true, eq-eqb, ltb-true, lt-ltb}
use Rattle.words.specs.Ranges.{get}
use Rattle.words.proofs.Truth.{left, right, and_true, or_right, either, clash}
use Rattle.regions.specs.declared.Region.{Region}
use Rattle.regions.specs.Regions.{sizes, is_known, log2_size, valid_bits, zero_bits, size_code, base, extent, is_empty, address_bits, placed, well_formed}
use Rattle.regions.proofs.Containing.{ends_below}
use Rattle.regions.proofs.Sizes.{small}

-- of a used row
pub record Formed (row : Region) : Type 0 where
  pub valid : get valid_bits row.w0 ≡ 1
  pub zeroes : get zero_bits row.w0 ≡ 0
  pub known : size_code row < length sizes
  pub below : base row < 2 ^ address_bits
  pub multiple : base row % extent row ≡ 0

module _ (row : Region) where
  pub formed : is_empty row ≡ false → well_formed row ≡ true → Formed row
  unfolding well_formed placed
  formed used e =
      let v = eqb (get valid_bits row.w0) 1 in
      let z = eqb (get zero_bits row.w0) 0 in
      let k = is_known (size_code row) in
      let b = ltb (base row) (2 ^ address_bits) in
      let m = eqb (base row % extent row) 0 in
      let all = ⊎_elim (λ empty. clash empty used) (λ a. a) (either (is_empty row) (v && z && k && (b && m)) e) in
      let three = left (v && z && k) (b && m) all in
      let two = right (v && z && k) (b && m) all in
      record {
        valid = eqb-true (get valid_bits row.w0) 1 (left v z (left (v && z) k three));
        zeroes = eqb-true (get zero_bits row.w0) 0 (right v z (left (v && z) k three));
        known = ltb-true (size_code row) (length sizes) (right (v && z) k three);
        below = ltb-true (base row) (2 ^ address_bits) (left b m two);
        multiple = eqb-true (base row % extent row) 0 (right b m two);
      }

  pub is_formed : Formed row → well_formed row ≡ true
  unfolding well_formed placed
  is_formed f =
      or_right (is_empty row) _
      (and_true
      (and_true
      (and_true (eq-eqb (get valid_bits row.w0) 1 f.valid) (eq-eqb (get zero_bits row.w0) 0 f.zeroes))
      (lt-ltb (size_code row) (length sizes) f.known))
      (and_true (lt-ltb (base row) (2 ^ address_bits) f.below) (eq-eqb (base row % extent row) 0 f.multiple)))

  -- it ends within the addresses
  pub row_ends_below : Formed row → base row + extent row ≤ 2 ^ address_bits
  row_ends_below f =
      ends_below (log2_size (size_code row)) address_bits (base row) (omega (arith, small (size_code row) f.known)) f.multiple f.below
