-- What a well-formed last-level row is known to hold.
-- Assumes nothing.
use mathlib.Core.Path.{◌≡◌}
use mathlib.Core.Bool.{true, false, not, ◌&&◌, ◌||◌}
use mathlib.Core.Logic.{⊎_elim}
use Prim.Native.Nat.{ℕ, ◌+◌, ◌-◌, ◌*◌, ◌/◌, ◌%◌, ◌^◌, ◌≤◌, ◌<◌}
use native.Mathlib.Nat.{div-add-mod'}
use native.Mathlib.Omega.{arith}
use lib.Arith.{digits_lt}
use lib.Pow.{pow-add, shr_lt}
use lib.Dec.{eqb, leb, ltb}
use borrow.Author.Tests.{eqb-true, leb-true, ltb-true}
use Rattle.words.specs.Ranges.{get}
use Rattle.words.proofs.Truth.{left, right, either, clash, then_true}
use Rattle.attributes.specs.Formats as attributes
use Rattle.rows.specs.declared.Row.{Row}
use Rattle.rows.specs.Rows.{ste, cd, kind, is_last, is_empty, span, config, new_mem_attr, valid_bits, attributes_of}
use Rattle.rows.proofs.LastLevel.{last-is-used}
use Rattle.row_forms.specs.WellFormed.{only_named, known_config, ste_good, address_bits, placed, begins, mark_good, stage_good_by, good, good_by, well_formed, well_formed_by}

module _ (row : Row) (f : well_formed row ≡ true) (l : is_last row ≡ true) where
  last-good : good row ≡ true
  unfolding well_formed_by
  last-good =
      ⊎_elim (λ e. clash e (last-is-used row l)) (λ e. right (eqb (get valid_bits row.w0) 1 && only_named row) (good row) e)
      (either (is_empty row) (eqb (get valid_bits row.w0) 1 && only_named row && good row) f)

  -- an STE row has a well-formed MemAttr
  pub ste-mem-attr : eqb (kind row) ste ≡ true → attributes.mem_attr_formed (new_mem_attr row) ≡ true
  unfolding good_by ste_good
  ste-mem-attr k = right (known_config (config row)) (attributes.mem_attr_formed (new_mem_attr row)) (rw (k, l) at last-good)

  -- a stage row has a span and an output address within their limits, and well-formed attributes
  module _ (s : eqb (kind row) ste ≡ false) (c : eqb (kind row) cd ≡ false) where
    asked : (leb 12 (span row) && leb (span row) 48 && begins (kind row) (span row) row.w2 && (not (is_last row) || (placed (span row) row.w3 && attributes.well_formed (attributes_of row)))) ≡ true
    unfolding good_by stage_good_by
    asked =
        left (leb 12 (span row) && leb (span row) 48 && begins (kind row) (span row) row.w2 && (not (is_last row) || (placed (span row) row.w3 && attributes.well_formed (attributes_of row))))
        (mark_good row) (rw (s, c) at last-good)

    pub span-few : span row ≤ 48
    span-few =
        let a = leb 12 (span row) in
        let b = leb (span row) 48 in
        let p = begins (kind row) (span row) row.w2 in
        leb-true (span row) 48 (right a b (left (a && b) p (left (a && b && p) (not (is_last row) || (placed (span row) row.w3 && attributes.well_formed (attributes_of row))) asked)))

    output : (placed (span row) row.w3 && attributes.well_formed (attributes_of row)) ≡ true
    output =
        then_true
        (right (leb 12 (span row) && leb (span row) 48 && begins (kind row) (span row) row.w2)
        (not (is_last row) || (placed (span row) row.w3 && attributes.well_formed (attributes_of row))) asked)
        l

    pub output-placed : placed (span row) row.w3 ≡ true
    output-placed = left (placed (span row) row.w3) (attributes.well_formed (attributes_of row)) output

    pub stage-attributes : attributes.well_formed (attributes_of row) ≡ true
    stage-attributes = right (placed (span row) row.w3) (attributes.well_formed (attributes_of row)) output

-- a placed address is below the limit, and so is each of the 2 ^ n bytes from it on
module _ (n a : ℕ) (p : placed n a ≡ true) where
  below : a < 2 ^ address_bits
  unfolding placed
  below = ltb-true a (2 ^ address_bits) (left (ltb a (2 ^ address_bits)) (eqb (a % 2 ^ n) 0) p)

  aligned : a / 2 ^ n * 2 ^ n ≡ a
  unfolding placed
  aligned =
      let z : a % 2 ^ n ≡ 0 = eqb-true (a % 2 ^ n) 0 (right (ltb a (2 ^ address_bits)) (eqb (a % 2 ^ n) 0) p) in
      omega (arith, div-add-mod' a (2 ^ n))

  pub room : (d : ℕ) → n ≤ address_bits → d < 2 ^ n → a + d < 2 ^ address_bits
  room d h b =
      let whole : address_bits - n + n ≡ address_bits = omega arith in
      let up : a / 2 ^ n < 2 ^ (address_bits - n) = shr_lt (address_bits - n) n (rw whole below) in
      let lt : a / 2 ^ n * 2 ^ n + d < 2 ^ (address_bits - n + n) = rw pow-add (digits_lt up b) in
      rw whole at (rw aligned at lt)
