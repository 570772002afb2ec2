-- Document 02, T-04 and T-05: a row lies in one half of the addresses, and what document 01 accepted is still well formed.
-- Assumes nothing.
use mathlib.Core.Path.{◌≡◌, sym, ap, ◌∙◌}
use mathlib.Core.Bool.{Bool, true, false, not, ◌&&◌, ◌||◌}
use Prim.Native.Nat.{ℕ, ◌+◌, ◌-◌, ◌*◌, ◌/◌, ◌%◌, ◌^◌, ◌≤◌, ◌<◌}
use native.Mathlib.Nat.{div-add-mod'}
use native.Mathlib.Omega.{arith}
use lib.Pow.{high, shr-shr, shr_lt}
use lib.Dec.{eqb, leb, ltb}
use borrow.Author.Tests.{eqb-true, leb-true, ltb-true, eq-eqb}
use Rattle.words.specs.Choice.{pick}
use Rattle.words.specs.Parts.{part}
use Rattle.words.specs.Ranges.{get}
use Rattle.words.proofs.Truth.{left, right, and_true, or_left, and_widened, or_widened, pick-widened}
use Rattle.attributes.specs.Formats as attributes
use Rattle.rows.specs.declared.Row.{Row}
use Rattle.rows.specs.Rows.{ste, cd, stage1, kind, is_last, is_empty, span, vmid, asid, is_global, mark, is_unmarked, el2, el2_e2h, valid_bits, attributes_of, covers}
use Rattle.rows.proofs.Covering.{covers-means}
use Rattle.row_forms.specs.WellFormed.{only_named, ste_good, address_bits, placed, half_bits, all_ones, in_half, begins, mark_good, RowRules, document01, present, stage_good_by, good_by, well_formed_by, well_formed}
use Rattle.row_forms.proofs.LastLevel.{room}

-- Above bit k, each of the 2 ^ n bytes from an aligned address on is what the first is.
module _ (n a d : ℕ) (z : a % 2 ^ n ≡ 0) (b : d < 2 ^ n) where
  whole : a / 2 ^ n * 2 ^ n ≡ a
  whole = omega (arith, div-add-mod' a (2 ^ n))

  same_block : (a + d) / 2 ^ n ≡ a / 2 ^ n
  same_block = ap (λ (x : ℕ). (x + d) / 2 ^ n) (sym whole) ∙ high (a / 2 ^ n) n b

  pub same_above : (k : ℕ) → n ≤ k → (a + d) / 2 ^ k ≡ a / 2 ^ k
  same_above k h =
      let e : n + (k - n) ≡ k = omega arith in
      let at : (x : ℕ) → x / 2 ^ n / 2 ^ (k - n) ≡ x / 2 ^ k = λ x. shr-shr x n (k - n) ∙ ap (λ (j : ℕ). x / 2 ^ j) e in
      sym (at (a + d)) ∙ ap (λ (x : ℕ). x / 2 ^ (k - n)) same_block ∙ at a

-- a stage 1 row's bytes are all in the half in which it begins, and none is past the top
module _ (n a : ℕ) (e : begins stage1 n a ≡ true) where
  aligned : a % 2 ^ n ≡ 0
  unfolding begins
  aligned = eqb-true (a % 2 ^ n) 0 (right (in_half a) (eqb (a % 2 ^ n) 0) e)

  half : in_half a ≡ true
  unfolding begins
  half = left (in_half a) (eqb (a % 2 ^ n) 0) e

  module _ (d : ℕ) (h : n ≤ address_bits) (b : d < 2 ^ n) where
    pub one-half : get half_bits (a + d) ≡ get half_bits a
    unfolding part
    one-half = ap (λ (x : ℕ). x % 2 ^ 12) (same_above n a d aligned b address_bits h)

    pub in-half : in_half (a + d) ≡ true
    unfolding in_half
    in-half = ap (λ (x : ℕ). eqb x 0 || eqb x all_ones) one-half ∙ half

    pub no_top : a < 2 ^ 64 → a + d < 2 ^ 64
    no_top f =
        let top : (a + d) / 2 ^ 64 ≡ a / 2 ^ 64 = same_above n a d aligned b 64 (omega arith) in
        omega (arith, top, f)

-- a used row that is neither of an STE nor of a CD is a stage row
pub stage-formed : (rules : RowRules) (row : Row) → well_formed_by rules row ≡ true → is_empty row ≡ false → eqb (kind row) ste ≡ false → eqb (kind row) cd ≡ false
    → stage_good_by rules row ≡ true
unfolding well_formed_by good_by
stage-formed rules row f u s c =
    rw (s, c) at (right (eqb (get valid_bits row.w0) 1 && only_named row) (good_by rules row) (rw u at f))

-- the span and the input address of a stage row
module _ (rules : RowRules) (row : Row) (g : stage_good_by rules row ≡ true) where
  places : Bool
  places = leb 12 (span row) && leb (span row) 48 && rules.begin (kind row) (span row) row.w2

  outputs : Bool
  outputs = not (is_last row) || (placed (span row) row.w3 && attributes.well_formed (attributes_of row))

  asked : (leb 12 (span row) && leb (span row) 48 && rules.begin (kind row) (span row) row.w2) ≡ true
  unfolding stage_good_by places outputs
  asked = left places outputs (left (places && outputs) (rules.marks row) g)

  pub mark-asked : rules.marks row ≡ true
  unfolding stage_good_by places outputs
  mark-asked = right (places && outputs) (rules.marks row) g

  short : span row ≤ address_bits
  short =
      let few = right (leb 12 (span row)) (leb (span row) 48) (left (leb 12 (span row) && leb (span row) 48) (rules.begin (kind row) (span row) row.w2) asked) in
      omega (arith, leb-true (span row) 48 few)

  begun : rules.begin (kind row) (span row) row.w2 ≡ true
  begun = right (leb 12 (span row) && leb (span row) 48) (rules.begin (kind row) (span row) row.w2) asked

-- the addresses that a stage 1 row covers are of its own half
pub own_half : (row : Row) → well_formed row ≡ true → is_empty row ≡ false → kind row ≡ stage1 → (a : ℕ) → covers row a ≡ true
    → get half_bits a ≡ get half_bits row.w2
own_half row f u k a c =
    let g = stage-formed present row f u (ap (λ (x : ℕ). eqb x ste) k) (ap (λ (x : ℕ). eqb x cd) k) in
    let within = covers-means row a c in
    let e : row.w2 + (a - row.w2) ≡ a = omega (arith, within.0) in
    ap (λ (x : ℕ). get half_bits x) (sym e)
    ∙ one-half (span row) row.w2 (rw k at (begun present row g)) (a - row.w2) (short present row g) (omega (arith, within.0, within.1))

-- and a row of document 01 covers none of the upper half
pub low_only : (row : Row) → stage_good_by document01 row ≡ true → (a : ℕ) → covers row a ≡ true → a < 2 ^ address_bits
low_only row g a c =
    let within = covers-means row a c in
    let e : row.w2 + (a - row.w2) ≡ a = omega (arith, within.0) in
    rw e at (room (span row) row.w2 (begun document01 row g) (a - row.w2) (short document01 row g) (omega (arith, within.0, within.1)))

-- each rule takes what the other took
pub record Wider (old new : RowRules) : Type 0 where
  pub begin : (k n a : ℕ) → old.begin k n a ≡ true → new.begin k n a ≡ true
  pub marks : (row : Row) → old.marks row ≡ true → new.marks row ≡ true

module _ (old new : RowRules) (wider : Wider old new) (row : Row) where
  stage-widened : stage_good_by old row ≡ true → stage_good_by new row ≡ true
  unfolding stage_good_by
  stage-widened e =
      let spans = leb 12 (span row) && leb (span row) 48 in
      let begun : RowRules → Bool = λ rules. rules.begin (kind row) (span row) row.w2 in
      let rest = not (is_last row) || (placed (span row) row.w3 && attributes.well_formed (attributes_of row)) in
      let all = left (spans && begun old && rest) (old.marks row) e in
      and_true
      (and_true
      (and_widened spans (begun old) (wider.begin (kind row) (span row) row.w2) (left (spans && begun old) rest all))
      (right (spans && begun old) rest all))
      (wider.marks row (right (spans && begun old && rest) (old.marks row) e))

  good-widened : good_by old row ≡ true → good_by new row ≡ true
  unfolding good_by
  good-widened =
      pick-widened (eqb (kind row) ste) (ste_good row) (pick (eqb (kind row) cd) true (stage_good_by old row))
      (pick-widened (eqb (kind row) cd) true (stage_good_by old row) stage-widened)

  pub formed-widened : well_formed_by old row ≡ true → well_formed_by new row ≡ true
  unfolding well_formed_by
  formed-widened =
      or_widened (is_empty row) (eqb (get valid_bits row.w0) 1 && only_named row && good_by old row)
      (and_widened (eqb (get valid_bits row.w0) 1 && only_named row) (good_by old row) good-widened)

-- below 2 ^ 52 the upper bits are 0
low_half : (a : ℕ) → a < 2 ^ address_bits → get half_bits a ≡ 0
unfolding part
low_half a l = let z : a / 2 ^ address_bits < 2 ^ 0 = shr_lt 0 address_bits l in omega (arith, z)

module _ (n a : ℕ) (e : placed n a ≡ true) where
  placed-in-half : (in_half a && eqb (a % 2 ^ n) 0) ≡ true
  unfolding placed in_half
  placed-in-half =
      let low = ltb a (2 ^ address_bits) in
      let straight = eqb (a % 2 ^ n) 0 in
      let zeros = low_half a (ltb-true a (2 ^ address_bits) (left low straight e)) in
      and_true (or_left (eqb (get half_bits a) 0) (eqb (get half_bits a) all_ones) (eq-eqb (get half_bits a) 0 zeros)) (right low straight e)

  either_way : (b : Bool) → pick b (in_half a && eqb (a % 2 ^ n) 0) (placed n a) ≡ true
  either_way true = placed-in-half
  either_way false = e

  placed-begins : (k : ℕ) → begins k n a ≡ true
  unfolding begins
  placed-begins k = either_way (eqb k stage1)

pub unmarked-good : (row : Row) → is_unmarked row ≡ true → mark_good row ≡ true
unfolding mark_good
unmarked-good row =
    or_left (is_unmarked row)
    (eqb (vmid row) 0 && (eqb (mark row) el2_e2h || (eqb (mark row) el2 && eqb (asid row) 0 && not (is_global row))))

pub rows-wider : Wider document01 present
rows-wider = record { begin = λ k n a e. placed-begins n a e k; marks = unmarked-good }

-- no row of document 01 is ill formed now, which is what refusals 3 and 9 ask
pub still_formed : (row : Row) → well_formed_by document01 row ≡ true → well_formed row ≡ true
still_formed row = formed-widened document01 present rows-wider row
