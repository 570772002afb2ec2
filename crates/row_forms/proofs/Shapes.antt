-- The masks and the rules of a shape say of each row of that shape whether it has only named parts and is good.
-- Assumes nothing.
use mathlib.Core.Path.{◌≡◌, refl, sym, ap, ◌∙◌}
use mathlib.Core.Bool.{Bool, true, false, not, ◌&&◌, ◌||◌}
use mathlib.Core.Logic.{⊎_elim}
use Prim.Native.Nat.{ℕ, ◌+◌, ◌*◌, ◌/◌, ◌%◌, ◌^◌, ◌<◌}
use native.Mathlib.Omega.{arith}
use lib.Bits.{bit_and}
use lib.Dec.{eqb, leb}
use lib.ListN.{get_or}
use borrow.Author.Tests.{eqb-true, eqb-false}
use Rattle.words.specs.Choice.{pick}
use Rattle.words.specs.Parts.{part}
use Rattle.words.specs.Ranges.{bits}
use Rattle.words.proofs.Parts.{part_lt}
use Rattle.words.proofs.Truth.{decided}
use Rattle.attributes.specs.Formats as attributes
use Rattle.rows.specs.declared.Row.{Row}
use Rattle.rows.specs.Rows.{ste, cd, stage1, kind, is_last, span, attributes_of}
use Rattle.row_forms.specs.WellFormed.{shape, only_named, ste_good, placed, begins, mark_good, stage_good_by, stage_good, good, good_by}
use Rattle.row_forms.proofs.Masks.{masks, tests}
use Rattle.row_forms.proofs.Halves.{unmarked-good}
use Rattle.row_forms.proofs.Marks.{shape-kind, stage1-alone-marked}

pub record Words (row : Row) : Type 0 where
  pub w0 : row.w0 < 2 ^ 64
  pub w1 : row.w1 < 2 ^ 64
  pub w2 : row.w2 < 2 ^ 64
  pub w3 : row.w3 < 2 ^ 64

-- the masks of shape s stand from place 4 * s on
abbrev masked : ℕ → Row → Bool
masked s row =
    eqb (bit_and row.w0 (get_or masks (4 * s) 0)) row.w0
    && eqb (bit_and row.w1 (get_or masks (4 * s + 1) 0)) row.w1
    && eqb (bit_and row.w2 (get_or masks (4 * s + 2) 0)) row.w2
    && eqb (bit_and row.w3 (get_or masks (4 * s + 3) 0)) row.w3

abbrev stage : ℕ → Bool → Row → Bool
stage k last row =
    let input = leb 12 (span row) && leb (span row) 48 && begins k (span row) row.w2 in
    pick last (input && (placed (span row) row.w3 && attributes.well_formed (attributes_of row))) input

-- the tests of a row of kind k: its bits, and its rule, which looks at marks in stage 1 alone
abbrev tested : Bool → ℕ → Bool → Row → Bool
tested named k last row =
    pick (eqb k ste) (named && ste_good row)
    (pick (eqb k cd) named
    (named && pick (eqb k stage1) (stage k last row && mark_good row) (stage k last row)))

and_none : (a : Bool) → a ≡ (a && true)
and_none true = refl
and_none false = refl

if_last : (a last b : Bool) → pick last (a && b) a ≡ (a && (not last || b))
if_last a true b = refl
if_last a false b = and_none a

-- of a kind that names no bits for marks, the named bits say that the marks are good
left_out : (o a m : Bool) → (o ≡ true → m ≡ true) → (o && a) ≡ (o && (a && m))
left_out true a m f = rw (f refl) (and_none a)
left_out false a m f = refl

by_tests : (o g a m is-ste is-cd is-stage1 : Bool) → (is-stage1 ≡ false → o ≡ true → m ≡ true)
    → pick is-ste (o && g) (pick is-cd o (o && pick is-stage1 (a && m) a)) ≡ (o && pick is-ste g (pick is-cd true (a && m)))
by_tests o g a m true is-cd is-stage1 f = refl
by_tests o g a m false true is-stage1 f = and_none o
by_tests o g a m false false true f = refl
by_tests o g a m false false false f = left_out o a m (f refl)

module _ (row : Row) where
  by-stage : (stage (kind row) (is_last row) row && mark_good row) ≡ stage_good row
  unfolding stage_good_by
  by-stage =
      ap (λ (a : Bool). a && mark_good row)
      (if_last (leb 12 (span row) && leb (span row) 48 && begins (kind row) (span row) row.w2) (is_last row) (placed (span row) row.w3 && attributes.well_formed (attributes_of row)))

  by_kind : tested (only_named row) (kind row) (is_last row) row ≡ (only_named row && good row)
  unfolding good_by
  by_kind =
      rw (← by-stage)
      (by_tests (only_named row) (ste_good row) (stage (kind row) (is_last row) row) (mark_good row) (eqb (kind row) ste) (eqb (kind row) cd) (eqb (kind row) stage1)
      (λ k o. unmarked-good row (stage1-alone-marked row o k)))

  module _ (s : ℕ) (e : shape row ≡ s) where
    kind-is : kind row ≡ s % 4
    kind-is = sym (shape-kind row) ∙ ap (λ (x : ℕ). x % 4) e

    pub last-is : is_last row ≡ eqb (s / 4) 1
    unfolding part
    last-is = let same : row.w0 / 2 ^ 3 % 2 ^ 1 ≡ s / 4 = omega (arith, e) in ap (λ (x : ℕ). eqb x 1) same

    only-named : Words row → masked s row ≡ only_named row
    unfolding only_named
    only-named f =
        let small : s < 8 = omega (arith, part_lt (bits 3 1) row.w0) in
        rw (e, tests (4 * s) row.w0 (omega arith) f.w0, tests (4 * s + 1) row.w1 (omega arith) f.w1, tests (4 * s + 2) row.w2 (omega arith) f.w2, tests (4 * s + 3) row.w3 (omega arith) f.w3)

    pub by_shape : Words row → tested (masked s row) (s % 4) (eqb (s / 4) 1) row ≡ (only_named row && good row)
    by_shape f = rw (only-named f, ← kind-is, ← last-is) by_kind

  -- the shape of a kind, not last-level and last-level
  module _ (s : ℕ) (small : s < 8) (k : s % 4 ≡ kind row) (l : eqb (s / 4) 1 ≡ is_last row) where
    shape-is : shape row ≡ s
    unfolding part
    shape-is =
        ⊎_elim
        (λ t. let up : s / 4 ≡ 1 = eqb-true _ _ (l ∙ t) in
        let high : row.w0 / 2 ^ 3 % 2 ≡ 1 = eqb-true _ _ t in
        omega (arith, k, up, high))
        (λ f. let up : s / 4 ≡ 1 → ⊥ = eqb-false _ _ (l ∙ f) in
        let high : row.w0 / 2 ^ 3 % 2 ≡ 1 → ⊥ = eqb-false _ _ f in
        omega (arith, k, up, high))
        (decided (is_last row))

    pub by_kind_and_level : Words row → tested (masked s row) (s % 4) (eqb (s / 4) 1) row ≡ (only_named row && good row)
    by_kind_and_level f = by_shape s shape-is f
