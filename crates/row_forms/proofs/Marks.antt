-- Document 02, T-05: only stage 1 rows are marked, and no row of document 01 is.
-- Assumes nothing.
use mathlib.Core.Path.{◌≡◌, refl, sym, ap, ◌∙◌}
use mathlib.Core.Bool.{Bool, true, false, not, ◌&&◌, ◌||◌}
use mathlib.Core.List.{[]}
use mathlib.Core.Logic.{⊎_elim}
use Prim.Native.Nat.{ℕ, ◌+◌, ◌*◌, ◌/◌, ◌%◌, ◌^◌, ◌<◌}
use native.Mathlib.Nat.{div-div-eq-div-mul}
use native.Mathlib.Omega.{arith}
use lib.Dec.{eqb}
use lib.ListN.{get_or}
use borrow.Author.Tests.{eqb-true, eq-eqb, eqb-false, not-true}
use Rattle.words.specs.Parts.{part, is_set}
use Rattle.words.specs.Ranges.{bits, get, named, all, only_in}
use Rattle.words.proofs.Parts.{part_lt}
use Rattle.words.proofs.Table.{all-at}
use Rattle.words.proofs.Masks.{reads}
use Rattle.words.proofs.Truth.{left, right, either, clash, decided, never}
use Rattle.rows.specs.declared.Row.{Row}
use Rattle.rows.specs.Rows.{ste, cd, stage1, kind, is_empty, is_unmarked, mark, valid_bits}
use Rattle.row_forms.specs.WellFormed.{named_parts, shape, only_named, document01, good_by, well_formed_by}
use Rattle.row_forms.proofs.Halves.{stage-formed, mark-asked}

-- the marks' bits are named in word 0 of stage 1 rows alone
spares : ℕ → Bool
spares s =
    eqb (s % 4) stage1
    || (not (named (get_or named_parts (4 * s) []) 11) && not (named (get_or named_parts (4 * s) []) 12))

all_spare : all 8 spares ≡ true
unfolding spares
all_spare = refl

module _ (row : Row) where
  pub shape-kind : shape row % 4 ≡ kind row
  unfolding part
  shape-kind = omega arith

  -- bits that may not be set are 0
  clear : (i : ℕ) → i < 64 → only_named row ≡ true → not (named (get_or named_parts (4 * shape row) []) i) ≡ true → is_set i row.w0 ≡ false
  unfolding only_named
  clear i h o n =
      let at = get_or named_parts (4 * shape row) [] in
      let w1 = only_in (get_or named_parts (4 * shape row + 1) []) row.w1 in
      let w2 = only_in (get_or named_parts (4 * shape row + 2) []) row.w2 in
      let w3 = only_in (get_or named_parts (4 * shape row + 3) []) row.w3 in
      let w0 = only_in at row.w0 in
      let first = left w0 w1 (left (w0 && w1) w2 (left (w0 && w1 && w2) w3 o)) in
      never (is_set i row.w0) (λ s. clash (reads (named at) 64 row.w0 first i h s) (not-true (named at i) n))

  bits-clear : is_set 11 row.w0 ≡ false → is_set 12 row.w0 ≡ false → is_unmarked row ≡ true
  unfolding is_set part
  bits-clear e f =
      let x = row.w0 / 2 ^ 11 in
      let p = eqb-false (x % 2) 1 e in
      let q : x / 2 % 2 ≡ 1 → ⊥ = λ s. eqb-false (row.w0 / 2 ^ 12 % 2) 1 f (ap (λ (y : ℕ). y % 2) (sym (div-div-eq-div-mul row.w0 (2 ^ 11) 2)) ∙ s) in
      let z : x % 4 ≡ 0 = omega (arith, p, q) in
      eq-eqb (mark row) 0 z

  pub stage1-alone-marked : only_named row ≡ true → eqb (kind row) stage1 ≡ false → is_unmarked row ≡ true
  unfolding spares
  stage1-alone-marked o k =
      let eleven = not (named (get_or named_parts (4 * shape row) []) 11) in
      let twelve = not (named (get_or named_parts (4 * shape row) []) 12) in
      let spared = all-at 8 spares all_spare (shape row) (part_lt (bits 3 1) row.w0) in
      ⊎_elim (λ e. clash (rw shape-kind at e) k)
      (λ e. bits-clear (clear 11 (omega arith) o (left eleven twelve e)) (clear 12 (omega arith) o (right eleven twelve e)))
      (either (eqb (shape row % 4) stage1) (eleven && twelve) spared)

  empty-unmarked : is_empty row ≡ true → is_unmarked row ≡ true
  unfolding part
  empty-unmarked e = ap (λ (w : ℕ). eqb (part 12 11 w) 0) (eqb-true row.w0 0 e)

-- stage 1 rows by the rule, every other kind by its named parts
pub old_unmarked : (row : Row) → well_formed_by document01 row ≡ true → is_unmarked row ≡ true
unfolding well_formed_by
old_unmarked row f = ⊎_elim (λ e. empty-unmarked row e) used (decided (is_empty row))
  where
    used : is_empty row ≡ false → is_unmarked row ≡ true
    used u =
        let valid = eqb (get valid_bits row.w0) 1 in
        let o = right valid (only_named row) (left (valid && only_named row) (good_by document01 row) (rw u at f)) in
        ⊎_elim
        (λ k. let is = eqb-true (kind row) stage1 k in
        mark-asked document01 row (stage-formed document01 row f u (ap (λ (x : ℕ). eqb x ste) is) (ap (λ (x : ℕ). eqb x cd) is)))
        (λ k. stage1-alone-marked row o k)
        (decided (eqb (kind row) stage1))
