-- A last-level row is not empty, and a row that may answer is last-level and unmarked.
-- Assumes nothing.
use mathlib.Core.Path.{◌≡◌, ap}
use mathlib.Core.Bool.{true, false}
use mathlib.Core.Logic.{⊎_elim}
use Prim.Native.Nat.{ℕ}
use lib.Dec.{eqb}
use borrow.Author.Tests.{eqb-true}
use Rattle.words.specs.Parts.{part}
use Rattle.words.proofs.Truth.{left, right, clash, never, decided}
use Rattle.rows.specs.declared.Row.{Row}
use Rattle.rows.specs.Rows.{is_last, is_unmarked, may_answer, is_empty}

module _ (row : Row) where
  -- bit 3 of word 0 is set, so the row is not empty
  pub last-is-used : is_last row ≡ true → is_empty row ≡ false
  unfolding part
  last-is-used l = ⊎_elim (λ e. clash l (ap (λ (w : ℕ). eqb (part 3 3 w) 1) (eqb-true row.w0 0 e))) (λ e. e) (decided (is_empty row))

  pub empty-not-last : is_empty row ≡ true → is_last row ≡ false
  empty-not-last e = ⊎_elim (λ l. clash e (last-is-used l)) (λ f. f) (decided (is_last row))

  pub answers-last : may_answer row ≡ true → is_last row ≡ true
  answers-last e = left (is_last row) (is_unmarked row) e

  pub answers-unmarked : may_answer row ≡ true → is_unmarked row ≡ true
  answers-unmarked e = right (is_last row) (is_unmarked row) e

  -- so one that is not last-level, an empty one or a marked one may not
  pub not-last-silent : is_last row ≡ false → may_answer row ≡ false
  not-last-silent e = never (may_answer row) (λ t. clash (answers-last t) e)

  pub empty-silent : is_empty row ≡ true → may_answer row ≡ false
  empty-silent e = not-last-silent (empty-not-last e)

  pub marked-silent : is_unmarked row ≡ false → may_answer row ≡ false
  marked-silent e = never (may_answer row) (λ t. clash (answers-unmarked t) e)
