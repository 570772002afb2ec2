-- Which row answers: the lowest that fits, a last-level one without a mark; and what may change in memory without changing it.
-- Assumes nothing.
use mathlib.Core.Path.{◌≡◌, refl, sym, ap, ◌∙◌}
use mathlib.Core.Bool.{true, false}
use mathlib.Core.List.{List}
use mathlib.Core.Logic.{◌⊎◌, ⊎_elim}
use Prim.Native.Nat.{ℕ, ◌<◌}
use native.Mathlib.Omega.{arith}
use Rattle.std.specs.Prelude.{None, Option, Some}
use Rattle.words.proofs.Truth.{left, right, clash}
use Rattle.words.proofs.Search.{Lowest, from_zero, found, lowest-same}
use Rattle.rows.specs.declared.Row.{Row}
use Rattle.rows.specs.Rows.{is_last, is_unmarked, may_answer}
use Rattle.rows.proofs.LastLevel.{answers-last, answers-unmarked}
use Rattle.image.specs.Image.{rows_in, row_at}
use Rattle.lookups.specs.declared.Wanted.{Wanted}
use Rattle.lookups.specs.Lookups.{fits, answers, answers_at, find, row_found, look}

-- row i is the lowest that answers
abbrev pub Answerer : List ℕ → Wanted → ℕ → Type 0
Answerer m w i = Lowest (answers_at m w) (rows_in m) 0 i

pub is_lowest : (m : List ℕ) (w : Wanted) (i : ℕ) → find m w ≡ Some i → Answerer m w i
unfolding find
is_lowest m w i e = found (answers_at m w) (rows_in m) 0 i (omega arith) (sym (from_zero (answers_at m w) (rows_in m)) ∙ e)

pub found_below : (m : List ℕ) (w : Wanted) (i : ℕ) → find m w ≡ Some i → i < rows_in m
found_below m w i e = (is_lowest m w i e).below

-- it is last-level and unmarked, and fits
pub only_answerers : (w : Wanted) (row : Row) → answers w row ≡ true → may_answer row ≡ true
unfolding answers
only_answerers w row e = left (may_answer row) (fits w row) e

pub only_last : (w : Wanted) (row : Row) → answers w row ≡ true → is_last row ≡ true
only_last w row e = answers-last row (only_answerers w row e)

pub only_unmarked : (w : Wanted) (row : Row) → answers w row ≡ true → is_unmarked row ≡ true
only_unmarked w row e = answers-unmarked row (only_answerers w row e)

pub answers-fits : (w : Wanted) (row : Row) → answers w row ≡ true → fits w row ≡ true
unfolding answers
answers-fits w row e = right (may_answer row) (fits w row) e

-- a hit: its place and its row
pub record HitAt (m : List ℕ) (w : Wanted) (row : Row) : Type 0 where
  pub place : ℕ
  pub lowest_is : Answerer m w place
  pub row_is : row_at m place ≡ row

module _ (m : List ℕ) (w : Wanted) where
  pub hit_at : (row : Row) → look m w ≡ Some row → HitAt m w row
  unfolding look
  hit_at row h = by_find (find m w) refl h
    where
      by_find : (f : Option ℕ) → find m w ≡ f → row_found m f ≡ Some row → HitAt m w row
      by_find (Some i) e h = record { place = i; lowest_is = is_lowest m w i e; row_is = cc }
      by_find None e h = let z : ◌≡◌ {A = ℕ} 0 1 = cc in absurd (omega arith)

  pub hit_answers : (row : Row) → look m w ≡ Some row → answers w row ≡ true
  unfolding answers_at
  hit_answers row h = let at = hit_at row h in rw (← at.row_is) at.lowest_is.passes

-- two rows of which a lookup makes the same: the same row, or neither may answer
abbrev pub Alike : Row → Row → Type 0
Alike row row' = (row ≡ row') ⊎ ((may_answer row ≡ false) × (may_answer row' ≡ false))

alike-answers : (w : Wanted) (row row' : Row) → Alike row row' → answers w row ≡ answers w row'
unfolding answers
alike-answers w row row' =
    ⊎_elim (λ e. rw e) (λ b. let p = b.0 in let q = b.1 in rw (p, q))

module _ (m m' : List ℕ) (w : Wanted) (rows : rows_in m ≡ rows_in m') (alike : (i : ℕ) → i < rows_in m' → Alike (row_at m i) (row_at m' i)) where
  find-same : find m w ≡ find m' w
  unfolding find answers_at
  find-same = rw rows (lowest-same (answers_at m w) (answers_at m' w) (rows_in m') 0 (λ j a b. alike-answers w (row_at m j) (row_at m' j) (alike j (omega arith))))

  pub look-same : look m w ≡ look m' w
  unfolding look answers_at
  look-same = rw find-same (by_find (find m' w) refl)
    where
      answered : (i : ℕ) → Answerer m' w i → may_answer (row_at m' i) ≡ true
      answered i a = only_answerers w (row_at m' i) a.passes

      by_find : (f : Option ℕ) → find m' w ≡ f → row_found m f ≡ row_found m' f
      by_find (Some i) e =
          let low = is_lowest m' w i e in
          ⊎_elim (λ s. ap Some s) (λ b. clash (answered i low) b.1) (alike i low.below)
      by_find None e = refl
