-- What the check of an image says: accepted exactly if every rule holds, and otherwise the first that is broken.
-- Assumes nothing.
use mathlib.Core.Path.{◌≡◌, refl, sym, ap, ◌∙◌}
use mathlib.Core.Bool.{Bool, true, false, not, ◌&&◌}
use mathlib.Core.List.{List}
use Prim.Native.Nat.{ℕ, ◌+◌, ◌*◌, ◌≤◌, ◌<◌}
use native.Mathlib.Omega.{arith}
use lib.Dec.{eqb, leb}
use lib.ListN.{length}
use borrow.Author.Tests.{eq-eqb, eqb-true, le-leb, leb-true, not-false}
use Rattle.words.specs.Search.{lowest}
use Rattle.std.specs.Prelude.{Err, None, Ok, Option, Result, Some}
use Rattle.image.specs.declared.Refusal.{Refusal}
use Rattle.words.proofs.Truth.{left, right, and_true, clash}
use Rattle.words.proofs.Search.{Lowest, from_zero, found, none, found_lowest, is_none}
use Rattle.control.specs.Control as control
use Rattle.row_forms.specs.WellFormed as rows
use Rattle.image.specs.declared.Refusal.TheVariants.{BadLength, BadControl, BadRow}
use Rattle.image.specs.Image.{max_rows, rows_in, control_of, row_at, length_good, is_bad, by_rows, check}

-- 1 + 4 n words, n from 1 to the most
pub record Long (m : List ℕ) (n : ℕ) : Type 0 where
  pub words : length m ≡ 1 + 4 * n
  pub some : 1 ≤ n
  pub few : n ≤ max_rows

module _ (m : List ℕ) where
  pub long : length_good m ≡ true → Long m (rows_in m)
  unfolding length_good
  long e =
      let a = eqb (length m) (1 + 4 * rows_in m) in
      let b = leb 1 (rows_in m) in
      let c = leb (rows_in m) max_rows in
      let ab = left (a && b) c e in
      record {
        words = eqb-true (length m) (1 + 4 * rows_in m) (left a b ab);
        some = leb-true 1 (rows_in m) (right a b ab);
        few = leb-true (rows_in m) max_rows (right (a && b) c e);
      }

  -- the number of rows is the only n
  pub rows_are : (n : ℕ) → Long m n → rows_in m ≡ n
  rows_are n l = omega (arith, l.words)

  pub of_long : (n : ℕ) → Long m n → length_good m ≡ true
  unfolding length_good
  of_long n l =
      rw (rows_are n l) (and_true (and_true (eq-eqb (length m) (1 + 4 * n) l.words) (le-leb 1 n l.some)) (le-leb n max_rows l.few))

  pub bad_length : length_good m ≡ false → check m ≡ Err BadLength
  unfolding check
  bad_length e = rw e

  pub bad_control : length_good m ≡ true → control.well_formed (control_of m) ≡ false → check m ≡ Err BadControl
  unfolding check
  bad_control e f = rw (e, f)

  pub rows_case : length_good m ≡ true → control.well_formed (control_of m) ≡ true → check m ≡ by_rows (rows_in m) (lowest (is_bad m) (rows_in m) 0)
  unfolding check
  rows_case e f = rw (e, f)

-- an accepted image, rule by rule
pub record Accepts (m : List ℕ) (n : ℕ) : Type 0 where
  pub size : Long m n
  pub control_formed : control.well_formed (control_of m) ≡ true
  pub rows-formed : (i : ℕ) → i < n → rows.well_formed (row_at m i) ≡ true

module _ (m : List ℕ) where
  row_formed : (i : ℕ) → is_bad m i ≡ false → rows.well_formed (row_at m i) ≡ true
  unfolding is_bad
  row_formed i e = not-false (rows.well_formed (row_at m i)) e

  formed_row : (i : ℕ) → rows.well_formed (row_at m i) ≡ true → is_bad m i ≡ false
  unfolding is_bad
  formed_row i e = ap not e

  -- refusal 1, exactly if the length is no image's
  pub refuses_length : ((n : ℕ) → Long m n → ⊥) → check m ≡ Err BadLength
  refuses_length never-long = by_test (length_good m) refl
    where
      by_test : (t : Bool) → length_good m ≡ t → check m ≡ Err BadLength
      by_test true e = absurd (never-long (rows_in m) (long m e))
      by_test false e = bad_length m e

  -- refusal 2, exactly if the length is good and the control word ill formed
  pub refuses_control : (n : ℕ) → Long m n → control.well_formed (control_of m) ≡ false → check m ≡ Err BadControl
  refuses_control n l e = bad_control m (of_long m n l) e

  -- refusal 3, exactly if both are good and a row is ill formed; the lowest is named
  pub refuses_row : (n k : ℕ) → Long m n → control.well_formed (control_of m) ≡ true → Lowest (is_bad m) n 0 k → check m ≡ Err (BadRow k)
  refuses_row n k l e low =
      rows_case m (of_long m n l) e
      ∙ rw (rows_are m n l) (ap (by_rows n) (from_zero (is_bad m) n ∙ found_lowest (is_bad m) n 0 k low))

  -- accepted, exactly if all are good
  pub accepts : (n : ℕ) → Accepts m n → check m ≡ Ok n
  accepts n a =
      rows_case m (of_long m n a.size) a.control_formed
      ∙ rw (rows_are m n a.size)
      (ap (by_rows n) (from_zero (is_bad m) n ∙ is_none (is_bad m) n 0 (omega arith) (λ i l h. formed_row i (a.rows-formed i h))))

-- the converse: what each answer says of the image
pub record Says (m : List ℕ) (answer : Result ℕ Refusal) : Type 0 where
  pub length_refused : answer ≡ Err BadLength → (n : ℕ) → Long m n → ⊥
  pub control_refused : answer ≡ Err BadControl → Long m (rows_in m) × (control.well_formed (control_of m) ≡ false)
  pub row_refused : (k : ℕ) → answer ≡ Err (BadRow k) → Long m (rows_in m) × (control.well_formed (control_of m) ≡ true) × Lowest (is_bad m) (rows_in m) 0 k
  pub accepted : (n : ℕ) → answer ≡ Ok n → Accepts m n

module _ (m : List ℕ) where
  never {ℓ} : {A : Type ℓ} → ◌≡◌ {A = ℕ} 0 1 → A
  never z = absurd (omega arith)

  says-found : (f : Option ℕ) → lowest (is_bad m) (rows_in m) 0 ≡ f → length_good m ≡ true → control.well_formed (control_of m) ≡ true
      → Says m (by_rows (rows_in m) f)
  says-found (Some i) e good formed =
      record {
        length_refused = λ q. never (cc);
        control_refused = λ q. never (cc);
        row_refused = λ k q. (long m good, formed, found (is_bad m) (rows_in m) 0 k (omega arith) (sym (from_zero (is_bad m) (rows_in m)) ∙ (cc)));
        accepted = λ n q. never (cc);
      }
  says-found None e good formed =
      record {
        length_refused = λ q. never (cc);
        control_refused = λ q. never (cc);
        row_refused = λ k q. never (cc);
        accepted = λ n q. record {
          size = rw (← rows_counted n q) (long m good);
          control_formed = formed;
          rows-formed = λ i h. row_formed m i (none (is_bad m) (rows_in m) 0 (omega arith) (sym (from_zero (is_bad m) (rows_in m)) ∙ e) i (omega arith) (rw (rows_counted n q) h));
        };
      }
    where
      rows_counted : (n : ℕ) → by_rows (rows_in m) None ≡ Ok n → rows_in m ≡ n
      rows_counted n q = cc

  pub says : Says m (check m)
  says = by_tests (length_good m) refl (control.well_formed (control_of m)) refl
    where
      by_tests : (t : Bool) → length_good m ≡ t → (u : Bool) → control.well_formed (control_of m) ≡ u → Says m (check m)
      by_tests false e u f =
          rw (bad_length m e)
          (record {
            length_refused = λ q n l. clash (of_long m n l) e;
            control_refused = λ q. never (cc);
            row_refused = λ k q. never (cc);
            accepted = λ n q. never (cc);
          })
      by_tests true e false f =
          rw (bad_control m e f)
          (record {
            length_refused = λ q. never (cc);
            control_refused = λ q. (long m e, f);
            row_refused = λ k q. never (cc);
            accepted = λ n q. never (cc);
          })
      by_tests true e true f = rw (rows_case m e f) (says-found (lowest (is_bad m) (rows_in m) 0) refl e f)
