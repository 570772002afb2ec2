-- What the check of a table says: accepted exactly if every rule holds, and otherwise the first that is broken.
-- Assumes nothing.
use mathlib.Core.Path.{◌≡◌, refl, sym, ap, ◌∙◌}
use mathlib.Core.Bool.{Bool, true, false, not, ◌&&◌}
use mathlib.Core.List.{List}
use Prim.Native.Nat.{ℕ, ◌+◌, ◌*◌, ◌≤◌, ◌<◌}
use native.Mathlib.Omega.{arith}
use lib.Dec.{eqb, leb}
use lib.ListN.{length}
use borrow.Author.Tests.{eq-eqb, eqb-true, le-leb, leb-true, not-false}
use Rattle.words.specs.Search.{lowest}
use Rattle.std.specs.Prelude.{Err, None, Ok, Option, Result, Some}
use Rattle.regions.specs.declared.Refusal.{Refusal}
use Rattle.words.proofs.Truth.{left, right, and_true, clash}
use Rattle.words.proofs.Search.{Lowest, from_zero, found, none, found_lowest, is_none}
use Rattle.regions.specs.declared.Refusal.TheVariants.{BadLength, BadRow}
use Rattle.regions.specs.Regions.{well_formed}
use Rattle.regions.specs.Table.{max_rows, rows_in, row_at, length_good, is_bad, by_rows, check}

-- 2 n words, n from 1 to the most
pub record Long (t : List ℕ) (n : ℕ) : Type 0 where
  pub words : length t ≡ 2 * n
  pub some : 1 ≤ n
  pub few : n ≤ max_rows

module _ (t : List ℕ) where
  pub long : length_good t ≡ true → Long t (rows_in t)
  unfolding length_good
  long e =
      let a = eqb (length t) (2 * rows_in t) in
      let b = leb 1 (rows_in t) in
      let c = leb (rows_in t) max_rows in
      let ab = left (a && b) c e in
      record {
        words = eqb-true (length t) (2 * rows_in t) (left a b ab);
        some = leb-true 1 (rows_in t) (right a b ab);
        few = leb-true (rows_in t) max_rows (right (a && b) c e);
      }

  -- the number of rows is the only n
  pub rows_are : (n : ℕ) → Long t n → rows_in t ≡ n
  rows_are n l = omega (arith, l.words)

  pub of_long : (n : ℕ) → Long t n → length_good t ≡ true
  unfolding length_good
  of_long n l =
      rw (rows_are n l) (and_true (and_true (eq-eqb (length t) (2 * n) l.words) (le-leb 1 n l.some)) (le-leb n max_rows l.few))

  bad_length : length_good t ≡ false → check t ≡ Err BadLength
  unfolding check
  bad_length e = rw e

  pub rows_case : length_good t ≡ true → check t ≡ by_rows (rows_in t) (lowest (is_bad t) (rows_in t) 0)
  unfolding check
  rows_case e = rw e

  -- words for each row
  pub has_row : (n i : ℕ) → Long t n → i < n → 2 * i + 2 ≤ length t
  has_row n i l h = omega (arith, l.words)

-- an accepted table, rule by rule
pub record Accepts (t : List ℕ) (n : ℕ) : Type 0 where
  pub size : Long t n
  pub rows-formed : (i : ℕ) → i < n → well_formed (row_at t i) ≡ true

module _ (t : List ℕ) where
  row_formed : (i : ℕ) → is_bad t i ≡ false → well_formed (row_at t i) ≡ true
  unfolding is_bad
  row_formed i e = not-false (well_formed (row_at t i)) e

  formed_row : (i : ℕ) → well_formed (row_at t i) ≡ true → is_bad t i ≡ false
  unfolding is_bad
  formed_row i e = ap not e

  -- refusal 13, exactly if the length is no table's
  pub refuses_length : ((n : ℕ) → Long t n → ⊥) → check t ≡ Err BadLength
  refuses_length never-long = by_test (length_good t) refl
    where
      by_test : (b : Bool) → length_good t ≡ b → check t ≡ Err BadLength
      by_test true e = absurd (never-long (rows_in t) (long t e))
      by_test false e = bad_length t e

  -- refusal 14, exactly if the length is good and a row is ill formed; the lowest is named
  pub refuses_row : (n k : ℕ) → Long t n → Lowest (is_bad t) n 0 k → check t ≡ Err (BadRow k)
  refuses_row n k l low =
      rows_case t (of_long t n l) ∙ rw (rows_are t n l) (ap (by_rows n) (from_zero (is_bad t) n ∙ found_lowest (is_bad t) n 0 k low))

  -- accepted, exactly if all are good
  pub accepts : (n : ℕ) → Accepts t n → check t ≡ Ok n
  accepts n a =
      rows_case t (of_long t n a.size)
      ∙ rw (rows_are t n a.size)
      (ap (by_rows n) (from_zero (is_bad t) n ∙ is_none (is_bad t) n 0 (omega arith) (λ i l h. formed_row i (a.rows-formed i h))))

-- the converse: what each answer says of the table
pub record Says (t : List ℕ) (answer : Result ℕ Refusal) : Type 0 where
  pub length_refused : answer ≡ Err BadLength → (n : ℕ) → Long t n → ⊥
  pub row_refused : (k : ℕ) → answer ≡ Err (BadRow k) → Long t (rows_in t) × Lowest (is_bad t) (rows_in t) 0 k
  pub accepted : (n : ℕ) → answer ≡ Ok n → Accepts t n

module _ (t : List ℕ) where
  never {ℓ} : {A : Type ℓ} → ◌≡◌ {A = ℕ} 0 1 → A
  never z = absurd (omega arith)

  says-found : (f : Option ℕ) → lowest (is_bad t) (rows_in t) 0 ≡ f → length_good t ≡ true → Says t (by_rows (rows_in t) f)
  says-found (Some i) e good =
      record {
        length_refused = λ q. never (cc);
        row_refused = λ k q. (long t good, found (is_bad t) (rows_in t) 0 k (omega arith) (sym (from_zero (is_bad t) (rows_in t)) ∙ (cc)));
        accepted = λ n q. never (cc);
      }
  says-found None e good =
      record {
        length_refused = λ q. never (cc);
        row_refused = λ k q. never (cc);
        accepted = λ n q. record {
          size = rw (← rows_counted n q) (long t good);
          rows-formed = λ i h. row_formed t i (none (is_bad t) (rows_in t) 0 (omega arith) (sym (from_zero (is_bad t) (rows_in t)) ∙ e) i (omega arith) (rw (rows_counted n q) h));
        };
      }
    where
      rows_counted : (n : ℕ) → by_rows (rows_in t) None ≡ Ok n → rows_in t ≡ n
      rows_counted n q = cc

  pub says : Says t (check t)
  says = by_test (length_good t) refl
    where
      by_test : (b : Bool) → length_good t ≡ b → Says t (check t)
      by_test false e =
          rw (bad_length t e)
          (record { length_refused = λ q n l. clash (of_long t n l) e; row_refused = λ k q. never (cc); accepted = λ n q. never (cc) })
      by_test true e = rw (rows_case t e) (says-found (lowest (is_bad t) (rows_in t) 0) refl e)
