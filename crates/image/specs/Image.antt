-- Document 01, The kept memory, and When the unit says no: one control word, then the rows; refusals 1, 2 and 3.
-- Assumes nothing.
use Rattle.std.specs.Prelude.{ℕ, ◌+◌, ◌*◌, ◌/◌, Bool, not, ◌&&◌, List, eqb, leb, length, get_or, Err, None, Ok, Option, Result, Some}
use Rattle.words.specs.Choice.{pick}
use Rattle.words.specs.Search.{lowest, count}
use Rattle.control.specs.Control as control
use Rattle.rows.specs.declared.Row.{Row}
use Rattle.rows.specs.Rows.{is_empty}
use Rattle.row_forms.specs.WellFormed as rows
use Rattle.image.specs.declared.Refusal.{Refusal}
use Rattle.image.specs.declared.Refusal.TheVariants.{BadLength, BadControl, BadRow}

-- the most rows (document 02, T-06)
abbrev pub max_rows : ℕ
max_rows = 1000

abbrev pub rows_in : List ℕ → ℕ
rows_in m = length m / 4

abbrev pub control_of : List ℕ → ℕ
control_of m = get_or m 0 0

-- row i, counted from 0
unfoldable pub row_at : List ℕ → ℕ → Row
row_at m i =
    record {
      w0 = get_or m (4 * i + 1) 0;
      w1 = get_or m (4 * i + 2) 0;
      w2 = get_or m (4 * i + 3) 0;
      w3 = get_or m (4 * i + 4) 0;
    }

-- 1 + 4 N words, N from 1 to the most
unfoldable pub length_good : List ℕ → Bool
length_good m = eqb (length m) (1 + 4 * rows_in m) && leb 1 (rows_in m) && leb (rows_in m) max_rows

unfoldable pub is_bad : List ℕ → ℕ → Bool
is_bad m i = not (rows.well_formed (row_at m i))

abbrev pub by_rows : ℕ → Option ℕ → Result ℕ Refusal
by_rows n (Some i) = Err (BadRow i)
by_rows n None = Ok n

-- the number of rows, or the first refusal that applies; of ill-formed rows the lowest is named
unfoldable pub check : List ℕ → Result ℕ Refusal
check m =
    pick (not (length_good m)) (Err BadLength)
    (pick (not (control.well_formed (control_of m))) (Err BadControl)
    (by_rows (rows_in m) (lowest (is_bad m) (rows_in m) 0)))

-- refusals 1, 2 and 3 come first in every call: a refused image is answered so, an accepted one of n rows goes on
abbrev pub checked : {A : Type 0} → Result ℕ Refusal → (Refusal → A) → (ℕ → A) → A
checked (Err why) refused next = refused why
checked (Ok n) refused next = next n

-- the paper's number of each refusal
abbrev pub number : Refusal → ℕ
number BadLength = 1
number BadControl = 2
number (BadRow i) = 3

-- a row is used if it is not empty
unfoldable pub is_used : List ℕ → ℕ → Bool
is_used m i = not (is_empty (row_at m i))

-- the used ones of the first n rows
abbrev pub used_rows : List ℕ → ℕ → ℕ
used_rows m n = count (is_used m) n
