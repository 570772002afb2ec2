-- Document 02, T-11: the second lent table, rows of two words; refusals 13 and 14.
-- Assumes nothing.
use Rattle.std.specs.Prelude.{ℕ, ◌+◌, ◌*◌, ◌/◌, Bool, not, ◌&&◌, List, eqb, leb, length, get_or, Err, None, Ok, Option, Result, Some}
use Rattle.words.specs.Choice.{pick}
use Rattle.words.specs.Search.{lowest, count}
use Rattle.regions.specs.declared.Region.{Region}
use Rattle.regions.specs.declared.Refusal.{Refusal}
use Rattle.regions.specs.declared.Refusal.TheVariants.{BadLength, BadRow}
use Rattle.regions.specs.Regions.{is_empty, well_formed}

-- the most rows
abbrev pub max_rows : ℕ
max_rows = 128

abbrev pub rows_in : List ℕ → ℕ
rows_in t = length t / 2

-- row i, counted from 0
unfoldable pub row_at : List ℕ → ℕ → Region
row_at t i = record { w0 = get_or t (2 * i) 0; w1 = get_or t (2 * i + 1) 0 }

-- 2 N words, N from 1 to the most
unfoldable pub length_good : List ℕ → Bool
length_good t = eqb (length t) (2 * rows_in t) && leb 1 (rows_in t) && leb (rows_in t) max_rows

unfoldable pub is_bad : List ℕ → ℕ → Bool
is_bad t i = not (well_formed (row_at t i))

abbrev pub by_rows : ℕ → Option ℕ → Result ℕ Refusal
by_rows n (Some i) = Err (BadRow i)
by_rows n None = Ok n

-- the number of rows, or the first refusal that applies; of ill-formed rows the lowest is named
unfoldable pub check : List ℕ → Result ℕ Refusal
check t = pick (not (length_good t)) (Err BadLength) (by_rows (rows_in t) (lowest (is_bad t) (rows_in t) 0))

-- a refused table is answered so, an accepted one of n rows goes on
abbrev pub checked : {A : Type 0} → Result ℕ Refusal → (Refusal → A) → (ℕ → A) → A
checked (Err why) refused next = refused why
checked (Ok n) refused next = next n

-- the paper's number of each refusal
abbrev pub number : Refusal → ℕ
number BadLength = 13
number (BadRow i) = 14

-- a row is used if it is not empty
unfoldable pub is_used : List ℕ → ℕ → Bool
is_used t i = not (is_empty (row_at t i))

-- the used ones of the first n rows
abbrev pub used_rows : List ℕ → ℕ → ℕ
used_rows t n = count (is_used t) n
