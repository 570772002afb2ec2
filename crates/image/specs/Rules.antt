-- Document 02, T-06: which images are accepted by given rules, so that it can be said that those accepted before still are. A
-- request that widens another rule adds it to the record.
-- Assumes nothing.
use Rattle.std.specs.Prelude.{◌≡◌, true, List, ℕ, ◌+◌, ◌*◌, ◌^◌, ◌≤◌, ◌<◌, length}
use Rattle.words.specs.Ranges.{Range, bits, get}
use Rattle.control.specs.Control.{zero_bits, rd, wr, err, log2size, max_log2, active, distance}
use Rattle.row_forms.specs.WellFormed as rows
use Rattle.row_forms.specs.WellFormed.{RowRules}
use Rattle.image.specs.Image.{max_rows, control_of, row_at}

-- the rules that were widened: the largest LOG2SIZE, the most rows, (T-08) the bits of the control word
-- that are 0, and (T-04) those of the rows
pub record Rules : Type 0 where
  pub most_log2 : ℕ
  pub most_rows : ℕ
  pub zeros : Range
  pub rows : RowRules

-- as document 01 has them
abbrev pub document01 : Rules
document01 = record { most_log2 = 8; most_rows = 128; zeros = bits 63 55; rows = rows.document01 }

-- as the check has them
abbrev pub present : Rules
present = record { most_log2 = max_log2; most_rows = max_rows; zeros = zero_bits; rows = rows.present }

-- a well-formed control word
pub record FormedBy (rules : Rules) (w : ℕ) : Type 0 where
  pub zeroes : get rules.zeros w ≡ 0
  pub small : log2size w ≤ rules.most_log2
  pub rd_in : rd w < 2 ^ (log2size w + 1)
  pub wr_in : wr w < 2 ^ (log2size w + 1)
  pub apart : distance w ≤ 2 ^ log2size w
  pub known : err w ≤ 1
  pub told : active w ≡ true → err w ≡ 1

-- an image of n rows
pub record AcceptedBy (rules : Rules) (m : List ℕ) (n : ℕ) : Type 0 where
  pub words : length m ≡ 1 + 4 * n
  pub some : 1 ≤ n
  pub few : n ≤ rules.most_rows
  pub control_formed : FormedBy rules (control_of m)
  pub rows-formed : (i : ℕ) → i < n → rows.well_formed_by rules.rows (row_at m i) ≡ true
