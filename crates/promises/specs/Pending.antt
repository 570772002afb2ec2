-- Document 02, T-08: a bit that each CMD_SYNC with CS 1 sets.
-- Assumes nothing.
use Rattle.std.specs.Prelude.{ℕ, eqb}
use Rattle.words.specs.Choice.{pick}

-- after so many of them: set by one, or as it was
abbrev pub set_by : ℕ → ℕ → ℕ
set_by syncs before = pick (eqb syncs 0) before 1
