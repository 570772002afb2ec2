-- Document 01, One run: the sums.
-- Assumes nothing.
use Rattle.std.specs.Prelude.{ℕ}
use Rattle.due.specs.Due.{What, Remove, Consume, Raise}
use Rattle.runs.specs.declared.End.{End}
use Rattle.runs.specs.declared.End.TheVariants.{Off, Held, Empty, Raised, Cut}

-- one if Raised
abbrev pub raise : End → ℕ
raise Off = 0
raise Held = 0
raise Empty = 0
raise (Raised told) = 1
raise Cut = 0

-- how many rows a store removes
abbrev pub removed_by : What → ℕ
removed_by Remove = 1
removed_by (Consume y) = 0
removed_by (Raise told) = 0
