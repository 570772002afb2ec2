-- What is read of a call's answer.
-- Assumes nothing.
use Rattle.std.specs.Prelude.{Bool, true, false, ℕ, List, slice_index}
use Rattle.script.specs.declared.answers.Answer.{Answer}
use Rattle.script.specs.declared.answers.Answer.TheVariants.{Ran, Filled, Recorded, Oldest, Translated, Untold, Accepted}
use Rattle.script.specs.declared.answers.End.{End}
use Rattle.script.specs.declared.answers.End.TheVariants.{Off, Held, Empty, Raised, Cut}
use Rattle.script.specs.declared.answers.FillEnd.{FillEnd}
use Rattle.script.specs.declared.answers.FillEnd.TheVariants.{Filled as Is-filled, Cut as Fill-cut}
use Rattle.script.specs.declared.answers.RecordEnd.{RecordEnd}
use Rattle.script.specs.declared.answers.RecordEnd.TheVariants.{Stored, Dropped, Cut as Record-cut}
use Rattle.script.specs.declared.answers.Refusal.{Refusal}

-- a refusal's number, of which the first word says more
abbrev pub refusal : ℕ → List ℕ → Refusal
refusal n w = record { number = n; place = slice_index w 0 }

-- what tells no stores makes one, but for a transaction
abbrev pub stores : Answer → ℕ
stores (Ran run) = run.stores
stores (Filled _ n) = n
stores (Recorded _ n) = n
stores (Oldest _) = 1
stores (Translated _) = 0
stores (Untold _) = 1
stores Accepted = 1

abbrev pub ends_cut : End → Bool
ends_cut Off = false
ends_cut Held = false
ends_cut Empty = false
ends_cut (Raised _ _) = false
ends_cut Cut = true

abbrev pub fill_ends_cut : FillEnd → Bool
fill_ends_cut Is-filled = false
fill_ends_cut Fill-cut = true

abbrev pub record_ends_cut : RecordEnd → Bool
record_ends_cut Stored = false
record_ends_cut Dropped = false
record_ends_cut Record-cut = true

abbrev pub is_cut : Answer → Bool
is_cut (Ran run) = ends_cut run.end
is_cut (Filled e _) = fill_ends_cut e
is_cut (Recorded e _) = record_ends_cut e
is_cut (Oldest _) = false
is_cut (Translated _) = false
is_cut (Untold _) = false
is_cut Accepted = false

-- a run's end alone, and any other answer whole
abbrev pub unsplit : Answer → Answer
unsplit (Ran run) = Ran (record { end = run.end; consumed = 0; stores = 0; removed = 0; syncs = 0 })
unsplit (Filled e n) = Filled e n
unsplit (Recorded e n) = Recorded e n
unsplit (Oldest w) = Oldest w
unsplit (Translated o) = Translated o
unsplit (Untold o) = Untold o
unsplit Accepted = Accepted
