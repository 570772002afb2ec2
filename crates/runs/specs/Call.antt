-- Document 01, When the unit says no, with document 02, T-11: the call of a run, with refusals 1, 2, 3, then 13 and 14, then 4.
-- Assumes nothing.
use Rattle.std.specs.Prelude.{Bool, not, List, ℕ, ◌*◌, ◌^◌, eqb, length, Err, Ok, Result}
use Rattle.words.specs.Choice.{pick}
use Rattle.words.specs.Outcomes.{Outcome, with}
use Rattle.control.specs.Control as control
use Rattle.commands.specs.declared.Features.{Features}
use Rattle.image.specs.Image as image
use Rattle.regions.specs.Table as regions
use Rattle.memory.specs.Memory.{Memory, control_of}
use Rattle.runs.specs.declared.RunRefusal.{RunRefusal}
use Rattle.runs.specs.declared.RunRefusal.TheVariants.{Image, Table, BadQueue}
use Rattle.runs.specs.declared.Ran.{Ran}
use Rattle.runs.specs.Running.{Out, run}

-- the paper's number of each refusal
abbrev pub number : RunRefusal → ℕ
number (Image why) = image.number why
number (Table why) = regions.number why
number BadQueue = 4

-- 16 bytes for each of 2 ^ LOG2SIZE slots
abbrev pub queue_good : List ℕ → Memory → Bool
queue_good queue m = eqb (length queue) (16 * 2 ^ control.log2size (control_of m))

abbrev pub refused : RunRefusal → Memory → Outcome Memory (Result Ran RunRefusal)
refused why m = with (Err why) m

abbrev pub done : Out Memory → Outcome Memory (Result Ran RunRefusal)
done o = with (Ok o.ran) o.memory

unfoldable pub call : Features → List ℕ → ℕ → Memory → Outcome Memory (Result Ran RunRefusal)
call f queue k m =
    image.checked (image.check m.kept) (λ why. refused (Image why) m)
    (λ n. regions.checked (regions.check m.table) (λ why. refused (Table why) m)
    (λ r. pick (not (queue_good queue m)) (refused BadQueue m) (done (run f queue k m))))
