-- Document 02, T-10: the commands that wait after a batch was written, and a run over them.
-- Assumes nothing.
use Rattle.std.specs.Prelude.{◌≡◌, List, ℕ, ◌+◌, ◌<◌, Ok, Result}
use Rattle.control.specs.Control as control
use Rattle.commands.specs.declared.Features.{Features}
use Rattle.commands.specs.declared.Command.{Command}
use Rattle.commands.specs.declared.Decoded.{Decoded}
use Rattle.commands.specs.declared.Decoded.TheVariants.{Legal}
use Rattle.runs.specs.declared.End.TheVariants.{Empty}
use Rattle.runs.specs.declared.Ran.{Ran}
use Rattle.runs.specs.declared.RunRefusal.{RunRefusal}
use Rattle.writer.specs.Layouts.{fields_of}
use Rattle.batch_writes.specs.Batch.{words_of, commands_in}
use Rattle.promises.specs.Found.{command_at}

-- it is command i of those asked for, with the same fields
pub record AskedFor (ws : List ℕ) (i : ℕ) (d : Decoded) : Type 0 where
  pub command : Command
  pub is_command : d ≡ Legal command
  pub same_fields : fields_of command ≡ words_of ws i

-- a run that was carried out, consumed so many and ended Empty
pub record ConsumesAll (many : ℕ) (answer : Result Ran RunRefusal) : Type 0 where
  pub ran : Ran
  pub is_done : answer ≡ Ok ran
  pub ends_empty : ran.end ≡ Empty
  pub consumed : ran.consumed ≡ many

-- what waited still waits, then exactly the commands asked for, and the run consumes them all
pub record RunsThrough (f : Features) (ws queue queue' : List ℕ) (w w' : ℕ) (answer : Result Ran RunRefusal) : Type 0 where
  pub waited : (t : ℕ) → t < control.distance w → command_at f queue' w' t ≡ command_at f queue w t
  pub written : (i : ℕ) → i < commands_in ws → AskedFor ws i (command_at f queue' w' (control.distance w + i))
  pub consumes : ConsumesAll (control.distance w + commands_in ws) answer
