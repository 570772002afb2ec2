-- Document 02, T-12: a queue whose waiting commands are exactly a batch.
-- Assumes nothing.
use Rattle.std.specs.Prelude.{◌≡◌, true, false, List, ℕ, ◌*◌, ◌^◌, ◌<◌, length, Ok, Result}
use Rattle.control.specs.Control as control
use Rattle.commands.specs.declared.Features.{Features}
use Rattle.commands.specs.Decoding.{decode_at}
use Rattle.runs.specs.declared.End.TheVariants.{Empty}
use Rattle.runs.specs.declared.Ran.{Ran}
use Rattle.runs.specs.declared.RunRefusal.{RunRefusal}
use Rattle.batches.specs.Batches.{size}
use Rattle.promises.specs.Found.{command_at}

-- the control word w and the queue: enabled, with no error, and from RD on the commands of the batch in their order, and no more
pub record Waits (f : Features) (batch queue : List ℕ) (w : ℕ) : Type 0 where
  pub formed : control.well_formed w ≡ true
  pub long : length queue ≡ 16 * 2 ^ control.log2size w
  pub enabled : control.cmdqen w ≡ 0 → ⊥
  pub quiet : control.active w ≡ false
  pub as_many : control.distance w ≡ size batch
  pub are : (t : ℕ) → t < size batch → command_at f queue w t ≡ decode_at f batch t

-- a run was carried out, and ended Empty
pub record EndsEmpty (answer : Result Ran RunRefusal) : Type 0 where
  pub ran : Ran
  pub is_done : answer ≡ Ok ran
  pub ends_empty : ran.end ≡ Empty
