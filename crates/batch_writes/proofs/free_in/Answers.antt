-- `batch_writes::free_in` meets its contract.
-- Assumes nothing.
use Rattle.batch_writes.proofs.Placed.{free-is, free-none}
use Rattle.batch_writes.proofs.free_in.Goals as goal

pub returns-then-slots-waiting : goal.returns-then-slots-waiting
returns-then-slots-waiting c = search free-none

pub returns : goal.returns
returns c = search free-is
