-- `batch_writes::placing::place` meets its contract: so far the first i are in their slots.
-- Assumes nothing.
use Rattle.batch_writes.proofs.Placed.{begins, again}
use Rattle.batch_writes.proofs.placing.place.Goals as goal

pub loop-i-init : goal.loop-i-init
loop-i-init c = search begins

pub loop-i-preserved : goal.loop-i-preserved
loop-i-preserved c = search again
