-- `batch_writes::placing::slot_at` meets its contract.
-- Assumes nothing.
use native.Mathlib.Omega.{arith}
use Rattle.batch_writes.proofs.Placed.{wr-small}
use Rattle.batch_writes.proofs.placing.slot_at.Goals as goal

pub overflow_add-wr_of : goal.overflow_add-wr_of
overflow_add-wr_of c = record { fits = omega (arith, c.wr_of.ensures, wr-small c.args.w) }
