-- `batch_writes::ring` meets its contract.
-- Assumes nothing.
use native.Mathlib.Omega.{arith}
use Rattle.batch_writes.proofs.Placed.{wr-small, rings}
use Rattle.batch_writes.proofs.ring.Goals as goal

pub overflow_add-next : goal.overflow_add-next
overflow_add-next c = record { fits = omega (arith, c.wr_of.ensures, wr-small c.args.w) }

pub returns : goal.returns
returns c = search rings
