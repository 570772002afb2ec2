-- `batch_writes::placing::place` meets its contract: so far the first i are in their slots.
-- Assumes nothing.
use Rattle.batch_writes.proofs.Placed.{Placing}
use Rattle.batch_writes.proofs.placing.place.Given as goal

abbrev pub invariant-loop-i : goal.invariant-loop-i
invariant-loop-i l =
    Placing l.commands l.w l.initial.queue l.n l.i l.queue
