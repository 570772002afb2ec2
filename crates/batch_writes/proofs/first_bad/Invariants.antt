-- `batch_writes::first_bad` meets its contract: so far no command was bad.
-- Assumes nothing.
use Rattle.batch_writes.proofs.Judging.{Looking}
use Rattle.batch_writes.proofs.first_bad.Given as goal

abbrev pub invariant-loop-i : goal.invariant-loop-i
invariant-loop-i l =
    Looking l.f l.commands l.n l.i
