-- `batches::blocks::mark_rows` meets its contract: the rows in scope are marked one after the other, the rest stay as before.
-- Assumes nothing.
use Prim.Native.Nat.{◌-◌}
use Rattle.memory.specs.Lending.{lent}
use Rattle.memory.specs.Memory.{scoped_at}
use Rattle.batches.proofs.Marks.{Marking}
use Rattle.batches.proofs.blocks.mark_rows.Given as goal

abbrev pub invariant-loop-i : goal.invariant-loop-i
invariant-loop-i l =
    Marking (scoped_at l.f l.c (lent l.m)) l.rows l.base l.end l.initial.marks l.marks l.i

abbrev pub decreases-loop-i : goal.decreases-loop-i
decreases-loop-i l =
    l.end - l.i
