-- `batches::blocks::mark_batch` meets its contract: after k commands the marks are those of the first k.
-- Assumes nothing.
use Rattle.memory.specs.Lending.{lent}
use Rattle.batches.proofs.Marks.{Going}
use Rattle.batches.proofs.blocks.mark_batch.Given as goal

abbrev pub invariant-loop-k : goal.invariant-loop-k
invariant-loop-k l =
    Going l.f l.batch (lent l.m) l.base l.n l.initial.marks l.marks l.k
