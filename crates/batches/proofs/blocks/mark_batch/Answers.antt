-- `batches::blocks::mark_batch` meets its contract: after k commands the marks are those of the first k.
-- Assumes nothing.
use Rattle.batches.proofs.Marks.{none_yet, one_more}
use Rattle.batches.proofs.blocks.mark_batch.Goals as goal

pub loop-k-init : goal.loop-k-init
loop-k-init c = none_yet _ _ _ _ _ _ c.requires.1

pub loop-k-preserved : goal.loop-k-preserved
loop-k-preserved c = one_more c.loop-k.invariant c.loop-k-test.true c.decode_at-d.ensures c.mark_command.auto.marks c.mark_command.ensures
