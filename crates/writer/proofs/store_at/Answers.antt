-- `writer::store_at` meets its contract: the low word, then the high one.
-- Assumes nothing.
use Rattle.writer.specs.Writing.{with_command}
use Rattle.writer.proofs.store_at.Goals as goal

-- src/lib.rt:84:1
pub returns : goal.returns
unfolding with_command
returns c = cc
