-- `batches::blocks::mark_command` meets its contract.
-- Assumes nothing.
use Rattle.batches.proofs.Marks.{adds-idle, adds-rows}
use Rattle.batches.proofs.blocks.mark_command.Goals as goal

pub returns-then-not-idle : goal.returns-then-not-idle
returns-then-not-idle c = search adds-rows

pub returns-else-not-idle : goal.returns-else-not-idle
returns-else-not-idle c = search adds-idle
