-- `batch_writes::commands_in` meets its contract.
-- Assumes nothing.
use Rattle.batch_writes.proofs.Judging.{all_whole, one-short}
use Rattle.batch_writes.proofs.commands_in.Goals as goal

pub returns-then-commands-eq0 : goal.returns-then-commands-eq0
returns-then-commands-eq0 c = search all_whole

pub returns : goal.returns
returns c = search one-short
