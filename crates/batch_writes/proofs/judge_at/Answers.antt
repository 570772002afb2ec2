-- `batch_writes::judge_at` meets its contract: a command that is not whole does not fit.
-- Assumes nothing.
use Rattle.batch_writes.proofs.Judging.{broken, whole}
use Rattle.batch_writes.proofs.judge_at.Goals as goal

pub returns-then-commands-at-lt-WIDE : goal.returns-then-commands-at-lt-WIDE
returns-then-commands-at-lt-WIDE c = search broken

pub returns : goal.returns
returns c = search whole
