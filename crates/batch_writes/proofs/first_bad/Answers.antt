-- `batch_writes::first_bad` meets its contract: so far no command was bad.
-- Assumes nothing.
use native.Mathlib.Omega.{arith}
use Rattle.batch_writes.proofs.Judging.{begun, finds, continues, ends}
use Rattle.batch_writes.proofs.first_bad.Goals as goal

pub judge_at-requires : goal.judge_at-requires
judge_at-requires c = begun c.args.commands.now c.loop-i.i (omega (arith, c.requires))

pub returns-in-Err : goal.returns-in-Err
returns-in-Err c = search finds

pub loop-i-preserved : goal.loop-i-preserved
loop-i-preserved c = search continues

pub returns : goal.returns
returns c = search ends
