-- `batches::judge` meets its contract: each return is a case of the definition.
-- Assumes nothing.
use Rattle.batches.proofs.Calling.{original-unfit, proposed-unfit, rows-differ, rows_same}
use Rattle.batches.proofs.judge.Goals as goal

pub returns-in-Some : goal.returns-in-Some
returns-in-Some c = search (original-unfit, c.args.m.whole)

pub returns-in-Some-second : goal.returns-in-Some-second
returns-in-Some-second c = search (proposed-unfit, c.args.m.whole)

pub returns-in-Some-lowest_apart : goal.returns-in-Some-lowest_apart
returns-in-Some-lowest_apart c = search (rows-differ, c.args.m.whole)

pub returns-in-None : goal.returns-in-None
returns-in-None c = search (rows_same, c.args.m.whole)
