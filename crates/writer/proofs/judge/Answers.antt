-- `writer::judge` meets its contract: each answer is that of what decoding says.
-- Assumes nothing.
use Rattle.writer.proofs.Judging.{tells-fit, tells-wide, tells-missing, tells-illegal}
use Rattle.writer.proofs.judge.Goals as goal

pub returns-then-same : goal.returns-then-same
returns-then-same c = search tells-fit

pub returns-then-d-absent : goal.returns-then-d-absent
returns-then-d-absent c = search tells-missing

pub returns-else-same : goal.returns-else-same
returns-else-same c = search tells-wide

pub returns-else-d-absent : goal.returns-else-d-absent
returns-else-d-absent c = search tells-illegal
