-- `lookups::answers_at` meets its contract.
-- Assumes nothing.
use Rattle.lookups.specs.Lookups.{answers_at}
use Rattle.lookups.proofs.answers_at.Goals as goal

pub returns : goal.returns
unfolding answers_at
returns c = rw (c.answers.ensures, c.row_at.ensures)
