-- `lookups::answers` meets its contract.
-- Assumes nothing.
use Rattle.lookups.specs.Lookups.{answers}
use Rattle.lookups.proofs.answers.Goals as goal

pub returns : goal.returns
unfolding answers
returns c = rw (c.fits.ensures, c.may_answer.ensures)
