-- `commands::decoding::parameter_good` meets its contract.
-- Assumes nothing.
use Rattle.commands.specs.Decoding.{parameter_good}
use Rattle.commands.proofs.decoding.parameter_good.Goals as goal

pub returns : goal.returns
unfolding parameter_good
returns c = rw (c.bad_range.ensures, c.bad_cs.ensures)
