-- `regions::fields::placed` meets its contract.
-- Assumes nothing.
use Rattle.regions.specs.Regions.{placed}
use Rattle.regions.proofs.fields.placed.Goals as goal

pub returns : goal.returns
unfolding placed
returns c = rw (c.bytes_of.ensures.0, c.size_code.ensures, c.power.ensures.0)
