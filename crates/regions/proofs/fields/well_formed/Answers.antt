-- `regions::fields::well_formed` meets its contract.
-- Assumes nothing.
use Rattle.regions.specs.Regions.{well_formed}
use Rattle.regions.proofs.fields.well_formed.Goals as goal

pub returns : goal.returns
unfolding well_formed
returns c =
    rw (c.placed.ensures, c.is_known.ensures, c.size_code.ensures, c.part-2.ensures, c.part.ensures)
