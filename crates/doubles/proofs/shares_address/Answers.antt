-- `doubles::shares_address` meets its contract.
-- Assumes nothing.
use Rattle.doubles.specs.Doubles.{shares_address}
use Rattle.doubles.proofs.shares_address.Goals as goal

pub returns : goal.returns
unfolding shares_address
returns c =
    rw (c.overlap.ensures, c.power-2.ensures.0, c.span_of-2.ensures.0, c.power.ensures.0, c.span_of.ensures.0)
