-- `interface::asked::transaction_of` meets its contract.
-- Assumes nothing.
use Rattle.interface.specs.Asked.{transaction_of}
use Rattle.interface.proofs.asked.transaction_of.Goals as goal

pub returns : goal.returns
unfolding transaction_of
returns c = rw (c.bit-3.ensures, c.bit-2.ensures, c.bit.ensures)
