-- `reader::second` meets its contract.
use Rattle.reader.specs.Slots.{after}
use Rattle.reader.proofs.second.Goals as goal

pub returns : goal.returns
unfolding after
returns c = rw (c.read.ensures, c.moved_on.ensures, c.new.ensures)
