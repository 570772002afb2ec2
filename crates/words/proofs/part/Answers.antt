-- `words::part` meets its contract.
-- Assumes nothing.
use Rattle.words.specs.Parts.{part}
use Rattle.words.proofs.part.Goals as goal

pub returns : goal.returns
unfolding part
returns c = rw c.power.ensures.0
