-- `transactions::steps::overridden` meets its contract.
-- Assumes nothing.
use Rattle.transactions.specs.Steps.{overridden}
use Rattle.transactions.proofs.steps.overridden.Goals as goal

pub returns : goal.returns
unfolding overridden
returns c = rw (c.overridden.ensures, c.overrides_of.ensures)
