-- `transactions::steps::output` meets its contract.
-- Assumes nothing.
use Rattle.rows.specs.Rows.{parts_of}
use Rattle.transactions.specs.Steps.{output}
use Rattle.transactions.proofs.steps.output.Goals as goal

pub returns : goal.returns
unfolding output parts_of
returns c =
    rw (c.privileged.ensures, c.instruction.ensures, c.settled.ensures, c.parts_of-p.ensures)
