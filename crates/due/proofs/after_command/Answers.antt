-- `due::after_command` meets its contract.
-- Assumes nothing.
use Rattle.due.proofs.Consuming.{made-pending, made_plain}
use Rattle.due.proofs.after_command.Goals as goal

pub returns-then-syncs_of-eq1 : goal.returns-then-syncs_of-eq1
returns-then-syncs_of-eq1 c = search made-pending

pub returns : goal.returns
returns c = made_plain _ _ _ _ c.consumed-next.ensures c.syncs_of.ensures c.if-syncs_of-eq1.false
