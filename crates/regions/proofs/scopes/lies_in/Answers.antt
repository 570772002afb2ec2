-- `regions::scopes::lies_in` meets its contract, by the distance of the beginnings.
-- Assumes nothing.
use Rattle.regions.proofs.Containing.{longer, before, behind}
use Rattle.regions.proofs.scopes.lies_in.Goals as goal

pub returns-then-k-n : goal.returns-then-k-n
returns-then-k-n c = longer _ _ _ _ c.if-k-n.true

pub returns-then-a-b : goal.returns-then-a-b
returns-then-a-b c = before _ _ _ _ c.if-a-b.true

pub returns : goal.returns
returns c = behind _ _ _ _ c.if-a-b.false c.if-k-n.false
