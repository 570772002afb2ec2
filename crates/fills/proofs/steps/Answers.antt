-- `fills::steps` meets its contract: it is cut exactly if fewer stores are made than are due.
-- Assumes nothing.
use Rattle.fills.proofs.Order.{reports-cut, reports-filled}
use Rattle.fills.proofs.steps.Goals as goal

pub returns-then-made-due : goal.returns-then-made-due
returns-then-made-due c = record { reports = reports-cut _ _ _ c.make-made.ensures.counted c.if-made-due.true; leaves = c.make-made.ensures.leaves }

pub returns : goal.returns
returns c = record { reports = reports-filled _ _ _ c.make-made.ensures.counted c.if-made-due.false; leaves = c.make-made.ensures.leaves }
