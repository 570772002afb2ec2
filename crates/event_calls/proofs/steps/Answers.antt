-- `event_calls::steps` meets its contract: it is cut exactly if fewer stores are made than are due.
-- Assumes nothing.
use Rattle.event_calls.proofs.Order.{ends-cut, ends-all}
use Rattle.event_calls.proofs.steps.Goals as goal

pub returns-then-made-due : goal.returns-then-made-due
returns-then-made-due c = ends-cut _ _ _ c.make-made.ensures.counted c.make-made.ensures.leaves c.if-made-due.true

pub returns : goal.returns
returns c = ends-all _ _ _ c.make-made.ensures.counted c.make-made.ensures.leaves c.if-made-due.false
