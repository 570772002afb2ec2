-- `event_calls::drop_one` meets its contract: its stores are those that are due.
-- Assumes nothing.
use mathlib.Core.Path.{sym, ◌∙◌}
use Rattle.event_calls.proofs.Cases.{drops-none, drops-flip}
use Rattle.event_calls.proofs.drop_one.Goals as goal

pub returns-then-outstanding : goal.returns-then-outstanding
returns-then-outstanding c = rw (drops-none _ (sym c.outstanding.ensures ∙ c.if-outstanding.true)) c.steps.ensures

pub returns : goal.returns
returns c = rw (drops-flip _ (sym c.outstanding.ensures ∙ c.if-outstanding.false)) (rw c.flipped.ensures at c.steps-2.ensures)
