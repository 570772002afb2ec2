-- `reader::left_from` meets its contract.
-- Assumes nothing.
use borrow.Author.Rules.{rules}
use Rattle.reader.specs.Slots.{slots_left}
use Rattle.reader.proofs.left_from.Goals as goal

pub returns-then-at-slots : goal.returns-then-at-slots
unfolding slots_left
returns-then-at-slots c = search rules

pub returns : goal.returns
unfolding slots_left
returns c = search rules
