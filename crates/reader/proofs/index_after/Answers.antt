-- `reader::index_after` meets its contract.
-- Assumes nothing.
use borrow.Author.Tests.{lt-ltb, le-ltb}
use Rattle.reader.specs.Slots.{largest, after}
use Rattle.reader.proofs.index_after.Goals as goal

pub returns-then-at-lt-LAST : goal.returns-then-at-lt-LAST
unfolding after
returns-then-at-lt-LAST c = rw (lt-ltb _ largest c.if-at-lt-LAST.true)

pub returns : goal.returns
unfolding after
returns c = rw (le-ltb _ largest c.if-at-lt-LAST.false)
