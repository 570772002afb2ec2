-- `reader::read_at` meets its contract: an index is below the number of whole slots exactly if its slot is inside.
-- Assumes nothing.
use mathlib.Core.Path.{sym}
use Rattle.reader.proofs.Laws.{inside, outside}
use Rattle.reader.proofs.read_at.Goals as goal

pub returns-then-at-bytes : goal.returns-then-at-bytes
returns-then-at-bytes c = rw c.decode_at.ensures (sym (inside _ _ _ c.if-at-bytes.true))

pub returns : goal.returns
returns c = sym (outside _ _ _ c.if-at-bytes.false)
