-- `writer::encoding::ranged` meets its contract: the fields are put one after the other.
-- Assumes nothing.
use Rattle.writer.proofs.ByCode.{has-ranged}
use Rattle.writer.proofs.encoding.ranged.Goals as goal

-- src/encoding.rt:113:1
pub returns : goal.returns
returns c = search has-ranged
