-- `indexes::next` meets its contract: the sum wraps at a multiple of a turn.
-- Assumes nothing.
use Rattle.std.proofs.Common.{◌+◌, arith}
use Rattle.indexes.specs.Indexes.{next}
use Rattle.indexes.proofs.Rounds.{mod_64}
use Rattle.indexes.proofs.next.Goals as goal

pub returns : goal.returns
unfolding next
returns c = rw c.power.ensures.0 (mod_64 (c.args.n + 1) (c.args.rd + 1) (omega (arith, c.requires)))
