-- `indexes::distance` meets its contract, by the law of the difference that wraps.
-- Assumes nothing.
use Rattle.std.proofs.Common.{◌≡◌, ◌+◌, ◌-◌, ◌%◌, ◌^◌, arith}
use Rattle.indexes.proofs.Laws.{wraps}
use Rattle.indexes.proofs.distance.Goals as goal

pub returns : goal.returns
returns c =
    let back : ((c.args.wr + (2 ^ 64 - c.args.rd)) % 2 ^ 64 + c.args.rd) % 2 ^ 64 ≡ c.args.wr = omega arith in
    rw c.power.ensures.0 (wraps c.args.n c.args.rd c.args.wr _ c.requires back)
