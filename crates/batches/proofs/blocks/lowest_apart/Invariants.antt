-- `batches::blocks::lowest_apart` meets its contract: no row of the blocks passed differs.
-- Assumes nothing.
use Prim.Native.Nat.{◌-◌}
use Rattle.memory.specs.Lending.{lent}
use Rattle.memory.specs.Memory.{rows_in}
use Rattle.batches.specs.Blocks.{apart}
use Rattle.batches.proofs.Comparing.{Blocks}
use Rattle.batches.proofs.blocks.lowest_apart.Given as goal

abbrev pub invariant-loop-base : goal.invariant-loop-base
invariant-loop-base l =
    Blocks (apart l.f l.original l.proposed (lent l.m)) (rows_in (lent l.m)) l.base

abbrev pub decreases-loop-base : goal.decreases-loop-base
decreases-loop-base l =
    rows_in (lent l.m) - l.base
