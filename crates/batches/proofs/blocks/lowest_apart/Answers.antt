-- `batches::blocks::lowest_apart` meets its contract: no row of the blocks passed differs.
-- Assumes nothing.
use Rattle.batches.proofs.Comparing.{block_within, found-in-block, none-in-block, no_more}
use Rattle.batches.proofs.blocks.lowest_apart.Goals as goal

pub returns-in-Some : goal.returns-in-Some
returns-in-Some c =
    let t = c in
    let b = block_within t.loop-base.invariant t.rows_in-n.ensures t.loop-base-test.true in
    found-in-block t.loop-base.invariant _ b.1 c.compare_block-found.ensures c.in-Some.is

pub loop-base-preserved : goal.loop-base-preserved
loop-base-preserved c =
    let t = c in
    let b = block_within t.loop-base.invariant t.rows_in-n.ensures t.loop-base-test.true in
    none-in-block t.loop-base.invariant _ b.1 c.compare_block-found.ensures c.in_default.is

pub returns : goal.returns
returns c = no_more c.loop-base.invariant c.loop-base-test.false
