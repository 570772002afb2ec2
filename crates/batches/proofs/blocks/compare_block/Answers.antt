-- `batches::blocks::compare_block` meets its contract.
-- Assumes nothing.
use mathlib.Core.Path.{refl, ◌∙◌}
use Rattle.memory.specs.Memory.{both}
use Rattle.batches.proofs.Comparing.{unmarked, by-their-marks}
use Rattle.batches.proofs.blocks.compare_block.Goals as goal

pub mark_batch-requires : goal.mark_batch-requires
mark_batch-requires c =
    let s = c in
    (refl, unmarked (both s.args.m.kept.now s.args.m.table.now) s.args.base)

pub mark_batch-requires-2 : goal.mark_batch-requires-2
mark_batch-requires-2 c =
    let s = c in
    (refl, unmarked (both s.args.m.kept.now s.args.m.table.now) s.args.base)

pub returns : goal.returns
returns c =
    let s = c in
    c.first_apart.ensures
    ∙ by-their-marks s.args.f s.args.original.now s.args.proposed.now (both s.args.m.kept.now s.args.m.table.now) s.args.base s.args.n _ _ s.requires.0 s.requires.1
    c.mark_batch.ensures c.mark_batch-2.ensures
