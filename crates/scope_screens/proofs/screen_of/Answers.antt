-- `scope_screens::screen_of` meets its contract: a range has at most 32 open bits.
-- Assumes nothing.
use Rattle.scope_screens.proofs.Near.{open_fits}
use Rattle.scope_screens.proofs.screen_of.Goals as goal

pub of_block-requires-in-CfgiSteRange : goal.of_block-requires-in-CfgiSteRange
of_block-requires-in-CfgiSteRange c = open_fits _ _ c.open_bits.ensures.0
