-- `events::check` meets its contract: a length with an n has words, and its n is small.
-- Assumes nothing.
use mathlib.Core.Path.{sym, ◌∙◌}
use native.Mathlib.Omega.{arith}
use Rattle.events.proofs.Checks.{long, has-index}
use Rattle.events.proofs.check.Goals as goal

pub bounds-kept-0 : goal.bounds-kept-0
bounds-kept-0 c = has-index _ _ (long _ _ (sym c.log2_of.ensures ∙ c.in_ok-n.ensures.ok_part))

pub well_formed-requires : goal.well_formed-requires
well_formed-requires c = omega (arith, (long _ _ (sym c.log2_of.ensures ∙ c.in_ok-n.ensures.ok_part)).few)
