-- `scopes::granule_of` meets its contract.
-- Assumes nothing.
use native.Mathlib.Omega.{arith}
use Rattle.scopes.proofs.Ranges.{granule-last}
use Rattle.scopes.proofs.granule_of.Goals as goal

pub returns-in_default : goal.returns-in_default
returns-in_default c = (granule-last c.args.target c.part.result c.part.ensures c.in_default.in_default-own.rest, omega arith)
