-- `scopes::first_of` meets its contract: rounding down gives no larger word.
-- Assumes nothing.
use mathlib.Core.Path.{ap, ◌∙◌}
use Prim.Native.Nat.{ℕ, ◌^◌}
use Rattle.scopes.proofs.Ranges.{first-is}
use Rattle.scopes.proofs.first_of.Goals as goal

pub returns : goal.returns
returns c =
    let s = c in
    first-is s.args.target c.address_of.result c.power-granule.result c.address_of.ensures (c.power-granule.ensures.0 ∙ ap (λ (n : ℕ). 2 ^ n) c.granule_of.ensures.0)
