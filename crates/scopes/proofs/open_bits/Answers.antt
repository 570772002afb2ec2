-- `scopes::open_bits` meets its contract: five bits make a number below 32.
-- Assumes nothing.
use mathlib.Core.Path.{ap}
use Prim.Native.Nat.{ℕ, ◌+◌}
use native.Mathlib.Omega.{arith}
use Rattle.words.specs.Ranges.{bits}
use Rattle.words.proofs.Parts.{part_lt}
use Rattle.scopes.proofs.open_bits.Goals as goal

pub overflow_add-result : goal.overflow_add-result
overflow_add-result c = record { fits = omega (arith, c.part.ensures, part_lt (bits 4 0) c.args.range) }

pub returns : goal.returns
returns c = (ap (λ (x : ℕ). x + 1) c.part.ensures, omega (arith, c.part.ensures, part_lt (bits 4 0) c.args.range))
