-- `screens::places::of_asid` meets its contract.
-- Assumes nothing.
use Rattle.std.proofs.Common.{◌*◌, ◌^◌, ap, arith}
use Rattle.words.proofs.Parts.{part_lt}
use Rattle.words.specs.Ranges.{bits}
use Rattle.screens.proofs.places.of_asid.Goals as goal

pub overflow_mul-result : goal.overflow_mul-result
overflow_mul-result c = omega (arith, c.part.ensures, part_lt (bits 15 0) c.args.id)

pub returns : goal.returns
returns c = (ap (λ x. x * 2 ^ 32) c.part.ensures, omega (arith, c.part.ensures, part_lt (bits 15 0) c.args.id))
