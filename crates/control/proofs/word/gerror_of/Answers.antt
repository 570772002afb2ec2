-- `control::word::gerror_of` meets its contract: the part has one bit.
-- Assumes nothing.
use native.Mathlib.Omega.{arith}
use Rattle.words.proofs.Parts.{part_lt}
use Rattle.control.specs.Control.{gerror_bits}
use Rattle.control.proofs.word.gerror_of.Goals as goal

pub returns : goal.returns
returns c = (c.of.ensures, omega (arith, c.of.ensures, part_lt gerror_bits c.args.w))
