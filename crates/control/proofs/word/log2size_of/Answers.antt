-- `control::word::log2size_of` meets its contract: the part has five bits.
-- Assumes nothing.
use native.Mathlib.Omega.{arith}
use Rattle.words.proofs.Parts.{part_lt}
use Rattle.control.specs.Control.{log2size_bits}
use Rattle.control.proofs.word.log2size_of.Goals as goal

pub returns : goal.returns
returns c = (c.of.ensures, omega (arith, c.of.ensures, part_lt log2size_bits c.args.w))
