-- `events::word::overflow_of` meets its contract: the part has one bit.
-- Assumes nothing.
use native.Mathlib.Omega.{arith}
use Rattle.words.proofs.Parts.{part_lt}
use Rattle.events.specs.Word.{overflow_bits}
use Rattle.events.proofs.word.overflow_of.Goals as goal

pub returns : goal.returns
returns c = (c.of.ensures, omega (arith, c.of.ensures, part_lt overflow_bits c.args.w))
