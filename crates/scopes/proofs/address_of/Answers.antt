-- `scopes::address_of` meets its contract: 52 bits, moved by 12, make a word.
-- Assumes nothing.
use native.Mathlib.Omega.{arith}
use Rattle.words.specs.Ranges.{bits}
use Rattle.words.proofs.Parts.{part_lt}
use Rattle.scopes.proofs.address_of.Goals as goal

pub overflow_mul-result : goal.overflow_mul-result
overflow_mul-result c = record { fits = omega (arith, c.part.ensures, part_lt (bits 51 0) c.args.page) }
