-- `scopes::length_of` meets its contract.
-- Assumes nothing.
use mathlib.Core.Path.{ap, ◌∙◌}
use Prim.Native.Nat.{ℕ, ◌^◌}
use native.Mathlib.Nat.{lt_of_le_of_lt}
use native.Mathlib.Omega.{arith}
use lib.Dec.{lit<}
use Rattle.words.specs.Ranges.{bits}
use Rattle.words.proofs.Parts.{part_lt}
use Rattle.scopes.proofs.Ranges.{length-one, length-many, length-bound, num-bound, granules-bound}
use Rattle.scopes.proofs.length_of.Goals as goal

pub returns-then-part-eq0 : goal.returns-then-part-eq0
returns-then-part-eq0 c = length-one c.args.target c.part.result c.part.ensures c.if-part-eq0.true

pub overflow_add-n : goal.overflow_add-n
overflow_add-n c = record { fits = omega (arith, c.part-n.ensures, num-bound c.args.target) }

pub power-requires : goal.power-requires
power-requires c = omega (arith, c.part-2.ensures, part_lt (bits 4 0) c.args.target.scale)

pub overflow_mul-result : goal.overflow_mul-result
overflow_mul-result c =
    let s = c in
    record { fits = rw (c.part-n.ensures, c.power.ensures.0, c.part-2.ensures) (lt_of_le_of_lt (granules-bound s.args.target) (lit< tt)) }

pub overflow_mul-result-2 : goal.overflow_mul-result-2
overflow_mul-result-2 c =
    let s = c in
    record { fits = rw (c.part-n.ensures, c.power.ensures.0, c.part-2.ensures, c.power-2.ensures.0, c.granule_of.ensures.0) (lt_of_le_of_lt (length-bound s.args.target) (lit< tt)) }

pub returns : goal.returns
returns c =
    let s = c in
    length-many s.args.target c.part.result
    c.part-n.result c.power.result c.power-2.result
    c.part.ensures
    c.if-part-eq0.false
    c.part-n.ensures
    (c.power.ensures.0 ∙ ap (λ (n : ℕ). 2 ^ n) c.part-2.ensures)
    (c.power-2.ensures.0 ∙ ap (λ (n : ℕ). 2 ^ n) c.granule_of.ensures.0)
