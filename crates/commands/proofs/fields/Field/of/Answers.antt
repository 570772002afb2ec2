-- `commands::fields::Field::of` meets its contract, by the word that the bits lie in.
-- Assumes nothing.
use mathlib.Core.Path.{sym, ◌∙◌}
use Prim.Native.Nat.{◌^◌, ◌<◌}
use native.Mathlib.Omega.{arith}
use Rattle.words.proofs.TwoWords.{part_low, part-high}
use Rattle.commands.proofs.fields.Field.of.Goals as goal

pub returns-then-self-lt64 : goal.returns-then-self-lt64
returns-then-self-lt64 c =
    let a = c.args in
    let fits : a.c.lo < 2 ^ 64 = omega arith in
    c.part.ensures ∙ sym (part_low a.c.lo a.c.hi fits a.self.high a.self.low a.self.ordered (omega arith))

pub returns : goal.returns
returns c =
    let a = c.args in
    let fits : a.c.lo < 2 ^ 64 = omega arith in
    c.part-2.ensures ∙ sym (part-high a.c.lo a.c.hi fits a.self.high a.self.low c.if-self-lt64.false a.self.ordered)
