-- `writer::encoding::Named::put` meets its contract, by the word that the bits lie in.
-- Assumes nothing.
use mathlib.Core.Path.{sym, ap, ◌∙◌}
use Prim.Native.Nat.{ℕ, ◌^◌, ◌<◌}
use native.Mathlib.Omega.{arith}
use Rattle.words.specs.Parts.{joined}
use Rattle.words.proofs.Bits.{put_low, put-high}
use Rattle.words.proofs.Parts.{put-lt}
use Rattle.writer.specs.Writing.{asked, split}
use Rattle.writer.proofs.ByCode.{split-whole}
use Rattle.writer.proofs.encoding.Named.put.Goals as goal

pub returns-then-self-lt64 : goal.returns-then-self-lt64
returns-then-self-lt64 c =
    let b = c.args.self.bits in
    let lo = c.args.c.lo in
    let hi = c.args.c.hi in
    let v = asked c.args.d.now c.args.self.number in
    let low : lo < 2 ^ 64 = omega arith in
    let high : hi < 2 ^ 64 = omega arith in
    let fits : c.put.result < 2 ^ 64 = rw c.put.ensures (put-lt b.high b.low b.ordered v lo low (omega arith)) in
    sym (split-whole c.put.result hi fits)
    ∙ ap split (ap (λ (x : ℕ). joined x hi) c.put.ensures ∙ sym (put_low lo hi b.high b.low v low high b.ordered (omega arith)))

pub returns : goal.returns
returns c =
    let b = c.args.self.bits in
    let lo = c.args.c.lo in
    let hi = c.args.c.hi in
    let v = asked c.args.d.now c.args.self.number in
    let low : lo < 2 ^ 64 = omega arith in
    let high : hi < 2 ^ 64 = omega arith in
    sym (split-whole lo c.put-2.result low)
    ∙ ap split (ap (joined lo) c.put-2.ensures ∙ sym (put-high lo hi b.high b.low v low high b.ordered c.if-self-lt64.false (omega arith)))
