-- `words::lowest_in` meets its contract: what the whole search finds, the rest of it finds.
-- Assumes nothing.
use Rattle.std.proofs.Common.{refl, sym, ◌∙◌}
use Rattle.words.proofs.Search.{here, later, nowhere}
use Rattle.words.proofs.lowest_in.Goals as goal

pub loop-i-init : goal.loop-i-init
loop-i-init g c p f = refl

pub returns-then-passes : goal.returns-then-passes
returns-then-passes g c p f =
    sym (c.loop-i.invariant p f ∙ here p _ _ c.loop-i-test.true (sym (f _ _ c.loop-i.auto.i c.loop-i-test.true c.passes.ensures) ∙ c.if-passes.true))

pub loop-i-preserved : goal.loop-i-preserved
loop-i-preserved g c p f =
    c.loop-i.invariant p f ∙ later p _ _ c.loop-i-test.true (sym (f _ _ c.loop-i.auto.i c.loop-i-test.true c.passes.ensures) ∙ c.if-passes.false)

pub returns : goal.returns
returns g c p f = sym (c.loop-i.invariant p f ∙ nowhere p _ _ c.loop-i-test.false)
