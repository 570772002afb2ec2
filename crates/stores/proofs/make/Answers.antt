-- `stores::make` meets its contract: as many are made as places passed, until the allowance or the list is at its end.
-- Assumes nothing.
use native.Mathlib.Omega.{arith}
use Rattle.stores.proofs.Laws.{begins, again, same_size, cut-leaves, all_made, cut-counted, all-counted, goes_within}
use Rattle.stores.proofs.make.Goals as goal

pub loop-store-init : goal.loop-store-init
loop-store-init c = begins _ _ _

pub step-requires : goal.step-requires
step-requires c =
    rw (same_size _ _ _ c.loop-store.invariant) (goes_within _ _ _ c.requires c.loop-store-test.true)

pub overflow_add-made : goal.overflow_add-made
overflow_add-made c = record { fits = omega (arith, c.loop-store.invariant.allowed, c.if-made-allowance.false, c.ranges.allowance.fits) }

pub returns-then-made-allowance-clause-counted : goal.returns-then-made-allowance-clause-counted
returns-then-made-allowance-clause-counted c = cut-counted _ _ _ c.loop-store.invariant c.loop-store-test.true c.if-made-allowance.true

pub returns-then-made-allowance-clause-leaves : goal.returns-then-made-allowance-clause-leaves
returns-then-made-allowance-clause-leaves c = cut-leaves _ _ _ c.loop-store.invariant c.if-made-allowance.true

pub loop-store-preserved : goal.loop-store-preserved
loop-store-preserved c = again _ _ _ c.loop-store.invariant c.loop-store-test.true c.if-made-allowance.false c.step.ensures

pub returns-clause-counted : goal.returns-clause-counted
returns-clause-counted c = all-counted _ _ _ c.loop-store.invariant c.loop-store-test.false

pub returns-clause-leaves : goal.returns-clause-leaves
returns-clause-leaves c = (all_made _ _ _ c.loop-store.invariant c.loop-store-test.false).2
