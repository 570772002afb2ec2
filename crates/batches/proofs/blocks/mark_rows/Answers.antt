-- `batches::blocks::mark_rows` meets its contract: the rows in scope are marked one after the other, the rest stay as before.
-- Assumes nothing.
use mathlib.Core.Path.{sym, ◌∙◌}
use native.Mathlib.Omega.{arith}
use Rattle.batches.proofs.Marks.{in_rows, none_more, row_from, row_below, row-past, in-marks, continues}
use Rattle.batches.proofs.blocks.mark_rows.Goals as goal

pub returns-in_default : goal.returns-in_default
returns-in_default c = none_more c.loop-i.invariant (sym c.find_in.ensures ∙ c.in_default.is)

pub overflow_sub-marks : goal.overflow_sub-marks
overflow_sub-marks c = row_from c.loop-i.invariant (sym c.find_in.ensures ∙ c.in-Some.is)

pub bounds-marks-row : goal.bounds-marks-row
bounds-marks-row c = in-marks c.loop-i.invariant (sym c.find_in.ensures ∙ c.in-Some.is)

pub overflow_add-i : goal.overflow_add-i
overflow_add-i c = record { fits = omega (arith, row_below c.loop-i.invariant (sym c.find_in.ensures ∙ c.in-Some.is), in_rows c.loop-i.invariant c.loop-i-test.true, c.ranges.rows) }

pub loop-i-smaller : goal.loop-i-smaller
loop-i-smaller c = omega (arith, row_below c.loop-i.invariant (sym c.find_in.ensures ∙ c.in-Some.is), row-past c.loop-i.invariant (sym c.find_in.ensures ∙ c.in-Some.is))

pub loop-i-preserved : goal.loop-i-preserved
loop-i-preserved c = continues c.loop-i.invariant (sym c.find_in.ensures ∙ c.in-Some.is)
