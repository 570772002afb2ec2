-- `region_fills::fill_row` meets its contract: each return is a case of the definition.
-- Assumes nothing.
use mathlib.Core.Path.{sym, ◌∙◌}
use native.Mathlib.Omega.{arith}
use Rattle.words.proofs.Outcomes.{gives}
use Rattle.region_fills.proofs.Cases.{used, unused, row-none, row-in-use, row-unfit, row_done, as_given, meets-done, stores_within}
use Rattle.region_fills.proofs.fill_row.Goals as goal

pub returns-then-n-row : goal.returns-then-n-row
returns-then-n-row c = gives (row-none _ _ _ _ _ c.if-n-row.true)

pub returns-then-table-row-ne0 : goal.returns-then-table-row-ne0
returns-then-table-row-ne0 c = gives (row-in-use _ _ _ _ _ c.if-n-row.false (used _ _ c.if-table-row-ne0.true))

pub returns-then-not-is_fit : goal.returns-then-not-is_fit
returns-then-not-is_fit c =
    gives
    (row-unfit _ _ _ _ _ c.if-n-row.false (unused _ _ c.if-table-row-ne0.false)
    (sym c.is_fit.ensures ∙ c.if-not-is_fit.true))

pub steps-done-requires : goal.steps-done-requires
steps-done-requires c = rw c.fill_stores-due.ensures (stores_within _ _ c.args.words (omega (arith, c.requires, c.if-n-row.false)))

pub returns : goal.returns
returns c =
    as_given
    (row_done _ _ _ _ _ c.if-n-row.false (unused _ _ c.if-table-row-ne0.false) (sym c.is_fit.ensures ∙ c.if-not-is_fit.false))
    (meets-done _ _ _ c.fill_stores-due.ensures c.steps-done.ensures.reports c.steps-done.ensures.leaves)
