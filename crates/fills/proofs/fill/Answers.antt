-- `fills::fill` meets its contract: each return is a case of the definition.
-- Assumes nothing.
use mathlib.Core.Path.{◌≡◌, sym, ◌∙◌}
use native.Mathlib.Omega.{arith}
use borrow.Author.Rules.{rules}
use Rattle.std.specs.Prelude.{Err}
use Rattle.fills.specs.declared.FillRefusal.TheVariants.{Image}
use Rattle.words.proofs.Outcomes.{gives}
use Rattle.fills.proofs.Cases.{used, unused, whole, room, stores_within, fill-image, fill-no-row, fill-in-use, fill-unfit, fill-doubled, fill_done, meets-done}
use Rattle.fills.proofs.fill.Goals as goal

pub returns-in_err-n : goal.returns-in_err-n
returns-in_err-n c =
    let made : c.from_residual.result ≡ Err (Image c.in_err-n.field-0.0) = search rules in
    rw made (gives (fill-image _ _ _ _ _ (sym c.check.ensures ∙ c.in_err-n.was)))

pub returns-then-n-row : goal.returns-then-n-row
returns-then-n-row c = gives (fill-no-row _ _ _ _ _ (sym c.check.ensures ∙ c.in_ok-n.was) c.if-n-row.true)

pub overflow_mul-row : goal.overflow_mul-row
overflow_mul-row c = record { fits = omega (arith, room _ c.check.ensures c.in_ok-n.was c.if-n-row.false) }

pub overflow_add-row : goal.overflow_add-row
overflow_add-row c = record { fits = omega (arith, room _ c.check.ensures c.in_ok-n.was c.if-n-row.false) }

pub offset_bounds-kept-row : goal.offset_bounds-kept-row
offset_bounds-kept-row c = record { fits = omega (arith, room _ c.check.ensures c.in_ok-n.was c.if-n-row.false) }

pub bounds-kept-row : goal.bounds-kept-row
bounds-kept-row c = omega (arith, room _ c.check.ensures c.in_ok-n.was c.if-n-row.false)

pub returns-then-kept-row-ne0 : goal.returns-then-kept-row-ne0
returns-then-kept-row-ne0 c =
    gives (fill-in-use _ _ _ _ _ (sym c.check.ensures ∙ c.in_ok-n.was) c.if-n-row.false (used _ _ c.if-kept-row-ne0.true))

pub returns-then-not-is_fit : goal.returns-then-not-is_fit
returns-then-not-is_fit c =
    gives
    (fill-unfit _ _ _ _ _ (sym c.check.ensures ∙ c.in_ok-n.was) c.if-n-row.false
    (unused _ _ c.if-kept-row-ne0.false) (sym c.is_fit.ensures ∙ c.if-not-is_fit.true))

pub doubled-requires : goal.doubled-requires
doubled-requires c = whole _ _ (sym c.check.ensures ∙ c.in_ok-n.was)

pub returns-then-doubled : goal.returns-then-doubled
returns-then-doubled c =
    gives
    (fill-doubled _ _ _ _ _ (sym c.check.ensures ∙ c.in_ok-n.was) c.if-n-row.false
    (unused _ _ c.if-kept-row-ne0.false) (sym c.is_fit.ensures ∙ c.if-not-is_fit.false) (sym c.doubled.ensures ∙ c.if-doubled.true))

pub fill_stores-due-requires : goal.fill_stores-due-requires
fill_stores-due-requires c = omega (arith, room _ c.check.ensures c.in_ok-n.was c.if-n-row.false)

pub steps-done-requires : goal.steps-done-requires
steps-done-requires c = rw c.fill_stores-due.ensures (stores_within _ _ c.args.words (room _ c.check.ensures c.in_ok-n.was c.if-n-row.false))

pub returns : goal.returns
returns c =
    meets-done _ _ _ c.fill_stores-due.ensures c.steps-done.ensures.reports c.steps-done.ensures.leaves
    (fill_done _ _ _ _ _ (sym c.check.ensures ∙ c.in_ok-n.was) c.if-n-row.false
    (unused _ _ c.if-kept-row-ne0.false) (sym c.is_fit.ensures ∙ c.if-not-is_fit.false)
    (sym c.doubled.ensures ∙ c.if-doubled.false))
