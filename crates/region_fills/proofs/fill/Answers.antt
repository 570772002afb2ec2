-- `region_fills::fill` meets its contract: each return is a case of the definition.
-- Assumes nothing.
use mathlib.Core.Path.{◌≡◌, sym, ◌∙◌}
use borrow.Author.Rules.{rules}
use Rattle.words.proofs.Outcomes.{gives}
use Rattle.std.specs.Prelude.{Err, Ok}
use Rattle.image.specs.Image as image
use Rattle.regions.specs.Table.{check}
use Rattle.region_fills.specs.declared.FillRefusal.TheVariants.{Image, Table}
use Rattle.region_fills.proofs.Cases.{whole, fill-image, fill-table, fill-goes-on, as_given}
use Rattle.region_fills.proofs.fill.Goals as goal

pub fill_row-requires : goal.fill_row-requires
fill_row-requires c = whole _ _ (sym c.check-2.ensures ∙ c.in_ok-n.was)

pub returns-in_err-check : goal.returns-in_err-check
returns-in_err-check c =
    let made : c.from_residual.result ≡ Err (Image c.in_err-check.field-0.0) = search rules in
    rw made (gives (fill-image _ _ _ _ _ _ (sym c.check.ensures ∙ c.in_err-check.was)))

pub returns-in_err-n : goal.returns-in_err-n
returns-in_err-n c =
    let made : c.from_residual-in_err-n.result ≡ Err (Table c.in_err-n.field-0.0) = search rules in
    let kept-accepted : image.check c.args.kept.now ≡ Ok c.in_ok-check.field-0 = sym c.check.ensures ∙ c.in_ok-check.was in
    rw made (gives (fill-table _ _ _ _ _ _ kept-accepted _ (sym c.check-2.ensures ∙ c.in_err-n.was)))

pub returns : goal.returns
returns c =
    let kept-accepted : image.check c.args.kept.now ≡ Ok c.in_ok-check.field-0 = sym c.check.ensures ∙ c.in_ok-check.was in
    let accepted : check c.args.table.now ≡ Ok c.in_ok-n.n = sym c.check-2.ensures ∙ c.in_ok-n.was in
    as_given (fill-goes-on _ _ _ _ _ _ kept-accepted _ accepted) c.fill_row.ensures
