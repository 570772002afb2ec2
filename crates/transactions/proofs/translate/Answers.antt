-- `transactions::translate` meets its contract: refusals first.
-- Assumes nothing.
use mathlib.Core.Path.{◌≡◌, sym, ◌∙◌}
use mathlib.Core.Bool.{true}
use Rattle.std.proofs.Common.{rules}
use Rattle.std.specs.Prelude.{Err, Ok}
use Rattle.transactions.specs.declared.TransactionRefusal.TheVariants.{Image}
use Rattle.image.specs.Image.{check}
use Rattle.attributes.specs.Formats.{well_formed}
use Rattle.transactions.specs.Call.{translate}
use Rattle.transactions.proofs.Needs.{ready}
use Rattle.transactions.proofs.translate.Goals as goal

pub returns-then-not-well_formed : goal.returns-then-not-well_formed
unfolding translate
returns-then-not-well_formed c =
    let image-good : check c.args.kept.now ≡ Ok c.in_ok-check.field-0 =
    sym c.check.ensures ∙ c.in_ok-check.was in
    rw (image-good, sym c.well_formed-2.ensures ∙ c.if-not-well_formed.true)

pub translated-requires : goal.translated-requires
translated-requires c =
    let image-good : check c.args.kept.now ≡ Ok c.in_ok-check.field-0 =
    sym c.check.ensures ∙ c.in_ok-check.was in
    let formed : well_formed c.args.t.attributes ≡ true =
    sym c.well_formed-2.ensures ∙ c.if-not-well_formed.false in
    (ready _ image-good, formed)

pub returns-in_err-check : goal.returns-in_err-check
unfolding translate
returns-in_err-check c =
    let told : c.from_residual.result ≡ Err (Image c.in_err-check.field-0.0) = search rules in
    rw (told, sym c.check.ensures ∙ c.in_err-check.was)

pub returns : goal.returns
unfolding translate
returns c =
    let image-good : check c.args.kept.now ≡ Ok c.in_ok-check.field-0 =
    sym c.check.ensures ∙ c.in_ok-check.was in
    let formed : well_formed c.args.t.attributes ≡ true =
    sym c.well_formed-2.ensures ∙ c.if-not-well_formed.false in
    rw (image-good, formed, c.translated.ensures)
