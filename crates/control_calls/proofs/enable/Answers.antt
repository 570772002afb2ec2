-- `control_calls::enable` meets its contract: each return is a case of the definition.
-- Assumes nothing.
use mathlib.Core.Path.{◌≡◌, sym, ◌∙◌}
use Rattle.std.proofs.Common.{rules}
use Rattle.std.specs.Prelude.{Err, Ok}
use Rattle.image.specs.Image.{check}
use Rattle.words.proofs.Outcomes.{gives}
use Rattle.control_calls.proofs.Cases.{has-control, enable-image, enable-stores}
use Rattle.control_calls.proofs.enable.Goals as goal

pub bounds-kept-0 : goal.bounds-kept-0
bounds-kept-0 c =
    let accepted : check c.args.kept.now ≡ Ok c.in_ok-check.field-0 =
    sym c.check.ensures ∙ c.in_ok-check.was in
    has-control _ _ accepted

pub bounds-kept-0-2 : goal.bounds-kept-0-2
bounds-kept-0-2 c =
    let accepted : check c.args.kept.now ≡ Ok c.in_ok-check.field-0 =
    sym c.check.ensures ∙ c.in_ok-check.was in
    has-control _ _ accepted

pub returns-in_err-check : goal.returns-in_err-check
returns-in_err-check c =
    let told : c.from_residual.result ≡ Err c.in_err-check.field-0.0 = search rules in
    rw told (gives (enable-image _ _ _ (sym c.check.ensures ∙ c.in_err-check.was)))

pub returns : goal.returns
returns c =
    let accepted : check c.args.kept.now ≡ Ok c.in_ok-check.field-0 =
    sym c.check.ensures ∙ c.in_ok-check.was in
    gives (rw c.switched.ensures (enable-stores _ _ _ accepted))
