-- `image_state::state_of` meets its contract.
-- Assumes nothing.
use mathlib.Core.Path.{◌≡◌, sym, ◌∙◌}
use native.Mathlib.Omega.{arith}
use Rattle.control.specs.Control.{fields_of}
use Rattle.std.proofs.Common.{rules}
use Rattle.std.specs.Prelude.{Err, Ok}
use Rattle.image.specs.Image.{check}
use Rattle.image_state.specs.States.{told}
use Rattle.image_state.proofs.Laws.{refused, is, has-rows}
use Rattle.image_state.proofs.state_of.Goals as goal

pub bounds-kept-0 : goal.bounds-kept-0
bounds-kept-0 c =
    let accepted : check c.args.kept.now ≡ Ok c.in_ok-n.n =
    sym c.check.ensures ∙ c.in_ok-n.was in
    omega (arith, has-rows _ _ accepted)

pub used_rows-requires : goal.used_rows-requires
used_rows-requires c =
    let accepted : check c.args.kept.now ≡ Ok c.in_ok-n.n =
    sym c.check.ensures ∙ c.in_ok-n.was in
    has-rows _ _ accepted

pub returns-in_err-n : goal.returns-in_err-n
returns-in_err-n c =
    let said : c.from_residual.result ≡ Err c.in_err-n.field-0.0 = search rules in
    rw said (sym (refused _ _ (sym c.check.ensures ∙ c.in_err-n.was)))

pub returns : goal.returns
unfolding told fields_of
returns c =
    let accepted : check c.args.kept.now ≡ Ok c.in_ok-n.n =
    sym c.check.ensures ∙ c.in_ok-n.was in
    rw (is _ _ accepted, c.used_rows.ensures, c.active.ensures, c.fields_of-c.ensures)
