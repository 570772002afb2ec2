-- `control_calls::clear_pending` meets its contract: each return is a case of the definition.
-- Assumes nothing.
use mathlib.Core.Path.{◌≡◌, sym, ap, ◌∙◌}
use Prim.Native.Nat.{ℕ}
use lib.Dec.{eqb}
use Rattle.std.proofs.Common.{rules}
use Rattle.std.specs.Prelude.{Err, Ok}
use Rattle.image.specs.Image.{check}
use Rattle.words.proofs.Outcomes.{gives}
use borrow.Author.Tests.{eq-eqb, ne_eqb}
use Rattle.control_calls.specs.declared.ClearRefusal.TheVariants.{Image}
use Rattle.control_calls.proofs.Cases.{has-control, clear-image, clear_none, clear-stores}
use Rattle.control_calls.proofs.clear_pending.Goals as goal

pub bounds-kept-0 : goal.bounds-kept-0
bounds-kept-0 c =
    let accepted : check c.args.kept.now ≡ Ok c.in_ok-check.field-0 =
    sym c.check.ensures ∙ c.in_ok-check.was in
    has-control _ _ accepted

pub returns-then-not-pending_of : goal.returns-then-not-pending_of
returns-then-not-pending_of c =
    let accepted : check c.args.kept.now ≡ Ok c.in_ok-check.field-0 =
    sym c.check.ensures ∙ c.in_ok-check.was in
    gives (clear_none _ _ accepted (ap (λ (x : ℕ). eqb x 1) (sym c.pending_of.ensures) ∙ ne_eqb _ _ c.if-not-pending_of.true))

pub bounds-kept-0-2 : goal.bounds-kept-0-2
bounds-kept-0-2 c =
    let accepted : check c.args.kept.now ≡ Ok c.in_ok-check.field-0 =
    sym c.check.ensures ∙ c.in_ok-check.was in
    has-control _ _ accepted

pub returns-in_err-check : goal.returns-in_err-check
returns-in_err-check c =
    let told : c.from_residual.result ≡ Err (Image c.in_err-check.field-0.0) = search rules in
    rw told (gives (clear-image _ _ (sym c.check.ensures ∙ c.in_err-check.was)))

pub returns : goal.returns
returns c =
    let accepted : check c.args.kept.now ≡ Ok c.in_ok-check.field-0 =
    sym c.check.ensures ∙ c.in_ok-check.was in
    gives (rw c.pended.ensures (clear-stores _ _ accepted
    (ap (λ (x : ℕ). eqb x 1) (sym c.pending_of.ensures) ∙ eq-eqb _ _ c.if-not-pending_of.false)))
