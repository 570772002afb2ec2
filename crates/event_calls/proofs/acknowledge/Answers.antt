-- `event_calls::acknowledge` meets its contract: each return is a case of the definition.
-- Assumes nothing.
use mathlib.Core.Path.{◌≡◌, sym, ◌∙◌}
use Rattle.words.proofs.Outcomes.{gives}
use borrow.Author.Rules.{rules}
use Rattle.std.specs.Prelude.{Err, Ok}
use Rattle.event_calls.specs.declared.AcknowledgeRefusal.TheVariants.{Recorder as ByRecorder}
use Rattle.events.specs.Events.{check}
use Rattle.event_calls.proofs.Cases.{has-index, acknowledge-refused, acknowledge-none, acknowledge-stores}
use Rattle.event_calls.proofs.acknowledge.Goals as goal

pub bounds-kept-0 : goal.bounds-kept-0
bounds-kept-0 c =
    let accepted : check c.args.kept.now ≡ Ok c.in_ok-check.field-0 = sym c.check.ensures ∙ c.in_ok-check.was in
    has-index _ _ accepted

pub returns-then-not-outstanding : goal.returns-then-not-outstanding
returns-then-not-outstanding c =
    let accepted : check c.args.kept.now ≡ Ok c.in_ok-check.field-0 = sym c.check.ensures ∙ c.in_ok-check.was in
    gives (acknowledge-none _ _ accepted (sym c.outstanding.ensures ∙ c.if-not-outstanding.true))

pub bounds-kept-0-2 : goal.bounds-kept-0-2
bounds-kept-0-2 c =
    let accepted : check c.args.kept.now ≡ Ok c.in_ok-check.field-0 = sym c.check.ensures ∙ c.in_ok-check.was in
    has-index _ _ accepted

pub returns-in_err-check : goal.returns-in_err-check
returns-in_err-check c =
    let made : c.from_residual.result ≡ Err (ByRecorder c.in_err-check.field-0.0) = search rules in
    rw made (gives (acknowledge-refused _ _ (sym c.check.ensures ∙ c.in_err-check.was)))

pub returns : goal.returns
returns c =
    let accepted : check c.args.kept.now ≡ Ok c.in_ok-check.field-0 = sym c.check.ensures ∙ c.in_ok-check.was in
    gives (rw c.acknowledged.ensures (acknowledge-stores _ _ accepted
    (sym c.outstanding.ensures ∙ c.if-not-outstanding.false)))
