-- `event_calls::read` meets its contract: each return is a case of the definition.
-- Assumes nothing.
use mathlib.Core.Path.{◌≡◌, sym, ◌∙◌}
use Rattle.words.proofs.Outcomes.{gives}
use borrow.Author.Rules.{rules}
use Rattle.std.specs.Prelude.{Err, Ok}
use Rattle.event_calls.specs.declared.ReadRefusal.TheVariants.{Recorder as OfRecorder}
use Rattle.events.specs.Events.{check}
use Rattle.event_calls.proofs.Cases.{has-index, has-oldest, read-refused, read-empty, read-stores}
use Rattle.event_calls.proofs.read.Goals as goal

pub bounds-kept-0 : goal.bounds-kept-0
bounds-kept-0 c =
    let accepted : check c.args.kept.now ≡ Ok c.in_ok-check.field-0 = sym c.check.ensures ∙ c.in_ok-check.was in
    has-index _ _ accepted

pub returns-then-is_empty : goal.returns-then-is_empty
returns-then-is_empty c =
    let accepted : check c.args.kept.now ≡ Ok c.in_ok-check.field-0 = sym c.check.ensures ∙ c.in_ok-check.was in
    gives (read-empty _ _ accepted (sym c.is_empty.ensures ∙ c.if-is_empty.true))

pub record_at-event-requires : goal.record_at-event-requires
record_at-event-requires c =
    let accepted : check c.args.kept.now ≡ Ok c.in_ok-check.field-0 = sym c.check.ensures ∙ c.in_ok-check.was in
    rw c.oldest-slot.ensures (has-oldest _ _ accepted)

pub bounds-kept-0-2 : goal.bounds-kept-0-2
bounds-kept-0-2 c =
    let accepted : check c.args.kept.now ≡ Ok c.in_ok-check.field-0 = sym c.check.ensures ∙ c.in_ok-check.was in
    has-index _ _ accepted

pub returns-in_err-check : goal.returns-in_err-check
returns-in_err-check c =
    let made : c.from_residual.result ≡ Err (OfRecorder c.in_err-check.field-0.0) = search rules in
    rw made (gives (read-refused _ _ (sym c.check.ensures ∙ c.in_err-check.was)))

pub returns : goal.returns
returns c =
    let accepted : check c.args.kept.now ≡ Ok c.in_ok-check.field-0 = sym c.check.ensures ∙ c.in_ok-check.was in
    gives (rw (c.read_out.ensures, c.record_at-event.ensures, c.oldest-slot.ensures)
    (read-stores _ _ accepted (sym c.is_empty.ensures ∙ c.if-is_empty.false)))
