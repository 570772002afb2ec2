-- `event_calls::write` meets its contract: each return is a case of the definition.
-- Assumes nothing.
use mathlib.Core.Path.{◌≡◌, sym, ◌∙◌}
use native.Mathlib.Omega.{arith}
use Rattle.words.proofs.Outcomes.{gives}
use borrow.Author.Rules.{rules}
use Rattle.std.specs.Prelude.{Err, Ok}
use Rattle.events.specs.Events.{check}
use Rattle.event_calls.proofs.Cases.{has-index, has-free, write-refused, write-drops, write-stores, meets-done, stores_within}
use Rattle.event_calls.proofs.write.Goals as goal

pub bounds-kept-0 : goal.bounds-kept-0
bounds-kept-0 c =
    let accepted : check c.args.kept.now ≡ Ok c.in_ok-check.field-0 = sym c.check.ensures ∙ c.in_ok-check.was in
    has-index _ _ accepted

pub drop_one-dropped-requires : goal.drop_one-dropped-requires
drop_one-dropped-requires c =
    let accepted : check c.args.kept.now ≡ Ok c.in_ok-check.field-0 = sym c.check.ensures ∙ c.in_ok-check.was in
    has-index _ _ accepted

pub returns-then-is_full : goal.returns-then-is_full
returns-then-is_full c =
    let accepted : check c.args.kept.now ≡ Ok c.in_ok-check.field-0 = sym c.check.ensures ∙ c.in_ok-check.was in
    meets-done c.drop_one-dropped.ensures (write-drops _ _ _ _ accepted (sym c.is_full.ensures ∙ c.if-is_full.true))

pub write_stores-due-requires : goal.write_stores-due-requires
write_stores-due-requires c =
    let accepted : check c.args.kept.now ≡ Ok c.in_ok-check.field-0 = sym c.check.ensures ∙ c.in_ok-check.was in
    omega (arith, c.free-slot.ensures, has-free _ _ accepted)

pub steps-written-requires : goal.steps-written-requires
steps-written-requires c =
    let accepted : check c.args.kept.now ≡ Ok c.in_ok-check.field-0 = sym c.check.ensures ∙ c.in_ok-check.was in
    rw (c.write_stores-due.ensures, c.free-slot.ensures) (stores_within _ _ c.record_of-event.result c.written-index.result (has-free _ _ accepted))

pub returns-in_err-check : goal.returns-in_err-check
returns-in_err-check c =
    let made : c.from_residual.result ≡ Err c.in_err-check.field-0.0 = search rules in
    rw made (gives (write-refused _ _ _ _ (sym c.check.ensures ∙ c.in_err-check.was)))

pub returns : goal.returns
returns c =
    let accepted : check c.args.kept.now ≡ Ok c.in_ok-check.field-0 = sym c.check.ensures ∙ c.in_ok-check.was in
    meets-done (rw c.write_stores-due.ensures at c.steps-written.ensures)
    (rw (c.free-slot.ensures, c.record_of-event.ensures, c.written-index.ensures)
    (write-stores _ _ _ _ accepted (sym c.is_full.ensures ∙ c.if-is_full.false)))
