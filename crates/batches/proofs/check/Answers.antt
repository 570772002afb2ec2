-- `batches::check` meets its contract: the refusals in their order, and then what is judged.
-- Assumes nothing.
use Rattle.std.proofs.Common.{rules}
use Rattle.std.specs.Prelude.{◌≡◌, Err}
use Rattle.batches.specs.declared.CheckRefusal.TheVariants.{Image, Table}
use Rattle.batches.proofs.Calling.{refuses-image, refuses-table, whole-memory, refuses-batch, continues}
use Rattle.batches.proofs.check.Goals as goal

pub returns-in_err-check : goal.returns-in_err-check
returns-in_err-check c =
    let told : c.from_residual.result ≡ Err (Image c.in_err-check.field-0.0) = search rules in
    rw told (search (refuses-image, c.in_err-check.was))

pub returns-in_err-check-2 : goal.returns-in_err-check-2
returns-in_err-check-2 c =
    let told : c.from_residual-in_err-check-2.result ≡ Err (Table c.in_err-check-2.field-0.0) = search rules in
    rw told (search (refuses-table, c.in_ok-check.was, c.in_err-check-2.was))

pub returns-then-not-is_whole : goal.returns-then-not-is_whole
returns-then-not-is_whole c = search (refuses-batch, c.in_ok-check.was, c.in_ok-check-2.was)

pub invariant_of-judge : goal.invariant_of-judge
invariant_of-judge c = record { whole = search (whole-memory, c.in_ok-check.was, c.in_ok-check-2.was) }

pub returns : goal.returns
returns c = search (continues, c.in_ok-check.was, c.in_ok-check-2.was)
