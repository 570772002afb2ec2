-- `batch_writes::write_batch` meets its contract: the refusals in their order, and then every byte before the doorbell.
-- Assumes nothing.
use Rattle.std.proofs.Common.{rules}
use Rattle.std.specs.Prelude.{◌≡◌, Err}
use Rattle.batch_writes.specs.declared.BatchRefusal.TheVariants.{Image}
use Rattle.batch_writes.proofs.Cases.{some_words, refuses-image, refuses-queue, long-queue, refuses-command, refuses-room, few, all_there, rings-last}
use Rattle.batch_writes.proofs.write_batch.Goals as goal

pub returns-in_err-check : goal.returns-in_err-check
returns-in_err-check c =
    let told : c.from_residual.result ≡ Err (Image c.in_err-check.field-0.0) = search rules in
    rw told (search (refuses-image, c.in_err-check.was))

pub bounds-kept-0 : goal.bounds-kept-0
bounds-kept-0 c = search (some_words, c.in_ok-check.was)

pub returns-then-not-queue_good : goal.returns-then-not-queue_good
returns-then-not-queue_good c = search (refuses-queue, c.in_ok-check.was)

pub returns-in_err-first_bad : goal.returns-in_err-first_bad
returns-in_err-first_bad c =
    let told : c.from_residual-in_err-first_bad.result ≡ Err c.in_err-first_bad.field-0.0 = search rules in
    rw told (search (refuses-command, c.in_ok-check.was, c.in_err-first_bad.was))

pub returns-then-free_in-n : goal.returns-then-free_in-n
returns-then-free_in-n c = search (refuses-room, c.in_ok-check.was, c.in_ok-first_bad.was)

pub place-requires : goal.place-requires
place-requires c = (search (long-queue, c.in_ok-check.was), search (all_there, c.in_ok-check.was, c.in_ok-first_bad.was), search (few, c.in_ok-check.was, c.in_ok-first_bad.was))

pub ring-requires : goal.ring-requires
ring-requires c = (search (some_words, c.in_ok-check.was), search (few, c.in_ok-check.was, c.in_ok-first_bad.was))

pub returns : goal.returns
returns c = search (rings-last, c.in_ok-check.was, c.in_ok-first_bad.was)
