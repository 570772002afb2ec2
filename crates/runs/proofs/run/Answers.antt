-- `runs::run` meets its contract: the refusals in their order, and then what the loops did.
-- Assumes nothing.
use mathlib.Core.Bool.{not}
use mathlib.Core.Path.{ap}
use native.Mathlib.Omega.{arith}
use Rattle.memory.specs.Memory.{both}
use Rattle.std.proofs.Common.{rules}
use Rattle.std.specs.Prelude.{◌≡◌, Err}
use Rattle.runs.specs.declared.RunRefusal.TheVariants.{Image, Table}
use Rattle.runs.proofs.Calling.{refuses-image, refuses-table, refuses-queue, does, some_words, fits-run}
use Rattle.runs.proofs.run.Goals as goal

pub returns-in_err-check : goal.returns-in_err-check
returns-in_err-check c =
    let told : c.from_residual.result ≡ Err (Image c.in_err-check.field-0.0) = search rules in
    rw told (search (refuses-image, c.in_err-check.was))

pub returns-in_err-check-2 : goal.returns-in_err-check-2
returns-in_err-check-2 c =
    let told : c.from_residual-in_err-check-2.result ≡ Err (Table c.in_err-check-2.field-0.0) = search rules in
    rw told (search (refuses-table, c.in_ok-check.was, c.in_err-check-2.was))

pub bounds-kept-0 : goal.bounds-kept-0
bounds-kept-0 c =
    let s = c in
    omega (arith, some_words s.args.f s.args.queue.now s.args.allowance (both s.args.kept.now s.args.table.now) c.check.ensures c.in_ok-check.was)

pub returns-then-not-queue_good : goal.returns-then-not-queue_good
returns-then-not-queue_good c = search (refuses-queue, c.in_ok-check.was, c.in_ok-check-2.was)

pub go-ran-requires : goal.go-ran-requires
go-ran-requires c =
    let s = c in
    fits-run s.args.f s.args.queue.now s.args.allowance (both s.args.kept.now s.args.table.now) c.check.ensures c.in_ok-check.was c.check-2.ensures c.in_ok-check-2.was c.queue_good.ensures (ap not c.if-not-queue_good.false)

pub returns : goal.returns
returns c = search (does, c.in_ok-check.was, c.in_ok-check-2.was)
