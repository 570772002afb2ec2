-- `writer::write` meets its contract: each return is a case of the definition.
-- Assumes nothing.
use Rattle.std.proofs.Common.{rules}
use Rattle.std.specs.Prelude.{◌≡◌, Err}
use Rattle.writer.specs.declared.WriteRefusal.TheVariants.{Bad}
use Rattle.writer.proofs.Judging.{no_slot, no-command, writes}
use Rattle.writer.proofs.write.Goals as goal

pub returns-then-slot-ne-SLOT : goal.returns-then-slot-ne-SLOT
returns-then-slot-ne-SLOT c = search no_slot

pub returns-in_err-c : goal.returns-in_err-c
returns-in_err-c c =
    let gives : c.from_residual.result ≡ Err (Bad c.in_err-c.field-0.0) = search rules in
    rw gives (search (no-command, c.in_err-c.was))

pub returns : goal.returns
returns c = search (writes, c.in_ok-c.was)
