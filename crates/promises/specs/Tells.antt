-- Document 02, T-09: what a raised error tells of the command that the control word w names.
-- Assumes nothing.
use Rattle.std.specs.Prelude.{◌≡◌, List, ℕ}
use Rattle.control.specs.Control as control
use Rattle.commands.specs.declared.Features.{Features}
use Rattle.commands.specs.declared.Decoded.TheVariants.{Illegal}
use Rattle.commands.specs.Decoding.{decode_at}
use Rattle.due.specs.declared.Raising.{Raising}

pub record Tells (f : Features) (queue : List ℕ) (w : ℕ) (told : Raising) : Type 0 where
  -- why it is illegal
  pub reason : decode_at f queue (control.slot w) ≡ Illegal told.why
  -- where it is: RD modulo 2 ^ LOG2SIZE
  pub slot : told.slot ≡ control.slot w
