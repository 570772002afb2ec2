-- A control word and its queue over legal commands.
-- Assumes nothing.
use Rattle.std.specs.Prelude.{◌≡◌, false, List, ℕ, ◌<◌}
use Rattle.control.specs.Control as control
use Rattle.commands.specs.declared.Features.{Features}
use Rattle.commands.specs.Decoding.{is_illegal}
use Rattle.promises.specs.Found.{command_at}

-- it is enabled, with no error, and every command that waits is legal
pub record AllLegal (f : Features) (queue : List ℕ) (w : ℕ) : Type 0 where
  pub enabled : control.cmdqen w ≡ 0 → ⊥
  pub quiet : control.active w ≡ false
  pub legal : (t : ℕ) → t < control.distance w → is_illegal (command_at f queue w t) ≡ false
