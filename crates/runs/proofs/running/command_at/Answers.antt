-- `runs::running::command_at` meets its contract.
-- Assumes nothing.
use native.Mathlib.Omega.{arith}
use Rattle.control.proofs.Formed.{slot_lt}
use Rattle.runs.proofs.running.command_at.Goals as goal

pub decode_at-requires : goal.decode_at-requires
decode_at-requires c = omega (arith, c.slot_of-at.ensures, slot_lt c.args.w, c.requires)
