-- Demand 2: what a legal command leaves, word by word.
-- Assumes nothing.
use Rattle.std.specs.Prelude.{◌≡◌, true, false, List, ℕ, suc, ◌+◌, ◌<◌}
use Rattle.commands.specs.declared.Features.{Features}
use Rattle.commands.specs.declared.Command.{Command}
use Rattle.commands.specs.declared.Decoded.TheVariants.{Legal}
use Rattle.commands.specs.Decoding.{syncs_of}
use Rattle.memory.specs.Memory.{Memory, control_of, word0, scoped_at, Untouched}
use Rattle.due.specs.Due.{after_command}
use Rattle.runs.specs.Running.{plus, run}

-- the rows in scope have word 0 zero, RD is one on, and every other word is as it was
pub record Swept (f : Features) (c : Command) (n : ℕ) (m m' : Memory) : Type 0 where
  pub control_word : control_of m' ≡ after_command (Legal c) (control_of m)
  pub gone : (i : ℕ) → i < n → scoped_at f c m i ≡ true → word0 m' i ≡ 0
  pub spared : (i : ℕ) → i < n → scoped_at f c m i ≡ false → word0 m' i ≡ word0 m i
  pub others : Untouched n m m'

-- a run with allowance for the rows in scope and the command itself sweeps them, consumes it, and goes on from there
pub record Exact (f : Features) (queue : List ℕ) (c : Command) (n s : ℕ) (m : Memory) : Type 0 where
  pub after : Memory
  pub swept : Swept f c n m after
  pub continues : (k : ℕ) → run f queue (suc (s + k)) m ≡ plus 1 (suc s) s (syncs_of (Legal c)) (run f queue k after)
