-- Demand 3: what is found in memory after a run, whatever its allowance was and however it ended.
-- Assumes nothing.
use Rattle.std.specs.Prelude.{◌≡◌, true, false, List, ◌⊎◌, ℕ, zero, suc, ◌<◌, eqb}
use Rattle.words.specs.Choice.{pick}
use Rattle.control.specs.Control as control
use Rattle.control_stores.specs.Stores as control-stores
use Rattle.commands.specs.declared.Features.{Features}
use Rattle.commands.specs.declared.Command.{Command}
use Rattle.commands.specs.declared.Decoded.{Decoded}
use Rattle.commands.specs.declared.Decoded.TheVariants.{Legal}
use Rattle.commands.specs.Decoding.{decode_at, is_illegal}
use Rattle.memory.specs.Memory.{Memory, control_of, word0, scoped_at, Untouched}
use Rattle.due.specs.Due.{after_command}
use Rattle.runs.specs.declared.End.{End}
use Rattle.runs.specs.declared.End.TheVariants.{Cut}
use Rattle.promises.specs.Sums.{raise}

-- the control word after t commands are consumed
unfoldable pub advanced : Features → List ℕ → ℕ → ℕ → ℕ
advanced f queue zero w = w
advanced f queue (suc t) w = advanced f queue t (after_command (decode_at f queue (control.slot w)) w)

-- the t-th command from RD on
abbrev pub command_at : Features → List ℕ → ℕ → ℕ → Decoded
command_at f queue w t = decode_at f queue (control.slot (advanced f queue t w))

-- the control word that an end leaves
abbrev pub closing : End → ℕ → ℕ
closing end w = pick (eqb (raise end) 1) (control-stores.raised w) w

-- a consumed command: it was legal, and no row is in its scope any more
pub record Consumed (f : Features) (queue : List ℕ) (n : ℕ) (m m' : Memory) (t : ℕ) : Type 0 where
  pub command : Command
  pub is_command : command_at f queue (control_of m) t ≡ Legal command
  pub gone : (i : ℕ) → i < n → scoped_at f command m' i ≡ false

-- in the scope of one of the commands consumed; or, only where the run was cut, of the one at RD
pub record WasInScope (f : Features) (queue : List ℕ) (m : Memory) (consumed : ℕ) (end : End) (i : ℕ) : Type 0 where
  pub which : ℕ
  pub command : Command
  pub reached : (which < consumed) ⊎ ((which ≡ consumed) × (end ≡ Cut))
  pub is_command : command_at f queue (control_of m) which ≡ Legal command
  pub within_scope : scoped_at f command m i ≡ true

-- m before, m' after a run over n rows that consumed so many commands and ended so
pub record Found (f : Features) (queue : List ℕ) (n consumed : ℕ) (end : End) (m m' : Memory) : Type 0 where
  -- RD moved by what was consumed; ERR and GERROR as they were, unless it ended Raised
  pub control_word : control_of m' ≡ closing end (advanced f queue consumed (control_of m))
  -- every command consumed was legal, and every row in its scope is gone
  pub gone : (t : ℕ) → t < consumed → Consumed f queue n m m' t
  -- the command that the error was raised on was illegal
  pub illegal : raise end ≡ 1 → is_illegal (command_at f queue (control_of m) consumed) ≡ true
  -- a word 0 that changed is 0, and its row was in such a scope
  pub early : (i : ℕ) → i < n → (word0 m' i ≡ word0 m i) ⊎ ((word0 m' i ≡ 0) × WasInScope f queue m consumed end i)
  -- every other word is as it was
  pub others : Untouched n m m'
