-- Document 01, One run: what each end says, of the memory left and of the allowance. There is no other end.
-- Assumes nothing.
use Rattle.std.specs.Prelude.{◌≡◌, true, false, List, ℕ}
use Rattle.control.specs.Control as control
use Rattle.commands.specs.declared.Features.{Features}
use Rattle.commands.specs.Decoding.{is_illegal}
use Rattle.memory.specs.Memory.{Memory, control_of}
use Rattle.due.specs.Due.{What, at_rd}
use Rattle.runs.specs.declared.End.{End}
use Rattle.runs.specs.declared.End.TheVariants.{Off, Held, Empty, Raised, Cut}
use Rattle.runs.specs.Running.{Out, Next, stores, due_in}

-- Cut: the allowance is spent, and a store was due
pub record Spent {M : Type 0} (f : M → Next M) (k : ℕ) (o : Out M) : Type 0 where
  pub all : o.ran.stores ≡ k
  pub what : What
  pub next-memory : M
  pub was_due : f o.memory ≡ stores what next-memory

-- by CMDQEN, then the error, then the indexes of the control word left
pub record IsOff (w : ℕ) : Type 0 where
  pub disabled : control.cmdqen w ≡ 0

pub record IsHeld (w : ℕ) : Type 0 where
  pub enabled : control.cmdqen w ≡ 0 → ⊥
  pub in_error : control.active w ≡ true

pub record IsEmpty (w : ℕ) : Type 0 where
  pub enabled : control.cmdqen w ≡ 0 → ⊥
  pub quiet : control.active w ≡ false
  pub none-waits : control.rd w ≡ control.wr w

-- Raised: CERROR_ILL is active, and the command that RD still names is illegal
pub record IsRaised (f : Features) (queue : List ℕ) (m : Memory) : Type 0 where
  pub enabled : control.cmdqen (control_of m) ≡ 0 → ⊥
  pub in_error : control.active (control_of m) ≡ true
  pub code : control.err (control_of m) ≡ 1
  pub illegal : is_illegal (at_rd f queue m) ≡ true

abbrev pub Means : Features → List ℕ → ℕ → End → Out Memory → Type 0
Means f queue k Off o = IsOff (control_of o.memory)
Means f queue k Held o = IsHeld (control_of o.memory)
Means f queue k Empty o = IsEmpty (control_of o.memory)
Means f queue k (Raised told) o = IsRaised f queue o.memory
Means f queue k Cut o = Spent (due_in f queue) k o
