-- Document 01, One run: what single store is due, from features, queue and memory alone.
-- Assumes nothing.
use Rattle.std.specs.Prelude.{◌≡◌, true, List, [], ◌∷◌, ℕ, ◌-◌, ◌≤◌, eqb, None, Option, Some}
use Rattle.words.specs.Choice.{pick}
use Rattle.words.specs.Ranges.{Range}
use Rattle.words.specs.Search.{lowest}
use Rattle.control.specs.Control as control
use Rattle.control.specs.declared.Rest.{Rest}
use Rattle.control_stores.specs.Stores as control-stores
use Rattle.commands.specs.declared.Features.{Features}
use Rattle.commands.specs.declared.Command.{Command}
use Rattle.commands.specs.declared.Reason.{Reason}
use Rattle.commands.specs.declared.Decoded.{Decoded}
use Rattle.commands.specs.declared.Decoded.TheVariants.{Legal, Illegal}
use Rattle.commands.specs.Decoding.{decode_at, syncs_of}
use Rattle.memory.specs.Memory.{Memory, Place, Control, Word0, control_of, rows_in, scoped_at, put, Whole}
use Rattle.due.specs.declared.Raising.{Raising}
use Rattle.due.specs.declared.Stepped.{Stepped}
use Rattle.due.specs.declared.Stepped.TheVariants.{Removed, Consumed, DidRaise}

-- what a store does: it removes a row, consumes a command, of which so many CMD_SYNCs with CS 1, or raises the error and tells why
pub data What : Type 0 where
  Remove : What
  Consume : ℕ → What
  Raise : Raising → What

-- nothing is due, or one store: its place, its word, and what it does
pub data Due : Type 0 where
  Rests : Rest → Due
  Stores : Place → ℕ → What → Due

-- rows from one on and below another, in memory that has them
pub record Among (m : Memory) (from to : ℕ) : Type 0 where
  pub room : Whole m
  pub order : from ≤ to
  pub high : to ≤ rows_in m

-- the lowest row in scope, of the n from row i on
abbrev pub scan : Features → Command → Memory → ℕ → ℕ → Option ℕ
scan f command m n i = lowest (scoped_at f command m) n i

-- and of all from row i on
abbrev pub scanned : Features → Command → Memory → ℕ → Option ℕ
scanned f command m i = scan f command m (rows_in m - i) i

-- the control word after a command is consumed, and the parts of it that this touches: RD goes forward, and a CMD_SYNC with
-- CS 1 leaves its interrupt pending (document 02, T-08)
unfoldable pub after_command : Decoded → ℕ → ℕ
after_command d w =
    let next = control-stores.consumed w in
    pick (eqb (syncs_of d) 1) (control-stores.pended next true) next

abbrev pub consumes : List Range
consumes = control.rd_bits ∷ control.pending_bits ∷ []

-- a legal command: the lowest row in scope goes; once there is none, the command is consumed
abbrev pub by_scan : Command → ℕ → Option ℕ → Due
by_scan command w (Some i) = Stores (Word0 i) 0 Remove
by_scan command w None = Stores Control (after_command (Legal command) w) (Consume (syncs_of (Legal command)))

-- Document 02, T-09: the error tells the command's reason and its slot
abbrev pub raising_at : Reason → ℕ → Raising
raising_at why w = record { why = why; slot = control.slot w }

-- the command at RD; an illegal one raises the error
unfoldable pub due_for : Features → Decoded → Memory → Due
due_for f (Legal command) m = by_scan command (control_of m) (scan f command m (rows_in m) 0)
due_for f (Illegal why) m = Stores Control (control-stores.raised (control_of m)) (Raise (raising_at why (control_of m)))

abbrev pub at_rd : Features → List ℕ → Memory → Decoded
at_rd f queue m = decode_at f queue (control.slot (control_of m))

abbrev pub gate : Option Rest → Due → Due
gate (Some rest) d = Rests rest
gate None d = d

unfoldable pub due : Features → List ℕ → Memory → Due
due f queue m = gate (control.standing (control_of m)) (due_for f (at_rd f queue m) m)

-- the memory after the store
abbrev pub made : Due → Memory → Memory
made (Rests rest) m = m
made (Stores place v what) m = put m place v

-- A step answers which store it made. It is handed the place where its scan goes on: no row below it is in scope.
abbrev pub store_of : Decoded → Memory → Stepped → Due
store_of d m (Removed i) = Stores (Word0 i) 0 Remove
store_of d m Consumed = Stores Control (after_command d (control_of m)) (Consume (syncs_of d))
store_of d m (DidRaise told) = Stores Control (control-stores.raised (control_of m)) (Raise told)

abbrev pub NoneBelow : Features → Decoded → Memory → ℕ → Type 0
NoneBelow f (Legal command) m from = scanned f command m from ≡ scan f command m (rows_in m) 0
NoneBelow f (Illegal why) m from = from ≡ 0

pub record Ready (f : Features) (d : Decoded) (from : ℕ) (m : Memory) : Type 0 where
  pub room : Whole m
  pub high : from ≤ rows_in m
  pub none_below : NoneBelow f d m from

pub record Made (f : Features) (d : Decoded) (m m' : Memory) (r : Stepped) : Type 0 where
  pub is_due : due_for f d m ≡ store_of d m r
  pub stored : m' ≡ made (store_of d m r) m
