-- Document 02, T-10: several commands written into free slots, and then the doorbell. Refusals 1 to 4, then 20 or 21 of the first bad
-- command, then 22.
-- Assumes nothing.
use Rattle.std.specs.Prelude.{not, List, ℕ, zero, suc, ◌+◌, ◌-◌, ◌*◌, ◌/◌, ◌%◌, ◌^◌, eqb, leb, ltb, length, take, drop, set, Err, Ok, Result, ⊤}
use Rattle.words.specs.Choice.{pick}
use Rattle.words.specs.Outcomes.{Outcome, with}
use Rattle.indexes.specs.Indexes as indexes
use Rattle.control.specs.Control as control
use Rattle.control_stores.specs.Stores.{rung}
use Rattle.commands.specs.declared.Features.{Features}
use Rattle.image.specs.Image as image
use Rattle.writer.specs.declared.Fault.TheVariants.{Unfit}
use Rattle.commands.specs.declared.Coded.{Coded}
use Rattle.writer.specs.declared.Fault.{Fault}
use Rattle.writer.specs.Layouts.{wide}
use Rattle.writer.specs.Writing.{encoded, split, judged, fault_number, slot_size, with_command}
use Rattle.batch_writes.specs.declared.BatchRefusal.{BatchRefusal}
use Rattle.batch_writes.specs.declared.BatchRefusal.TheVariants.{Image, BadQueue, BadCommand, NoRoom}

-- what is lent: the kept memory, and the queue
pub record Lent : Type 0 where
  pub kept : List ℕ
  pub queue : List ℕ

abbrev pub lent : List ℕ → List ℕ → Lent
lent kept queue = record { kept = kept; queue = queue }

-- the words of command i; and how many commands there are, of which the last may not be whole
abbrev pub words_of : List ℕ → ℕ → List ℕ
words_of ws i = take wide (drop (wide * i) ws)

unfoldable pub commands_in : List ℕ → ℕ
commands_in ws = length ws / wide + pick (eqb (length ws % wide) 0) 0 1

-- one that is not whole does not fit
unfoldable pub judged_at : Features → List ℕ → ℕ → Result Coded Fault
judged_at f ws i = pick (leb (wide * i + wide) (length ws)) (judged f (words_of ws i)) (Err Unfit)

-- the first bad one of the n commands from i on
abbrev pub or_later : ℕ → Result Coded Fault → Result ⊤ BatchRefusal → Result ⊤ BatchRefusal
or_later i (Err why) later = Err (BadCommand i why)
or_later i (Ok c) later = later

unfoldable pub judged_from : Features → List ℕ → ℕ → ℕ → Result ⊤ BatchRefusal
judged_from f ws zero i = Ok tt
judged_from f ws (suc n) i = or_later i (judged_at f ws i) (judged_from f ws n (suc i))

-- how many slots are free
abbrev pub free_in : ℕ → ℕ
free_in w = indexes.slots (control.log2size w) - control.distance w

-- the slot of the i-th from WR on, and the queue with the first n commands in theirs
abbrev pub slot_at : ℕ → ℕ → ℕ
slot_at w i = indexes.slot (control.log2size w) (control.wr w + i)

unfoldable pub placed : List ℕ → ℕ → List ℕ → ℕ → List ℕ
placed ws w queue zero = queue
placed ws w queue (suc n) = with_command (placed ws w queue n) (slot_size * slot_at w n) (split (encoded (words_of ws n)))

-- the doorbell: WR moved on by n
unfoldable pub moved_on : ℕ → ℕ → ℕ
moved_on w n = rung w ((control.wr w + n) % indexes.turn (control.log2size w))

-- the paper's number of each refusal
abbrev pub number : BatchRefusal → ℕ
number (Image why) = image.number why
number BadQueue = 4
number (BadCommand i why) = fault_number why
number NoRoom = 22

abbrev pub refused : BatchRefusal → Lent → Outcome Lent (Result ⊤ BatchRefusal)
refused why m = with (Err why) m

abbrev pub by_judged : Result ⊤ BatchRefusal → Lent → Outcome Lent (Result ⊤ BatchRefusal) → Outcome Lent (Result ⊤ BatchRefusal)
by_judged (Err why) m next = refused why m
by_judged (Ok fine) m next = next

unfoldable pub write_batch : Features → List ℕ → Lent → Outcome Lent (Result ⊤ BatchRefusal)
write_batch f ws m =
    let w = image.control_of m.kept in
    let n = commands_in ws in
    image.checked (image.check m.kept) (λ why. refused (Image why) m)
    (λ rows. pick (not (eqb (length m.queue) (slot_size * 2 ^ control.log2size w))) (refused BadQueue m)
    (by_judged (judged_from f ws n 0) m
    (pick (ltb (free_in w) n) (refused NoRoom m)
    (with (Ok tt) (lent (set m.kept 0 (moved_on w n)) (placed ws w m.queue n))))))
