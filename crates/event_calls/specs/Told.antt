-- Document 02, T-01: what the answers alone tell of the queue and of the overflow, over calls made one after the other; and a write
-- that is cut and made again.
-- Assumes nothing.
use Rattle.std.specs.Prelude.{◌≡◌, Bool, true, false, List, [], ◌∷◌, ◌++◌, ℕ, drop, Err, Ok, Result, ⊤}
use Rattle.events.specs.declared.Record.{Record}
use Rattle.events.specs.Events.{record_of}
use Rattle.event_calls.specs.declared.WriteEnd.{WriteEnd}
use Rattle.event_calls.specs.declared.WriteEnd.TheVariants.{Stored, Dropped, Cut}
use Rattle.event_calls.specs.declared.Writing.{Writing}
use Rattle.events.specs.declared.Refusal.{Refusal}
use Rattle.event_calls.specs.declared.ReadRefusal.{ReadRefusal}
use Rattle.event_calls.specs.declared.AcknowledgeRefusal.{AcknowledgeRefusal}
use Rattle.event_calls.specs.Calls.{write, read, acknowledge}

-- the records that wait after an answer: a stored one is the last of them, a read one was the first
abbrev pub by_end : Record → WriteEnd → List Record → List Record
by_end r Stored q = q ++ (r ∷ [])
by_end r Dropped q = q
by_end r Cut q = q

abbrev pub queue_by_write : Record → Result Writing Refusal → List Record → List Record
queue_by_write r (Err why) q = q
queue_by_write r (Ok writing) q = by_end r writing.end q

abbrev pub queue_by_read : Result Record ReadRefusal → List Record → List Record
queue_by_read (Err why) q = q
queue_by_read (Ok r) q = drop 1 q

-- whether an overflow is outstanding after it: from a drop on, until it is acknowledged
abbrev pub overflow_by_end : WriteEnd → Bool → Bool
overflow_by_end Stored was = was
overflow_by_end Dropped was = true
overflow_by_end Cut was = was

abbrev pub overflow_by_write : Result Writing Refusal → Bool → Bool
overflow_by_write (Err why) was = was
overflow_by_write (Ok writing) was = overflow_by_end writing.end was

abbrev pub overflow_by_acknowledge : Result ⊤ AcknowledgeRefusal → Bool → Bool
overflow_by_acknowledge (Err why) was = was
overflow_by_acknowledge (Ok tt) was = false

-- the calls: a write with its bytes and allowance, a read, an acknowledge
pub data Call : Type 0 where
  Write : List ℕ → ℕ → Call
  Read : Call
  Acknowledge : Call

-- the memory that one leaves, and what it tells
abbrev pub leaves : Call → List ℕ → List ℕ
leaves (Write bytes k) m = (write m bytes k).memory
leaves Read m = (read m).memory
leaves Acknowledge m = (acknowledge m).memory

abbrev pub queue_by : Call → List ℕ → List Record → List Record
queue_by (Write bytes k) m q = queue_by_write (record_of bytes) (write m bytes k).answer q
queue_by Read m q = queue_by_read (read m).answer q
queue_by Acknowledge m q = q

abbrev pub overflow_by : Call → List ℕ → Bool → Bool
overflow_by (Write bytes k) m was = overflow_by_write (write m bytes k).answer was
overflow_by Read m was = was
overflow_by Acknowledge m was = overflow_by_acknowledge (acknowledge m).answer was

-- and several, each on the memory that the one before left
unfoldable pub leaves_all : List Call → List ℕ → List ℕ
leaves_all [] m = m
leaves_all (c ∷ cs) m = leaves_all cs (leaves c m)

unfoldable pub queue_all : List Call → List ℕ → List Record → List Record
queue_all [] m q = q
queue_all (c ∷ cs) m q = queue_all cs (leaves c m) (queue_by c m q)

unfoldable pub overflow_all : List Call → List ℕ → Bool → Bool
overflow_all [] m was = was
overflow_all (c ∷ cs) m was = overflow_all cs (leaves c m) (overflow_by c m was)

-- it was carried out, and ended so
abbrev pub Ends : WriteEnd → Result Writing Refusal → Type 0
Ends end (Err why) = ⊥
Ends end (Ok writing) = writing.end ≡ end

-- the memory after writes of one record with these allowances; and that each of them ended Cut
unfoldable pub rewritten : List ℕ → List ℕ → List ℕ → List ℕ
rewritten bytes [] m = m
rewritten bytes (k ∷ ks) m = rewritten bytes ks (write m bytes k).memory

pub data WritesCut (bytes : List ℕ) : List ℕ → List ℕ → Type 0 where
  none : {m : List ℕ} → WritesCut bytes [] m
  one : {k : ℕ} {ks m : List ℕ} → Ends Cut (write m bytes k).answer → WritesCut bytes ks (write m bytes k).memory → WritesCut bytes (k ∷ ks) m
