-- The C interface: what each call does, by the definitions of the calls that it carries out.
-- Assumes nothing.
use Rattle.std.specs.Prelude.{not, List, ℕ, eqb}
use Rattle.words.specs.Outcomes.{Outcome}
use Rattle.rows.specs.declared.Row.{Row}
use Rattle.regions.specs.declared.Region.{Region}
use Rattle.commands.specs.FeatureBits.{features_of}
use Rattle.memory.specs.Memory.{Memory}
use Rattle.runs.specs.Call as runs
use Rattle.fills.specs.Fills as fills
use Rattle.region_fills.specs.Fills as region-fills
use Rattle.batches.specs.Batches as batches
use Rattle.control_calls.specs.Calls as control-calls
use Rattle.event_calls.specs.Calls as event-calls
use Rattle.transactions.specs.declared.Transaction.{Transaction}
use Rattle.transactions.specs.Call as transactions
use Rattle.image_state.specs.States as states
use Rattle.writer.specs.Writing as writer
use Rattle.batch_writes.specs.Batch as batch
use Rattle.batch_writes.specs.Batch.{Lent}
use Rattle.interface.specs.declared.Reply.{Reply}
use Rattle.interface.specs.Replies.{run_reply, fill_reply, doorbell_reply, acknowledge_reply, clear_reply, enable_reply, translate_reply, state_reply}
use Rattle.interface.specs.Recorded.{event_write_reply, event_read_reply, event_acknowledge_reply}
use Rattle.interface.specs.Tables.{table_fill_reply}
use Rattle.interface.specs.Writers.{write_reply, batch_reply}
use Rattle.interface.specs.Checked.{check_reply}
use Rattle.host.specs.Told.{telling}

-- with document 02, T-11: the kept memory and the second table
abbrev pub run : ℕ → ℕ → List ℕ → Memory → Outcome Memory Reply
run features allowance queue m = telling run_reply (runs.call (features_of features) queue allowance m)

abbrev pub fill : ℕ → Row → ℕ → List ℕ → Outcome (List ℕ) Reply
fill row words allowance m = telling fill_reply (fills.fill m row words allowance)

-- document 02, T-11: the kept memory m is only read, and the second table t is what is left
abbrev pub table_fill : ℕ → Region → ℕ → List ℕ → List ℕ → Outcome (List ℕ) Reply
table_fill row words allowance m t = telling table_fill_reply (region-fills.fill m t row words allowance)

abbrev pub doorbell : ℕ → List ℕ → Outcome (List ℕ) Reply
doorbell wr m = telling doorbell_reply (control-calls.doorbell m wr)

abbrev pub acknowledge : List ℕ → Outcome (List ℕ) Reply
acknowledge m = telling acknowledge_reply (control-calls.acknowledge m)

-- document 02, T-08
abbrev pub clear_pending : List ℕ → Outcome (List ℕ) Reply
clear_pending m = telling clear_reply (control-calls.clear_pending m)

-- on, if the word is not 0
abbrev pub enable : ℕ → List ℕ → Outcome (List ℕ) Reply
enable on m = telling enable_reply (control-calls.enable m (not (eqb on 0)))

-- document 02, T-01: the recorder's words are lent in place of the kept memory
abbrev pub event_write : List ℕ → ℕ → List ℕ → Outcome (List ℕ) Reply
event_write bytes allowance m = telling event_write_reply (event-calls.write m bytes allowance)

abbrev pub event_read : List ℕ → Outcome (List ℕ) Reply
event_read m = telling event_read_reply (event-calls.read m)

abbrev pub event_acknowledge : List ℕ → Outcome (List ℕ) Reply
event_acknowledge m = telling event_acknowledge_reply (event-calls.acknowledge m)

-- these only read
abbrev pub translate : Transaction → List ℕ → Reply
translate t m = translate_reply (transactions.translate m t)

-- document 02, T-12: both tables are only read
abbrev pub check_batch : ℕ → List ℕ → List ℕ → Memory → Reply
check_batch features original proposed m = check_reply (batches.check (features_of features) original proposed m)

abbrev pub state : List ℕ → Reply
state m = state_reply (states.state_of m)

-- document 02, T-10: the slot, or the kept memory and the queue, are what is left
abbrev pub write_command : List ℕ → ℕ → List ℕ → Outcome (List ℕ) Reply
write_command fields features slot = telling write_reply (writer.write (features_of features) fields slot)

abbrev pub write_batch : List ℕ → ℕ → Lent → Outcome Lent Reply
write_batch commands features m = telling batch_reply (batch.write_batch (features_of features) commands m)
