-- The C interface: what a caller is told, 0 or the refusal's number, and eight words, zero but for those named.
-- Assumes nothing.
use Rattle.std.specs.Prelude.{Bool, [], ◌∷◌, ℕ, Err, Ok, Result, ⊤}
use Rattle.words.specs.Choice.{pick}
use Rattle.image.specs.declared.Refusal.{Refusal}
use Rattle.image.specs.declared.Refusal.TheVariants.{BadLength, BadControl, BadRow}
use Rattle.image.specs.Image as image
use Rattle.regions.specs.declared.Refusal.{Refusal as Table-as-Refusal}
use Rattle.regions.specs.declared.Refusal.TheVariants.{BadLength as Table-as-BadLength, BadRow as Table-as-BadRow}
use Rattle.regions.specs.Table as table
use Rattle.commands.specs.Decoding.{reason_number}
use Rattle.runs.specs.declared.End.{End}
use Rattle.runs.specs.declared.End.TheVariants.{Off, Held, Empty, Raised, Cut as Run-as-Cut}
use Rattle.runs.specs.declared.RunRefusal.{RunRefusal}
use Rattle.runs.specs.declared.RunRefusal.TheVariants.{Image as Run-as-Image, Table as Run-as-Table, BadQueue}
use Rattle.runs.specs.declared.Ran.{Ran}
use Rattle.fills.specs.declared.Filling.{Filling}
use Rattle.image_state.specs.declared.State.{State}
use Rattle.runs.specs.Running as running
use Rattle.runs.specs.Call as runs
use Rattle.fills.specs.declared.FillRefusal.{FillRefusal}
use Rattle.fills.specs.declared.FillRefusal.TheVariants.{Image as Fill-as-Image, NoSuchRow, RowInUse, Unfit, Doubled}
use Rattle.fills.specs.Fills as fills
use Rattle.control_calls.specs.declared.DoorbellRefusal.{DoorbellRefusal}
use Rattle.control_calls.specs.declared.DoorbellRefusal.TheVariants.{Image as Doorbell-as-Image, BadIndex}
use Rattle.control_calls.specs.declared.AcknowledgeRefusal.{AcknowledgeRefusal}
use Rattle.control_calls.specs.declared.AcknowledgeRefusal.TheVariants.{Image as Acknowledge-as-Image, NoError}
use Rattle.control_calls.specs.declared.ClearRefusal.{ClearRefusal}
use Rattle.control_calls.specs.declared.ClearRefusal.TheVariants.{Image as Clear-as-Image, NotPending}
use Rattle.control_calls.specs.Calls as control-calls
use Rattle.transactions.specs.declared.Miss.{Miss}
use Rattle.transactions.specs.declared.Outcome.{Outcome}
use Rattle.transactions.specs.declared.Outcome.TheVariants.{Translated, Abort, Missed}
use Rattle.transactions.specs.declared.TransactionRefusal.{TransactionRefusal}
use Rattle.transactions.specs.declared.TransactionRefusal.TheVariants.{Image as Transaction-as-Image, IllFormed}
use Rattle.transactions.specs.Call as transactions
use Rattle.interface.specs.declared.Reply.{Reply}

abbrev pub bit_of : Bool → ℕ
bit_of b = pick b 1 0

-- a number returned, and no word named
abbrev pub nothing : ℕ → Reply
nothing code = record { code = code; words = 0 ∷ 0 ∷ 0 ∷ 0 ∷ 0 ∷ 0 ∷ 0 ∷ 0 ∷ [] }

-- an answer: what its refusal tells, or what is told of what was carried out
abbrev pub answered : {T E : Type 0} → (E → Reply) → (T → Reply) → Result T E → Reply
answered refusal done (Err why) = refusal why
answered refusal done (Ok x) = done x

-- carried out, with nothing more to tell
abbrev pub carried : ⊤ → Reply
carried x = nothing 0

-- refusal 3 names its row
abbrev pub row_of : Refusal → ℕ
row_of BadLength = 0
row_of BadControl = 0
row_of (BadRow i) = i

abbrev pub image_reply : Refusal → Reply
image_reply why = record { code = image.number why; words = row_of why ∷ 0 ∷ 0 ∷ 0 ∷ 0 ∷ 0 ∷ 0 ∷ 0 ∷ [] }

-- Document 02, T-11: refusal 14 names a row of the second table
abbrev pub table_row_of : Table-as-Refusal → ℕ
table_row_of Table-as-BadLength = 0
table_row_of (Table-as-BadRow i) = i

abbrev pub table_reply : Table-as-Refusal → Reply
table_reply why = record { code = table.number why; words = table_row_of why ∷ 0 ∷ 0 ∷ 0 ∷ 0 ∷ 0 ∷ 0 ∷ 0 ∷ [] }

-- Document 02, T-09: what a raised error tells, and 0 where none was raised
abbrev pub reason_in : End → ℕ
reason_in Off = 0
reason_in Held = 0
reason_in Empty = 0
reason_in (Raised told) = reason_number told.why
reason_in Run-as-Cut = 0

abbrev pub slot_in : End → ℕ
slot_in Off = 0
slot_in Held = 0
slot_in Empty = 0
slot_in (Raised told) = told.slot
slot_in Run-as-Cut = 0

-- a run: its end, the four counts, and what a raised error tells
abbrev pub run_refusal : RunRefusal → Reply
run_refusal (Run-as-Image why) = image_reply why
run_refusal (Run-as-Table why) = table_reply why
run_refusal BadQueue = nothing (runs.number BadQueue)

abbrev pub ran_reply : Ran → Reply
ran_reply ran =
    record {
      code = 0;
      words = running.end_number ran.end ∷ ran.consumed ∷ ran.stores ∷ ran.removed ∷ ran.syncs ∷ reason_in ran.end ∷ slot_in ran.end ∷ 0 ∷ [];
    }

abbrev pub run_reply : Result Ran RunRefusal → Reply
run_reply = answered run_refusal ran_reply

-- a fill: its end, and its stores
abbrev pub fill_refusal : FillRefusal → Reply
fill_refusal (Fill-as-Image why) = image_reply why
fill_refusal NoSuchRow = nothing (fills.number NoSuchRow)
fill_refusal RowInUse = nothing (fills.number RowInUse)
fill_refusal Unfit = nothing (fills.number Unfit)
fill_refusal Doubled = nothing (fills.number Doubled)

abbrev pub filling_reply : Filling → Reply
filling_reply filling =
    record { code = 0; words = fills.end_number filling.end ∷ filling.stores ∷ 0 ∷ 0 ∷ 0 ∷ 0 ∷ 0 ∷ 0 ∷ [] }

abbrev pub fill_reply : Result Filling FillRefusal → Reply
fill_reply = answered fill_refusal filling_reply

-- the calls of one control store tell nothing more
abbrev pub doorbell_refusal : DoorbellRefusal → Reply
doorbell_refusal (Doorbell-as-Image why) = image_reply why
doorbell_refusal BadIndex = nothing (control-calls.doorbell_number BadIndex)

abbrev pub doorbell_reply : Result ⊤ DoorbellRefusal → Reply
doorbell_reply = answered doorbell_refusal carried

abbrev pub acknowledge_refusal : AcknowledgeRefusal → Reply
acknowledge_refusal (Acknowledge-as-Image why) = image_reply why
acknowledge_refusal NoError = nothing (control-calls.acknowledge_number NoError)

abbrev pub acknowledge_reply : Result ⊤ AcknowledgeRefusal → Reply
acknowledge_reply = answered acknowledge_refusal carried

-- document 02, T-08
abbrev pub clear_refusal : ClearRefusal → Reply
clear_refusal (Clear-as-Image why) = image_reply why
clear_refusal NotPending = nothing (control-calls.clear_number NotPending)

abbrev pub clear_reply : Result ⊤ ClearRefusal → Reply
clear_reply = answered clear_refusal carried

abbrev pub enable_reply : Result ⊤ Refusal → Reply
enable_reply = answered image_reply carried

-- a transaction: its outcome, and of an address that address, MemAttr, SH, hints, instruction, privileged
abbrev pub miss_number : Miss → ℕ
miss_number miss = transactions.outcome_number (Missed miss)

abbrev pub outcome_reply : Outcome → Reply
outcome_reply (Translated o) =
    record {
      code = 0;
      words = transactions.outcome_number (Translated o)
          ∷ o.address
          ∷ o.attributes.memattr
          ∷ o.attributes.sh
          ∷ o.attributes.hints
          ∷ bit_of o.instruction
          ∷ bit_of o.privileged
          ∷ 0
          ∷ [];
    }
outcome_reply Abort = record { code = 0; words = transactions.outcome_number Abort ∷ 0 ∷ 0 ∷ 0 ∷ 0 ∷ 0 ∷ 0 ∷ 0 ∷ [] }
outcome_reply (Missed miss) = record { code = 0; words = miss_number miss ∷ 0 ∷ 0 ∷ 0 ∷ 0 ∷ 0 ∷ 0 ∷ 0 ∷ [] }

abbrev pub transaction_refusal : TransactionRefusal → Reply
transaction_refusal (Transaction-as-Image why) = image_reply why
transaction_refusal IllFormed = nothing (transactions.number IllFormed)

abbrev pub translate_reply : Result Outcome TransactionRefusal → Reply
translate_reply = answered transaction_refusal outcome_reply

-- a state: RD, WR, ERR, active, enabled, used rows
abbrev pub is_reply : State → Reply
is_reply s = record { code = 0; words = s.rd ∷ s.wr ∷ s.err ∷ bit_of s.active ∷ bit_of s.enabled ∷ s.used ∷ 0 ∷ 0 ∷ [] }

abbrev pub state_reply : Result State Refusal → Reply
state_reply = answered image_reply is_reply
