-- The C interface: what a caller of the recorder is told (document 02, T-01).
-- Assumes nothing.
use Rattle.std.specs.Prelude.{[], ◌∷◌, Err, Ok, Result, ⊤}
use Rattle.events.specs.declared.Refusal.{Refusal}
use Rattle.events.specs.Events as events
use Rattle.event_calls.specs.declared.Writing.{Writing}
use Rattle.events.specs.declared.Record.{Record}
use Rattle.event_calls.specs.declared.ReadRefusal.{ReadRefusal}
use Rattle.event_calls.specs.declared.ReadRefusal.TheVariants.{Recorder as Read-as-Recorder, Empty}
use Rattle.event_calls.specs.declared.AcknowledgeRefusal.{AcknowledgeRefusal}
use Rattle.event_calls.specs.declared.AcknowledgeRefusal.TheVariants.{Recorder as Acknowledge-as-Recorder, NoOverflow}
use Rattle.event_calls.specs.Calls as calls
use Rattle.interface.specs.declared.Reply.{Reply}
use Rattle.interface.specs.Replies.{nothing, answered, carried}

-- refusals 15 and 16 name nothing more
abbrev pub recorder_reply : Refusal → Reply
recorder_reply why = nothing (events.number why)

-- a write: its end, and its stores
abbrev pub writing_reply : Writing → Reply
writing_reply writing =
    record { code = 0; words = calls.end_number writing.end ∷ writing.stores ∷ 0 ∷ 0 ∷ 0 ∷ 0 ∷ 0 ∷ 0 ∷ [] }

abbrev pub event_write_reply : Result Writing Refusal → Reply
event_write_reply = answered recorder_reply writing_reply

-- a read: the record's four words
abbrev pub event_read_refusal : ReadRefusal → Reply
event_read_refusal (Read-as-Recorder why) = recorder_reply why
event_read_refusal Empty = nothing (calls.read_number Empty)

abbrev pub record_reply : Record → Reply
record_reply r = record { code = 0; words = r.w0 ∷ r.w1 ∷ r.w2 ∷ r.w3 ∷ 0 ∷ 0 ∷ 0 ∷ 0 ∷ [] }

abbrev pub event_read_reply : Result Record ReadRefusal → Reply
event_read_reply = answered event_read_refusal record_reply

-- an acknowledge tells nothing more
abbrev pub event_acknowledge_refusal : AcknowledgeRefusal → Reply
event_acknowledge_refusal (Acknowledge-as-Recorder why) = recorder_reply why
event_acknowledge_refusal NoOverflow = nothing (calls.acknowledge_number NoOverflow)

abbrev pub event_acknowledge_reply : Result ⊤ AcknowledgeRefusal → Reply
event_acknowledge_reply = answered event_acknowledge_refusal carried
