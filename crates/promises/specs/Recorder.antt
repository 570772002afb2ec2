-- Document 02, T-01: the recorder's refusals, with each call's numbers in their order.
-- Assumes nothing.
use Rattle.std.specs.Prelude.{Bool, false, not, List, [], ◌∷◌, ℕ, Err, None, Ok, Option, Result, Some, ⊤}
use Rattle.event_calls.specs.declared.Writing.{Writing}
use Rattle.events.specs.declared.Refusal.{Refusal}
use Rattle.events.specs.declared.Record.{Record}
use Rattle.event_calls.specs.declared.ReadRefusal.{ReadRefusal}
use Rattle.event_calls.specs.declared.AcknowledgeRefusal.{AcknowledgeRefusal}
use Rattle.events.specs.Word.{well_formed, outstanding, is_empty}
use Rattle.events.specs.Events as events
use Rattle.event_calls.specs.declared.WriteEnd.{WriteEnd}
use Rattle.event_calls.specs.declared.WriteEnd.TheVariants.{Stored, Dropped, Cut}
use Rattle.event_calls.specs.Calls as calls
use Rattle.promises.specs.Numbers.{Rule, some}

-- the number of an answer: its refusal's, or 0 where the call was carried out, as it is when a record is dropped
abbrev pub event_write_number : Result Writing Refusal → ℕ
event_write_number (Err why) = events.number why
event_write_number (Ok writing) = 0

abbrev pub event_read_number : Result Record ReadRefusal → ℕ
event_read_number (Err why) = calls.read_number why
event_read_number (Ok r) = 0

abbrev pub event_acknowledge_number : Result ⊤ AcknowledgeRefusal → ℕ
event_acknowledge_number (Err why) = calls.acknowledge_number why
event_acknowledge_number (Ok tt) = 0

-- no index word of a recorder of this length
abbrev pub ill_formed : Option ℕ → ℕ → Bool
ill_formed (Some n) w = not (well_formed n w)
ill_formed None w = false

-- tried first, by every call
abbrev pub of_recorder : List ℕ → List Rule
of_recorder m =
    record { number = 15; applies = not (some (events.log2_of m)) }
    ∷ record { number = 16; applies = ill_formed (events.log2_of m) (events.index_of m) }
    ∷ []

-- then each call's own
abbrev pub of_event_read : List ℕ → List Rule
of_event_read m = record { number = 17; applies = is_empty (events.index_of m) } ∷ []

abbrev pub of_event_acknowledge : List ℕ → List Rule
of_event_acknowledge m = record { number = 18; applies = not (outstanding (events.index_of m)) } ∷ []

-- the ends in the order of their numbers
abbrev pub event_write_ends : List WriteEnd
event_write_ends = Stored ∷ Dropped ∷ Cut ∷ []
