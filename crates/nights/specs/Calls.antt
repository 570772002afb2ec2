-- Document 02, T-14: the calls of a night, those of T-01, T-08 and T-11 with them, and the world that they are made on.
-- Assumes nothing.
use Rattle.std.specs.Prelude.{◌≡◌, Bool, true, false, List, ℕ, ◌+◌, Err, Ok, Result, ⊤}
use Rattle.words.specs.Outcomes.{Outcome, with}
use Rattle.control.specs.Control as control
use Rattle.rows.specs.declared.Row.{Row}
use Rattle.commands.specs.declared.Features.{Features}
use Rattle.control_calls.specs.declared.DoorbellRefusal.{DoorbellRefusal}
use Rattle.control_calls.specs.declared.AcknowledgeRefusal.{AcknowledgeRefusal}
use Rattle.control_calls.specs.declared.ClearRefusal.{ClearRefusal}
use Rattle.image.specs.declared.Refusal.{Refusal}
use Rattle.fills.specs.declared.Filling.{Filling}
use Rattle.fills.specs.declared.FillRefusal.{FillRefusal}
use Rattle.region_fills.specs.declared.FillRefusal.{FillRefusal as TableFillRefusal}
use Rattle.runs.specs.declared.Ran.{Ran}
use Rattle.runs.specs.declared.RunRefusal.{RunRefusal}
use Rattle.transactions.specs.declared.Outcome.{Outcome as TransactionOutcome}
use Rattle.transactions.specs.declared.TransactionRefusal.{TransactionRefusal}
use Rattle.event_calls.specs.declared.Writing.{Writing}
use Rattle.events.specs.declared.Refusal.{Refusal as RecorderRefusal}
use Rattle.events.specs.declared.Record.{Record}
use Rattle.event_calls.specs.declared.ReadRefusal.{ReadRefusal}
use Rattle.event_calls.specs.declared.AcknowledgeRefusal.{AcknowledgeRefusal as EventAcknowledgeRefusal}
use Rattle.image.specs.Image as image
use Rattle.regions.specs.declared.Region.{Region}
use Rattle.regions.specs.Table as regions
use Rattle.events.specs.Events as events
use Rattle.memory.specs.Memory.{Memory, both, control_of, rows_in, used_rows}
use Rattle.control_calls.specs.Calls as control-calls
use Rattle.fills.specs.Fills as fills
use Rattle.region_fills.specs.Fills as region-fills
use Rattle.region_fills.specs.Cuts as region-cuts
use Rattle.runs.specs.Call as runs
use Rattle.transactions.specs.declared.Transaction.{Transaction}
use Rattle.transactions.specs.Call as transactions
use Rattle.event_calls.specs.declared.WriteEnd.TheVariants.{Cut}
use Rattle.event_calls.specs.Calls as event-calls
use Rattle.event_calls.specs.Told.{Ends}
use Rattle.promises.specs.Calls as promised
use Rattle.promises.specs.Filling as filling
use Rattle.nights.specs.Night.{Unit}

-- the kept memory, the second lent table and the recorder
pub record World : Type 0 where
  pub kept : List ℕ
  pub table : List ℕ
  pub recorder : List ℕ

-- a call with its inputs, all but the allowance
pub data Call : Type 0 where
  Doorbell : ℕ → Call
  Enable : Bool → Call
  Acknowledge : Call
  Fill : ℕ → Row → Call
  Run : Features → List ℕ → Call
  Translate : Transaction → Call
  ClearPending : Call
  EventWrite : List ℕ → Call
  EventRead : Call
  EventAcknowledge : Call
  TableFill : ℕ → Region → Call

-- what each answers
abbrev pub Answer : Call → Type 0
Answer (Doorbell wr) = Result ⊤ DoorbellRefusal
Answer (Enable on) = Result ⊤ Refusal
Answer Acknowledge = Result ⊤ AcknowledgeRefusal
Answer (Fill row words) = Result Filling FillRefusal
Answer (Run f queue) = Result Ran RunRefusal
Answer (Translate t) = Result TransactionOutcome TransactionRefusal
Answer ClearPending = Result ⊤ ClearRefusal
Answer (EventWrite bytes) = Result Writing RecorderRefusal
Answer EventRead = Result Record ReadRefusal
Answer EventAcknowledge = Result ⊤ EventAcknowledgeRefusal
Answer (TableFill row words) = Result Filling TableFillRefusal

-- a call on one part of the world: the others stay
abbrev pub memory_of : World → Memory
memory_of w = both w.kept w.table

abbrev pub in_kept : {A : Type 0} → World → Outcome (List ℕ) A → Outcome World A
in_kept w o = with o.answer (record { kept = o.memory; table = w.table; recorder = w.recorder })

abbrev pub in_table : {A : Type 0} → World → Outcome (List ℕ) A → Outcome World A
in_table w o = with o.answer (record { kept = w.kept; table = o.memory; recorder = w.recorder })

abbrev pub in_recorder : {A : Type 0} → World → Outcome (List ℕ) A → Outcome World A
in_recorder w o = with o.answer (record { kept = w.kept; table = w.table; recorder = o.memory })

abbrev pub in_memory : {A : Type 0} → World → Outcome Memory A → Outcome World A
in_memory w o = with o.answer (record { kept = o.memory.kept; table = o.memory.table; recorder = w.recorder })

-- one try, under an allowance of k; a call that has no allowance asks for none
abbrev pub tried : (c : Call) → ℕ → World → Outcome World (Answer c)
tried (Doorbell wr) k w = in_kept w (control-calls.doorbell w.kept wr)
tried (Enable on) k w = in_kept w (control-calls.enable w.kept on)
tried Acknowledge k w = in_kept w (control-calls.acknowledge w.kept)
tried (Fill row words) k w = in_kept w (fills.fill w.kept row words k)
tried (Run f queue) k w = in_memory w (runs.call f queue k (memory_of w))
tried (Translate t) k w = with (transactions.translate w.kept t) w
tried ClearPending k w = in_kept w (control-calls.clear_pending w.kept)
tried (EventWrite bytes) k w = in_recorder w (event-calls.write w.recorder bytes k)
tried EventRead k w = in_recorder w (event-calls.read w.recorder)
tried EventAcknowledge k w = in_recorder w (event-calls.acknowledge w.recorder)
tried (TableFill row words) k w = in_table w (region-fills.fill w.kept w.table row words k)

-- it was carried out, and ended Cut
abbrev pub EndsCut : (c : Call) → Answer c → Type 0
EndsCut (Doorbell wr) answer = ⊥
EndsCut (Enable on) answer = ⊥
EndsCut Acknowledge answer = ⊥
EndsCut (Fill row words) answer = filling.EndsCut answer
EndsCut (Run f queue) answer = promised.EndsCut answer
EndsCut (Translate t) answer = ⊥
EndsCut ClearPending answer = ⊥
EndsCut (EventWrite bytes) answer = Ends Cut answer
EndsCut EventRead answer = ⊥
EndsCut EventAcknowledge answer = ⊥
EndsCut (TableFill row words) answer = region-cuts.EndsCut answer

-- it has an allowance
abbrev pub has_allowance : Call → Bool
has_allowance (Doorbell wr) = false
has_allowance (Enable on) = false
has_allowance Acknowledge = false
has_allowance (Fill row words) = true
has_allowance (Run f queue) = true
has_allowance (Translate t) = false
has_allowance ClearPending = false
has_allowance (EventWrite bytes) = true
has_allowance EventRead = false
has_allowance EventAcknowledge = false
has_allowance (TableFill row words) = true

-- the answers of a cut try and of what came after it: the four counts of a run add up, and of the others the last is the answer
abbrev pub joined : (c : Call) → Answer c → Answer c → Answer c
joined (Doorbell wr) first rest = rest
joined (Enable on) first rest = rest
joined Acknowledge first rest = rest
joined (Fill row words) first rest = rest
joined (Run f queue) first rest = promised.◌and◌ first rest
joined (Translate t) first rest = rest
joined ClearPending first rest = rest
joined (EventWrite bytes) first rest = rest
joined EventRead first rest = rest
joined EventAcknowledge first rest = rest
joined (TableFill row words) first rest = rest

-- the stores that a run made
abbrev pub stores_of : Result Ran RunRefusal → ℕ
stores_of (Err why) = 0
stores_of (Ok ran) = ran.stores

-- used rows of both tables, and waiting commands
abbrev pub ahead : World → ℕ
ahead w = used_rows (memory_of w) (rows_in (memory_of w)) + control.distance (control_of (memory_of w))

-- an allowance that is enough
abbrev pub enough : Call → World → ℕ
enough (Doorbell wr) w = 0
enough (Enable on) w = 0
enough Acknowledge w = 0
enough (Fill row words) w = 4
enough (Run f queue) w = ahead w
enough (Translate t) w = 0
enough ClearPending w = 0
enough (EventWrite bytes) w = 5
enough EventRead w = 0
enough EventAcknowledge w = 0
enough (TableFill row words) w = 2

abbrev pub unit : Unit Call World Answer
unit = record { tried = tried; EndsCut = EndsCut; joined = joined; enough = enough }

-- accepted: the kept memory by refusals 1 to 3, the table by 13 and 14, the recorder by 15 and 16
pub record Accepted (w : World) : Type 0 where
  pub rows : ℕ
  pub kept : image.check w.kept ≡ Ok rows
  pub parts : ℕ
  pub table : regions.check w.table ≡ Ok parts
  pub log2 : ℕ
  pub recorder : events.check w.recorder ≡ Ok log2
