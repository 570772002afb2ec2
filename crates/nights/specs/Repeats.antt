-- Document 02, T-14: what repeating a finished call does.
-- Assumes nothing.
use Rattle.std.specs.Prelude.{◌≡◌, ℕ, Err, Ok, Result}
use Rattle.fills.specs.declared.FillEnd.TheVariants.{Filled}
use Rattle.fills.specs.declared.Filling.{Filling}
use Rattle.fills.specs.declared.FillRefusal.{FillRefusal}
use Rattle.region_fills.specs.declared.FillRefusal.{FillRefusal as TableFillRefusal}
use Rattle.runs.specs.declared.Ran.{Ran}
use Rattle.runs.specs.declared.RunRefusal.{RunRefusal}
use Rattle.runs.specs.declared.End.{End}
use Rattle.promises.specs.Numbers.{run_number, fill_number, table_fill_number, doorbell_number, acknowledge_number, clear_number, enable_number, translate_number}
use Rattle.promises.specs.Recorder.{event_write_number, event_read_number, event_acknowledge_number}
use Rattle.nights.specs.Calls.{World, Call, Doorbell, Enable, Acknowledge, Fill, Run, Translate, ClearPending, EventWrite, EventRead, EventAcknowledge, TableFill, Answer, tried}

-- the number of an answer: its refusal's, or 0 where the call was carried out
abbrev pub number_of : (c : Call) → Answer c → ℕ
number_of (Doorbell wr) answer = doorbell_number answer
number_of (Enable on) answer = enable_number answer
number_of Acknowledge answer = acknowledge_number answer
number_of (Fill row words) answer = fill_number answer
number_of (Run f queue) answer = run_number answer
number_of (Translate t) answer = translate_number answer
number_of ClearPending answer = clear_number answer
number_of (EventWrite bytes) answer = event_write_number answer
number_of EventRead answer = event_read_number answer
number_of EventAcknowledge answer = event_acknowledge_number answer
number_of (TableFill row words) answer = table_fill_number answer

-- made in the world w with any allowance, it is refused with this number and changes nothing
pub record Refuses (number : ℕ) (c : Call) (w : World) : Type 0 where
  pub told : (k : ℕ) → number_of c (tried c k w).answer ≡ number
  pub stays : (k : ℕ) → (tried c k w).memory ≡ w

-- made in the world w with any allowance, it answers this and changes nothing
pub record Same (c : Call) (answer : Answer c) (w : World) : Type 0 where
  pub told : (k : ℕ) → (tried c k w).answer ≡ answer
  pub stays : (k : ℕ) → (tried c k w).memory ≡ w

-- carried out, and ended so
abbrev pub EndsFilled : Result Filling FillRefusal → Type 0
EndsFilled (Err why) = ⊥
EndsFilled (Ok filling) = filling.end ≡ Filled

abbrev pub EndsTableFilled : Result Filling TableFillRefusal → Type 0
EndsTableFilled (Err why) = ⊥
EndsTableFilled (Ok filling) = filling.end ≡ Filled

abbrev pub RunEnds : End → Result Ran RunRefusal → Type 0
RunEnds end (Err why) = ⊥
RunEnds end (Ok ran) = ran.end ≡ end

-- a run that ended so and did nothing
abbrev pub idle : End → Result Ran RunRefusal
idle end = Ok (record { end = end; consumed = 0; stores = 0; removed = 0; syncs = 0 })

-- a call that was refused
abbrev pub WasRefused : (c : Call) → Answer c → Type 0
WasRefused c answer = number_of c answer ≡ 0 → ⊥
