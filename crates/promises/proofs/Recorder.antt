-- Document 02, T-01: each call of the recorder gives the first number of its row that applies, and 0 where none does.
-- Assumes nothing.
use mathlib.Core.Path.{◌≡◌, refl}
use mathlib.Core.Bool.{Bool, true, false, not}
use mathlib.Core.List.{List, [], ◌++◌}
use Prim.Native.Nat.{ℕ}
use lib.ListN.{get_or}
use Rattle.std.specs.Prelude.{None, Option, Result, Some}
use Rattle.words.proofs.Truth.{through}
use Rattle.events.specs.declared.Refusal.{Refusal}
use Rattle.events.specs.declared.Refusal.TheVariants.{BadLength, BadIndex}
use Rattle.events.specs.Word.{well_formed, outstanding, is_empty}
use Rattle.events.specs.Events as events
use Rattle.event_calls.specs.declared.WriteEnd.{WriteEnd}
use Rattle.event_calls.specs.declared.WriteEnd.TheVariants.{Stored, Dropped, Cut}
use Rattle.event_calls.specs.Calls as calls
use Rattle.promises.specs.Numbers.{Rule, first}
use Rattle.promises.specs.Recorder.{event_write_number, event_read_number, event_acknowledge_number, of_recorder, of_event_read, of_event_acknowledge, event_write_ends}
use Rattle.promises.proofs.Numbers.{of_answer}

-- 15 and 16, and then the numbers of the call's own
module _ {A : Type 0} (m : List ℕ) (number : A → ℕ) (refuses : Refusal → A) (continues : ℕ → A) (rules : List Rule)
    (says-why : (why : Refusal) → number (refuses why) ≡ events.number why) (says-rest : (n : ℕ) → number (continues n) ≡ first rules) where
  abbrev told : Result ℕ Refusal → ℕ
  told c = number (events.checked c refuses continues)

  index_case : (n : ℕ) → events.log2_of m ≡ Some n → (b : Bool) → well_formed n (events.index_of m) ≡ b → told (events.check m) ≡ first (of_recorder m ++ rules)
  unfolding events.check
  index_case n e true t = rw (e, t) (says-rest n)
  index_case n e false t = rw (e, t) (says-why BadIndex)

  by-log2 : (f : Option ℕ) → events.log2_of m ≡ f → told (events.check m) ≡ first (of_recorder m ++ rules)
  unfolding events.check
  by-log2 (Some n) e = index_case n e (well_formed n (events.index_of m)) refl
  by-log2 None e = rw e (says-why BadLength)

  recorder-first : told (events.check m) ≡ first (of_recorder m ++ rules)
  recorder-first = by-log2 (events.log2_of m) refl

module _ (m : List ℕ) where
  pub event-write-number : (bytes : List ℕ) (k : ℕ) → event_write_number (calls.write m bytes k).answer ≡ first (of_recorder m ++ [])
  unfolding calls.write
  event-write-number bytes k = recorder-first m (of_answer event_write_number) _ _ [] (λ why. refl) (λ n. refl)

  pub event-read-number : event_read_number (calls.read m).answer ≡ first (of_recorder m ++ of_event_read m)
  unfolding calls.read
  event-read-number =
      recorder-first m (of_answer event_read_number) _ _ (of_event_read m) (λ why. refl) (λ n. through (of_answer event_read_number) (is_empty (events.index_of m)) _ _)

  pub event-acknowledge-number : event_acknowledge_number (calls.acknowledge m).answer ≡ first (of_recorder m ++ of_event_acknowledge m)
  unfolding calls.acknowledge
  event-acknowledge-number =
      recorder-first m (of_answer event_acknowledge_number) _ _ (of_event_acknowledge m) (λ why. refl)
      (λ n. through (of_answer event_acknowledge_number) (not (outstanding (events.index_of m))) _ _)

-- an end's number is its place among the ends, so that the number tells which it was
pub event_write_end_told : (e : WriteEnd) → get_or event_write_ends (calls.end_number e) Cut ≡ e
event_write_end_told Stored = refl
event_write_end_told Dropped = refl
event_write_end_told Cut = refl
