-- Document 02, T-01: writing a record, reading the oldest, acknowledging an overflow; refusals 17 and 18.
-- Assumes nothing.
use Rattle.std.specs.Prelude.{◌≡◌, not, List, [], ◌∷◌, ℕ, ◌+◌, ◌*◌, ltb, length, set, Err, Ok, Result, ⊤}
use Rattle.words.specs.Choice.{pick}
use Rattle.words.specs.Outcomes.{Outcome, with}
use Rattle.stores.specs.declared.Store.{Store}
use Rattle.stores.specs.Stores.{store_in, after_stores}
use Rattle.events.specs.declared.Record.{Record}
use Rattle.events.specs.Word.{outstanding, is_empty, is_full, oldest, free}
use Rattle.events.specs.Stores.{written, read_out, flipped, acknowledged}
use Rattle.events.specs.Events as events
use Rattle.event_calls.specs.declared.WriteEnd.{WriteEnd}
use Rattle.event_calls.specs.declared.WriteEnd.TheVariants.{Stored, Dropped, Cut}
use Rattle.event_calls.specs.declared.Writing.{Writing}
use Rattle.events.specs.declared.Refusal.{Refusal}
use Rattle.event_calls.specs.declared.ReadRefusal.{ReadRefusal}
use Rattle.event_calls.specs.declared.ReadRefusal.TheVariants.{Recorder as OfRecorder, Empty}
use Rattle.event_calls.specs.declared.AcknowledgeRefusal.{AcknowledgeRefusal}
use Rattle.event_calls.specs.declared.AcknowledgeRefusal.TheVariants.{Recorder as ByRecorder, NoOverflow}

-- the paper's numbers of the refusals; the ends in the order in which it names them
abbrev pub read_number : ReadRefusal → ℕ
read_number (OfRecorder why) = events.number why
read_number Empty = 17

abbrev pub acknowledge_number : AcknowledgeRefusal → ℕ
acknowledge_number (ByRecorder why) = events.number why
acknowledge_number NoOverflow = 18

abbrev pub end_number : WriteEnd → ℕ
end_number Stored = 0
end_number Dropped = 1
end_number Cut = 2

-- the stores of a record in their order: the slot's four words, and last the index word, by which the record is one that waits
abbrev pub write_stores : ℕ → Record → ℕ → List Store
write_stores slot r index =
    record { at = 4 * slot + 1; value = r.w0 }
    ∷ record { at = 4 * slot + 2; value = r.w1 }
    ∷ record { at = 4 * slot + 3; value = r.w2 }
    ∷ record { at = 4 * slot + 4; value = r.w3 }
    ∷ record { at = 0; value = index }
    ∷ []

-- the one at a place of the list, counted from 0
unfoldable pub store_at : ℕ → Record → ℕ → ℕ → Store
store_at slot r index place = store_in (write_stores slot r index) place

-- the stores of a record that is dropped: none while an overflow is outstanding, else the one that flips the flag
unfoldable pub drop_stores : ℕ → List Store
drop_stores w = pick (outstanding w) [] (record { at = 0; value = flipped w } ∷ [])

-- the stores that are due under the index word w, and how a write ends once they are made
unfoldable pub due_stores : ℕ → Record → List Store
due_stores w r = pick (is_full w) (drop_stores w) (write_stores (free w) r (written w))

unfoldable pub end_of : ℕ → WriteEnd
end_of w = pick (is_full w) Dropped Stored

-- what is reported under an allowance of k: cut after k stores, or the end and all of them
unfoldable pub report : List Store → WriteEnd → ℕ → Writing
report ss end k = pick (ltb k (length ss)) (record { end = Cut; stores = k }) (record { end = end; stores = length ss })

-- what the stores ss ensure, of the memory m before and m' after and of what is reported
pub record Stores (ss : List Store) (end : WriteEnd) (k : ℕ) (m m' : List ℕ) (r : Writing) : Type 0 where
  pub reports : r ≡ report ss end k
  pub leaves : m' ≡ after_stores k ss m

unfoldable pub write : List ℕ → List ℕ → ℕ → Outcome (List ℕ) (Result Writing Refusal)
write m bytes k =
    let w = events.index_of m in
    let ss = due_stores w (events.record_of bytes) in
    events.checked (events.check m) (λ why. with (Err why) m)
    (λ n. with (Ok (report ss (end_of w) k)) (after_stores k ss m))

-- 17, and then one store
unfoldable pub read : List ℕ → Outcome (List ℕ) (Result Record ReadRefusal)
read m =
    let w = events.index_of m in
    events.checked (events.check m) (λ why. with (Err (OfRecorder why)) m)
    (λ n. pick (is_empty w) (with (Err Empty) m)
    (with (Ok (events.record_at m (oldest w))) (set m 0 (read_out w))))

-- 18, and then one store
unfoldable pub acknowledge : List ℕ → Outcome (List ℕ) (Result ⊤ AcknowledgeRefusal)
acknowledge m =
    let w = events.index_of m in
    events.checked (events.check m) (λ why. with (Err (ByRecorder why)) m)
    (λ n. pick (not (outstanding w)) (with (Err NoOverflow) m)
    (with (Ok tt) (set m 0 (acknowledged w))))
