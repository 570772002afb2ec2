-- Each call, case by case: what it answers and leaves once the recorder's check and the call's own test are known.
-- Assumes nothing.
use mathlib.Core.Path.{◌≡◌, refl, ap, ◌∙◌}
use mathlib.Core.Bool.{true, false}
use mathlib.Core.List.{List, [], ◌∷◌}
use Prim.Native.Nat.{ℕ, ◌+◌, ◌*◌, ◌≤◌, ◌<◌}
use native.Mathlib.Omega.{arith}
use lib.ListN.{length, set}
use Rattle.words.specs.Outcomes.{Outcome, with, Gives}
use Rattle.stores.specs.declared.Store.{Store}
use Rattle.stores.specs.Stores.{after_stores, Within}
use Rattle.events.specs.declared.Record.{Record}
use Rattle.stores.proofs.Laws.{after-all}
use Rattle.events.specs.declared.Refusal.{Refusal}
use Rattle.std.specs.Prelude.{Err, Ok, Result}
use Rattle.events.specs.Word.{outstanding, is_empty, is_full, oldest, free}
use Rattle.events.specs.Stores.{written, read_out, flipped, acknowledged}
use Rattle.events.specs.Events.{index_of, record_of, record_at, check}
use Rattle.events.proofs.Formed.{oldest_lt, free_lt}
use Rattle.events.proofs.Checks as checks
use Rattle.event_calls.specs.declared.WriteEnd.{WriteEnd}
use Rattle.event_calls.specs.declared.WriteEnd.TheVariants.{Stored, Dropped, Cut}
use Rattle.event_calls.specs.declared.Writing.{Writing}
use Rattle.event_calls.specs.declared.ReadRefusal.TheVariants.{Recorder as OfRecorder, Empty}
use Rattle.event_calls.specs.declared.AcknowledgeRefusal.TheVariants.{Recorder as ByRecorder, NoOverflow}
use Rattle.event_calls.specs.Calls.{write_stores, drop_stores, due_stores, end_of, report, Stores, write, read, acknowledge}
use Rattle.event_calls.proofs.Order.{report-cut, report-all}

-- carried out under an allowance of k
abbrev pub done : List ℕ → List Store → WriteEnd → ℕ → Outcome (List ℕ) (Result Writing Refusal)
done m ss end k = with (Ok (report ss end k)) (after_stores k ss m)

-- what the stores ensured is the contract met
pub meets-done : {o : Outcome (List ℕ) (Result Writing Refusal)} {m m' : List ℕ} {ss : List Store} {end : WriteEnd} {k : ℕ} {r : Writing} → Stores ss end k m m' r
    → o ≡ done m ss end k → Gives o m' (Ok r)
meets-done s e = record { answers = rw e (ap Ok s.reports); leaves = rw e s.leaves }

-- the stores that are due for a record that is dropped, by what the flags say
pub drops-none : (w : ℕ) → outstanding w ≡ true → drop_stores w ≡ []
unfolding drop_stores
drops-none w e = rw e

pub drops-flip : (w : ℕ) → outstanding w ≡ false → drop_stores w ≡ record { at = 0; value = flipped w } ∷ []
unfolding drop_stores
drops-flip w e = rw e

-- a record dropped, by what the flags and the allowance say
module _ (m : List ℕ) (k : ℕ) where
  abbrev pub Drops : List ℕ → Writing → Type 0
  Drops m' r = Stores (drop_stores (index_of m)) Dropped k m m' r

  -- the one store that may be due
  abbrev flip : List Store
  flip = record { at = 0; value = flipped (index_of m) } ∷ []

  pub drops-quietly : outstanding (index_of m) ≡ true → Drops m (record { end = Dropped; stores = 0 })
  unfolding drop_stores after_stores
  drops-quietly e = rw e (record { reports = rw (report-all [] Dropped k (omega arith)); leaves = rw (after-all k [] m (omega arith)) })

  pub drops-cut : outstanding (index_of m) ≡ false → k ≡ 0 → Drops m (record { end = Cut; stores = 0 })
  unfolding drop_stores after_stores
  drops-cut e z = rw (e, z) (record { reports = rw (report-cut flip Dropped 0 (omega arith)); leaves = refl })

  pub drops-flipped : outstanding (index_of m) ≡ false → (k ≡ 0 → ⊥) → Drops (set m 0 (flipped (index_of m))) (record { end = Dropped; stores = 1 })
  unfolding drop_stores after_stores
  drops-flipped e z =
      let enough : 1 ≤ k = omega (arith, z) in
      rw e (record { reports = rw (report-all flip Dropped k enough); leaves = rw (after-all k flip m enough) })

-- a record's stores go into its slot and to the index word
pub stores_within : (m : List ℕ) (slot : ℕ) (r : Record) (index : ℕ) → 4 * slot + 5 ≤ length m → Within (length m) (write_stores slot r index)
stores_within m slot r index h = (omega arith, (omega arith, (omega arith, (omega arith, (omega arith, tt)))))

module _ (m : List ℕ) where
  -- an accepted recorder has an index word, and the slots that it names
  pub has-index : (n : ℕ) → check m ≡ Ok n → 0 < length m
  has-index n e = checks.has-index m n ((checks.says m).accepted n e).size

  pub has-oldest : (n : ℕ) → check m ≡ Ok n → 4 * oldest (index_of m) + 5 ≤ length m
  has-oldest n e = let a = (checks.says m).accepted n e in checks.has-slot m n (oldest (index_of m)) a.size (oldest_lt n (index_of m) a.index)

  pub has-free : (n : ℕ) → check m ≡ Ok n → 4 * free (index_of m) + 5 ≤ length m
  has-free n e = let a = (checks.says m).accepted n e in checks.has-slot m n (free (index_of m)) a.size (free_lt n (index_of m) a.index)

  pub write-refused : (bytes : List ℕ) (k : ℕ) (why : Refusal) → check m ≡ Err why → write m bytes k ≡ with (Err why) m
  unfolding write
  write-refused bytes k why e = rw e

  pub write-due : (bytes : List ℕ) (k n : ℕ) → check m ≡ Ok n
      → write m bytes k ≡ done m (due_stores (index_of m) (record_of bytes)) (end_of (index_of m)) k
  unfolding write
  write-due bytes k n e = rw e

  pub write-drops : (bytes : List ℕ) (k n : ℕ) → check m ≡ Ok n → is_full (index_of m) ≡ true
      → write m bytes k ≡ done m (drop_stores (index_of m)) Dropped k
  unfolding due_stores end_of
  write-drops bytes k n e t = write-due bytes k n e ∙ rw t

  pub write-stores : (bytes : List ℕ) (k n : ℕ) → check m ≡ Ok n → is_full (index_of m) ≡ false
      → write m bytes k ≡ done m (write_stores (free (index_of m)) (record_of bytes) (written (index_of m))) Stored k
  unfolding due_stores end_of
  write-stores bytes k n e t = write-due bytes k n e ∙ rw t

  pub read-refused : (why : Refusal) → check m ≡ Err why → read m ≡ with (Err (OfRecorder why)) m
  unfolding read
  read-refused why e = rw e

  pub read-empty : (n : ℕ) → check m ≡ Ok n → is_empty (index_of m) ≡ true → read m ≡ with (Err Empty) m
  unfolding read
  read-empty n e t = rw (e, t)

  pub read-stores : (n : ℕ) → check m ≡ Ok n → is_empty (index_of m) ≡ false
      → read m ≡ with (Ok (record_at m (oldest (index_of m)))) (set m 0 (read_out (index_of m)))
  unfolding read
  read-stores n e t = rw (e, t)

  pub acknowledge-refused : (why : Refusal) → check m ≡ Err why → acknowledge m ≡ with (Err (ByRecorder why)) m
  unfolding acknowledge
  acknowledge-refused why e = rw e

  pub acknowledge-none : (n : ℕ) → check m ≡ Ok n → outstanding (index_of m) ≡ false → acknowledge m ≡ with (Err NoOverflow) m
  unfolding acknowledge
  acknowledge-none n e t = rw (e, t)

  pub acknowledge-stores : (n : ℕ) → check m ≡ Ok n → outstanding (index_of m) ≡ true
      → acknowledge m ≡ with (Ok tt) (set m 0 (acknowledged (index_of m)))
  unfolding acknowledge
  acknowledge-stores n e t = rw (e, t)
