-- Document 02, T-01, sentence by sentence: the recorder is a queue of whole records, and tells an overflow once.
-- Assumes nothing.
use mathlib.Core.Path.{◌≡◌, refl, ap, ◌∙◌}
use mathlib.Core.Bool.{Bool, true, false}
use mathlib.Core.List.{List, [], ◌∷◌, ◌++◌}
use mathlib.Core.Logic.{◌⊎◌, inl, inr, ⊎_elim}
use Prim.Native.Nat.{ℕ, ◌≤◌, ◌<◌}
use native.Mathlib.Omega.{arith}
use lib.ListN.{length}
use Rattle.words.specs.Outcomes.{Outcome}
use Rattle.words.proofs.Truth.{decided}
use Rattle.indexes.specs.Indexes.{slots}
use Rattle.events.specs.declared.Record.{Record}
use Rattle.events.specs.Word.{outstanding, is_empty, is_full, oldest, free}
use Rattle.events.specs.Stores.{read_out}
use Rattle.events.specs.Events.{index_of, record_of, waiting}
use Rattle.events.proofs.Checks.{Accepts, accepts}
use Rattle.events.proofs.Waiting.{stored-word}
use Rattle.events.proofs.Counts.{waiting-fits, full-count, count-full, empty-none, none-empty, free-oldest}
use Rattle.event_calls.specs.declared.WriteEnd.{WriteEnd}
use Rattle.event_calls.specs.declared.WriteEnd.TheVariants.{Stored, Dropped, Cut}
use Rattle.std.specs.Prelude.{Err, Ok, Result}
use Rattle.event_calls.specs.declared.Writing.{Writing}
use Rattle.events.specs.declared.Refusal.{Refusal}
use Rattle.event_calls.specs.declared.ReadRefusal.{ReadRefusal}
use Rattle.event_calls.specs.declared.ReadRefusal.TheVariants.{Empty}
use Rattle.event_calls.specs.Calls.{write, read, acknowledge}
use Rattle.event_calls.specs.Told.{by_end, queue_by_write, overflow_by_end, overflow_by_write, Call, Write, Read, Acknowledge, leaves, queue_by, overflow_by, leaves_all, queue_all, overflow_all, Ends}
use Rattle.event_calls.proofs.Cases.{read-empty, read-stores}
use Rattle.event_calls.proofs.Laws.{full_told, full_tells, full_cut, room_whole, room-part, write-queue, write-overflow, write-accepted}
use Rattle.event_calls.proofs.OneStore.{read-accepted, read-oldest, read-queue, read-overflow, acknowledge-accepted, acknowledge-queue, acknowledge-overflow}

-- what the answer's end says of the queue and of the overflow
queue_as : (end : WriteEnd) (r : Record) (answer : Result Writing Refusal) (q : List Record) → Ends end answer → queue_by_write r answer q ≡ by_end r end q
queue_as end r (Err why) q e = absurd e
queue_as end r (Ok writing) q e = ap (λ (x : WriteEnd). by_end r x q) e

overflow_as : (end : WriteEnd) (answer : Result Writing Refusal) (was : Bool) → Ends end answer → overflow_by_write answer was ≡ overflow_by_end end was
overflow_as end (Err why) was e = absurd e
overflow_as end (Ok writing) was e = ap (λ (x : WriteEnd). overflow_by_end x was) e

one_of : (r : Record) (answer : Result Writing Refusal) (q : List Record) → (queue_by_write r answer q ≡ q) ⊎ (queue_by_write r answer q ≡ q ++ (r ∷ []))
one_of r (Err why) q = inl refl
one_of r (Ok writing) q = each_end writing.end refl
  where
    each_end : (end : WriteEnd) → writing.end ≡ end → (by_end r writing.end q ≡ q) ⊎ (by_end r writing.end q ≡ q ++ (r ∷ []))
    each_end Stored e = inr (rw e)
    each_end Dropped e = inl (rw e)
    each_end Cut e = inl (rw e)

abbrev told : Outcome (List ℕ) (Result Writing Refusal) → Result Writing Refusal
told o = o.answer

module _ (m bytes : List ℕ) (k : ℕ) where
  abbrev m' : List ℕ
  m' = (write m bytes k).memory

  abbrev answer : Result Writing Refusal
  answer = (write m bytes k).answer

  -- Stored appends exactly the record
  pub stored-appends : Ends Stored answer → waiting m' ≡ waiting m ++ (record_of bytes ∷ [])
  stored-appends e = write-queue m bytes k ∙ queue_as Stored (record_of bytes) answer (waiting m) e

  -- Dropped and Cut change none of those that wait
  pub dropped_keeps : Ends Dropped answer → waiting m' ≡ waiting m
  dropped_keeps e = write-queue m bytes k ∙ queue_as Dropped (record_of bytes) answer (waiting m) e

  pub cut_keeps : Ends Cut answer → waiting m' ≡ waiting m
  cut_keeps e = write-queue m bytes k ∙ queue_as Cut (record_of bytes) answer (waiting m) e

  -- at every allowance the records before, with no part of the new one; or it waits behind them, whole
  pub never-a-part : (waiting m' ≡ waiting m) ⊎ (waiting m' ≡ waiting m ++ (record_of bytes ∷ []))
  never-a-part = rw (write-queue m bytes k) (one_of (record_of bytes) answer (waiting m))

  -- a drop leaves an overflow outstanding, whether one was before or not; a store and a cut leave it as it was
  pub dropped-outstanding : Ends Dropped answer → outstanding (index_of m') ≡ true
  dropped-outstanding e = write-overflow m bytes k ∙ overflow_as Dropped answer (outstanding (index_of m)) e

  pub stored-outstanding : Ends Stored answer → outstanding (index_of m') ≡ outstanding (index_of m)
  stored-outstanding e = write-overflow m bytes k ∙ overflow_as Stored answer (outstanding (index_of m)) e

  pub cut-outstanding : Ends Cut answer → outstanding (index_of m') ≡ outstanding (index_of m)
  cut-outstanding e = write-overflow m bytes k ∙ overflow_as Cut answer (outstanding (index_of m)) e

  -- how it ends, by how many records wait: with a slot free it is stored, or cut after as many stores as it may make
  module _ (n : ℕ) (a : Accepts m n) where
    has_room : length (waiting m) < slots n → is_full (index_of m) ≡ false
    has_room h = ⊎_elim (λ t. absurd (omega (arith, full-count m n a t))) (λ t. t) (decided (is_full (index_of m)))

    pub ends-stored : length (waiting m) < slots n → 5 ≤ k → answer ≡ Ok (record { end = Stored; stores = 5 })
    ends-stored room h = ap told (room_whole m bytes k n a (has_room room) h)

    pub ends-cut : length (waiting m) < slots n → k < 5 → answer ≡ Ok (record { end = Cut; stores = k })
    ends-cut room h = ap told (room-part m bytes k n a (has_room room) h)

    -- with none free it is dropped: with no store if an overflow is outstanding, at any allowance; else with one, or cut before that
    pub ends-dropped : length (waiting m) ≡ slots n → outstanding (index_of m) ≡ true → answer ≡ Ok (record { end = Dropped; stores = 0 })
    ends-dropped full t = ap told (full_told m bytes k n a (count-full m n a full) t)

    pub ends-flipped : length (waiting m) ≡ slots n → outstanding (index_of m) ≡ false → 1 ≤ k → answer ≡ Ok (record { end = Dropped; stores = 1 })
    ends-flipped full t h = ap told (full_tells m bytes k n a (count-full m n a full) t (omega arith))

    pub ends-unflipped : length (waiting m) ≡ slots n → outstanding (index_of m) ≡ false → k ≡ 0 → answer ≡ Ok (record { end = Cut; stores = 0 })
    ends-unflipped full t z = ap told (full_cut m bytes k n a (count-full m n a full) t z)

module _ (m : List ℕ) (n : ℕ) (a : Accepts m n) where
  -- 17 exactly if none waits
  pub read_none : waiting m ≡ [] → (read m).answer ≡ Err Empty
  read_none e = ap (λ (o : Outcome (List ℕ) (Result Record ReadRefusal)). o.answer) (read-empty m n (accepts m n a) (none-empty m n a e))

  pub none_read : (read m).answer ≡ Err Empty → waiting m ≡ []
  none_read q = by_test (is_empty (index_of m)) refl
    where
      by_test : (t : Bool) → is_empty (index_of m) ≡ t → waiting m ≡ []
      by_test true t = empty-none m n a t
      by_test false t =
          let z : ◌≡◌ {A = ℕ} 0 1 = cc (ap (λ (o : Outcome (List ℕ) (Result Record ReadRefusal)). o.answer) (read-stores m n (accepts m n a) t)) in absurd (omega arith)

  -- a read makes room: the next write is not dropped, and on a full ring it goes into the very slot that was read
  pub read-frees : (r : Record) → (read m).answer ≡ Ok r → (bytes : List ℕ) (k : ℕ) → 5 ≤ k
      → (write (read m).memory bytes k).answer ≡ Ok (record { end = Stored; stores = 5 })
  read-frees r q bytes k h =
      ends-stored (read m).memory bytes k n (read-accepted m n a) (omega (arith, waiting-fits m n a, ap length (read-oldest m r q))) h

  pub used-again : (r : Record) → length (waiting m) ≡ slots n → (read m).answer ≡ Ok r → free (index_of (read m).memory) ≡ oldest (index_of m)
  used-again r full q = by_test (is_empty (index_of m)) refl
    where
      by_test : (t : Bool) → is_empty (index_of m) ≡ t → free (index_of (read m).memory) ≡ oldest (index_of m)
      by_test true t =
          let z : ◌≡◌ {A = ℕ} 0 1 = cc (ap (λ (o : Outcome (List ℕ) (Result Record ReadRefusal)). o.answer) (read-empty m n (accepts m n a) t)) in absurd (omega arith)
      by_test false t =
          rw (ap (λ (o : Outcome (List ℕ) (Result Record ReadRefusal)). o.memory) (read-stores m n (accepts m n a) t), stored-word m n a (read_out (index_of m)))
          (free-oldest m n a (count-full m n a full))

-- over any calls, one after the other: the records that wait and the overflow are those that the answers tell
pub all-accepted : (cs : List Call) (m : List ℕ) (n : ℕ) → Accepts m n → Accepts (leaves_all cs m) n
unfolding leaves_all
all-accepted [] m n a = a
all-accepted (Write bytes k ∷ cs) m n a = all-accepted cs (write m bytes k).memory n (write-accepted m bytes k n a)
all-accepted (Read ∷ cs) m n a = all-accepted cs (read m).memory n (read-accepted m n a)
all-accepted (Acknowledge ∷ cs) m n a = all-accepted cs (acknowledge m).memory n (acknowledge-accepted m n a)

queue-told : (c : Call) (m : List ℕ) → waiting (leaves c m) ≡ queue_by c m (waiting m)
queue-told (Write bytes k) m = write-queue m bytes k
queue-told Read m = read-queue m
queue-told Acknowledge m = acknowledge-queue m

overflow-told : (c : Call) (m : List ℕ) → outstanding (index_of (leaves c m)) ≡ overflow_by c m (outstanding (index_of m))
overflow-told (Write bytes k) m = write-overflow m bytes k
overflow-told Read m = read-overflow m
overflow-told Acknowledge m = acknowledge-overflow m

pub queue_over : (cs : List Call) (m : List ℕ) → waiting (leaves_all cs m) ≡ queue_all cs m (waiting m)
unfolding leaves_all queue_all
queue_over [] m = refl
queue_over (c ∷ cs) m = queue_over cs (leaves c m) ∙ ap (queue_all cs (leaves c m)) (queue-told c m)

pub overflow_over : (cs : List Call) (m : List ℕ) → outstanding (index_of (leaves_all cs m)) ≡ overflow_all cs m (outstanding (index_of m))
unfolding leaves_all overflow_all
overflow_over [] m = refl
overflow_over (c ∷ cs) m = overflow_over cs (leaves c m) ∙ ap (overflow_all cs (leaves c m)) (overflow-told c m)
