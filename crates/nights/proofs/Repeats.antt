-- Document 02, T-14: what repeating a finished call does. Below, w is the world before the call, k the allowance of the try that
-- finished it, and the call is made again in the world that it left, with the same inputs and any allowance.
-- Assumes nothing.
use mathlib.Core.Path.{◌≡◌, refl, sym, ap, ◌∙◌}
use mathlib.Core.Bool.{Bool, true, false}
use mathlib.Core.List.{List, [], ◌∷◌, ◌++◌}
use mathlib.Core.Logic.{⊎_elim}
use Prim.Native.Nat.{ℕ, ◌+◌, ◌*◌, ◌^◌, ◌≤◌}
use native.Mathlib.Omega.{arith}
use lib.Dec.{eqb}
use lib.ListN.{set, length, length-append}
use Rattle.words.specs.Outcomes.{Outcome, with}
use Rattle.words.proofs.Truth.{less_or_not}
use Rattle.rows.specs.declared.Row.{Row}
use Rattle.control.specs.declared.Rest.{Rest}
use Rattle.control.specs.declared.Rest.TheVariants.{Off as Rest-as-Off, Held as Rest-as-Held, Empty as Rest-as-Empty}
use Rattle.commands.specs.declared.Features.{Features}
use Rattle.due.specs.declared.Raising.{Raising}
use Rattle.regions.specs.declared.Region.{Region}
use Rattle.memory.specs.Memory.{Memory}
use Rattle.memory.proofs.Laws as memory
use Rattle.std.specs.Prelude.{Err, Ok, Result, ⊤}
use Rattle.control_calls.specs.declared.AcknowledgeRefusal.{AcknowledgeRefusal}
use Rattle.control_calls.specs.declared.ClearRefusal.{ClearRefusal}
use Rattle.runs.specs.declared.Ran.{Ran}
use Rattle.events.specs.declared.Refusal.{Refusal}
use Rattle.event_calls.specs.declared.Writing.{Writing}
use Rattle.event_calls.specs.declared.ReadRefusal.{ReadRefusal}
use Rattle.event_calls.specs.declared.AcknowledgeRefusal.{AcknowledgeRefusal as EventAcknowledgeRefusal}
use Rattle.control_calls.proofs.Laws as control-calls
use Rattle.fills.specs.declared.FillEnd.TheVariants.{Filled, Cut as Fill-as-Cut}
use Rattle.fills.specs.declared.FillRefusal.TheVariants.{RowInUse}
use Rattle.fills.specs.Fills.{fill}
use Rattle.fills.proofs.Laws as fills
use Rattle.region_fills.specs.declared.FillRefusal.TheVariants.{RowInUse as TableRowInUse}
use Rattle.region_fills.specs.Fills.{fill as table_fill}
use Rattle.region_fills.proofs.Laws as region-fills
use Rattle.runs.specs.declared.End.{End}
use Rattle.runs.specs.declared.End.TheVariants.{Off, Held, Empty, Raised}
use Rattle.runs.specs.declared.RunRefusal.{RunRefusal}
use Rattle.runs.specs.declared.RunRefusal.TheVariants.{BadQueue}
use Rattle.runs.specs.Running.{rested, end_of, due_in, run}
use Rattle.runs.specs.Call.{queue_good, refused, done, call}
use Rattle.runs.proofs.Calling.{goes_through, Answered, no, yes, answered}
use Rattle.runs.proofs.Turns.{run-rests}
use Rattle.transactions.specs.declared.Transaction.{Transaction}
use Rattle.events.specs.declared.Record.{Record}
use Rattle.events.specs.Word.{rd_bits, wr_bits, log2size_bits, outstanding, is_empty, is_full, distance, oldest}
use Rattle.events.specs.Stores.{flipped}
use Rattle.events.specs.Events.{index_of, record_of, record_at, waiting, check}
use Rattle.events.proofs.Checks as recorders
use Rattle.events.proofs.Index.{flipped-keeps}
use Rattle.events.proofs.Waiting.{stored-word}
use Rattle.event_calls.specs.declared.WriteEnd.TheVariants.{Stored, Dropped, Cut}
use Rattle.event_calls.specs.declared.ReadRefusal.TheVariants.{Empty as NoneWaits}
use Rattle.event_calls.specs.Calls.{write, read}
use Rattle.event_calls.specs.Told.{Ends}
use Rattle.event_calls.proofs.Laws.{Wrote, refuses, drops, flips, flips_not, stores, stores-part, wrote, write-accepted, full_told, full_tells, room_whole}
use Rattle.event_calls.proofs.Cases.{read-empty, read-stores}
use Rattle.event_calls.proofs.Cases as event-cases
use Rattle.event_calls.proofs.OneStore as one_store
use Rattle.event_calls.proofs.Recorder.{stored-appends, dropped-outstanding, read_none, none_read}
use Rattle.promises.proofs.Calls.{keeps-size}
use Rattle.promises.proofs.Accepted.{run-accepted}
use Rattle.promises.proofs.RunCalls.{raised-then-held}
use Rattle.promises.proofs.Ends.{rest-left}
use Rattle.nights.specs.Calls.{World, Call, Doorbell, Enable, Acknowledge, Fill, Run, Translate, ClearPending, EventWrite, EventRead, EventAcknowledge, TableFill, Answer, memory_of, in_kept, in_table, in_recorder, in_memory, tried, Accepted}
use Rattle.nights.specs.Repeats.{Refuses, Same, EndsFilled, EndsTableFilled, RunEnds, idle, WasRefused}
use Rattle.nights.proofs.Retries.{image-of, recorder-of, memory-of}

-- a doorbell stores the same word, an enable too, and a transaction is answered the same: no word changes
module _ (w : World) (k : ℕ) where
  pub doorbell-again : (wr : ℕ) → Same (Doorbell wr) (tried (Doorbell wr) k w).answer (tried (Doorbell wr) k w).memory
  doorbell-again wr =
      let e = ap (in_kept w) (control-calls.doorbell-again w.kept wr) in
      record { told = λ j. ap (λ (o : Outcome World (Answer (Doorbell wr))). o.answer) e; stays = λ j. ap (λ (o : Outcome World (Answer (Doorbell wr))). o.memory) e }

  pub enable-again : (on : Bool) → Same (Enable on) (tried (Enable on) k w).answer (tried (Enable on) k w).memory
  enable-again on =
      let e = ap (in_kept w) (control-calls.enable-again w.kept on) in
      record { told = λ j. ap (λ (o : Outcome World (Answer (Enable on))). o.answer) e; stays = λ j. ap (λ (o : Outcome World (Answer (Enable on))). o.memory) e }

  pub transaction-again : (t : Transaction) → Same (Translate t) (tried (Translate t) k w).answer (tried (Translate t) k w).memory
  transaction-again t = record { told = λ j. refl; stays = λ j. refl }

-- an acknowledge gets 6, clearing gets 12: no word changes
module _ (w : World) (a : Accepted w) (k : ℕ) where
  pub acknowledge-again : Refuses 6 Acknowledge (tried Acknowledge k w).memory
  acknowledge-again =
      let e = control-calls.acknowledge-again w.kept a.rows (image-of w a) in
      record { told = λ j. rw e; stays = λ j. ap (λ (o : Outcome (List ℕ) (Result ⊤ AcknowledgeRefusal)). (in_kept w o).memory) e }

  pub clear-again : Refuses 12 ClearPending (tried ClearPending k w).memory
  clear-again =
      let e = control-calls.clear-again w.kept a.rows (image-of w a) in
      record { told = λ j. rw e; stays = λ j. ap (λ (o : Outcome (List ℕ) (Result ⊤ ClearRefusal)). (in_kept w o).memory) e }

-- a fill gets 8, one of the second table too: no word changes
module _ (w : World) (k row : ℕ) where
  cut-unfilled : Fill-as-Cut ≡ Filled → ⊥
  cut-unfilled e = let z : ◌≡◌ {A = ℕ} 0 1 = cc in omega arith

  pub fill-again : (words : Row) → EndsFilled (tried (Fill row words) k w).answer → Refuses 8 (Fill row words) (tried (Fill row words) k w).memory
  fill-again words end = by_way (fills.which-way w.kept row words)
    where
      by_way : fills.Goes w.kept row words → Refuses 8 (Fill row words) (tried (Fill row words) k w).memory
      by_way (fills.stops why e) = absurd (rw (e k) at end)
      by_way (fills.stores n c) = ⊎_elim (λ h. absurd (cut-unfilled (rw (fills.not_enough w.kept n row words c k h) at end))) whole (less_or_not k 4)
        where
          whole : 4 ≤ k → Refuses 8 (Fill row words) (tried (Fill row words) k w).memory
          whole h =
              let e : (j : ℕ) → fill (fill w.kept row words k).memory row words j ≡ with (Err RowInUse) (fill w.kept row words k).memory =
              λ j. fills.finished-refuses w.kept n row words c k j words h in
              record { told = λ j. rw (e j); stays = λ j. ap (λ (o : Outcome (List ℕ) (Answer (Fill row words))). (in_kept w o).memory) (e j) }

  pub table-fill-again : (words : Region) → EndsTableFilled (tried (TableFill row words) k w).answer
      → Refuses 8 (TableFill row words) (tried (TableFill row words) k w).memory
  table-fill-again words end = by_way (region-fills.which-way w.kept w.table row words)
    where
      by_way : region-fills.Goes w.kept w.table row words → Refuses 8 (TableFill row words) (tried (TableFill row words) k w).memory
      by_way (region-fills.stops why e) = absurd (rw (e k) at end)
      by_way (region-fills.stores n c) =
          ⊎_elim (λ h. absurd (cut-unfilled (rw (region-fills.not_enough w.kept w.table n row words c k h) at end))) whole (less_or_not k 2)
        where
          whole : 2 ≤ k → Refuses 8 (TableFill row words) (tried (TableFill row words) k w).memory
          whole h =
              let t = (table_fill w.kept w.table row words k).memory in
              let e : (j : ℕ) → table_fill w.kept t row words j ≡ with (Err TableRowInUse) t =
              λ j. region-fills.finished-refuses w.kept w.table n row words c k j words h in
              record { told = λ j. rw (e j); stays = λ j. ap (λ (o : Outcome (List ℕ) (Answer (TableFill row words))). (in_table w o).memory) (e j) }

-- a Raised run ends Held, one that ended Off, Held or Empty ends so again: nothing is stored
module _ (w : World) (a : Accepted w) (k : ℕ) (f : Features) (queue : List ℕ) where
  abbrev m : Memory
  m = memory_of w

  abbrev n : ℕ
  n = a.rows + a.parts

  still-good : queue_good queue m ≡ true → queue_good queue (run f queue k m).memory ≡ true
  still-good q = ap (λ (s : ℕ). eqb (length queue) (16 * 2 ^ s)) (keeps-size f queue n k m (memory-of w a)) ∙ q

  -- made again, it is a run on what the first left
  module _ (end : End) (still : End) (next : (run f queue k m).ran.end ≡ end → (j : ℕ) → run f queue j (run f queue k m).memory ≡ rested still (run f queue k m).memory) where
    by-run : queue_good queue m ≡ true → (run f queue k m).ran.end ≡ end → (j : ℕ)
        → call f queue j (run f queue k m).memory ≡ with (idle still) (run f queue k m).memory
    by-run q e j =
        goes_through f queue j (run f queue k m).memory n (run-accepted f queue n k m (memory-of w a)) ∙ rw (still-good q) (ap done (next e j))

    run-again : RunEnds end (tried (Run f queue) k w).answer → Same (Run f queue) (idle still) (tried (Run f queue) k w).memory
    run-again ends = by_queue (queue_good queue m) refl
      where
        by_queue : (b : Bool) → queue_good queue m ≡ b → Same (Run f queue) (idle still) (tried (Run f queue) k w).memory
        by_queue false q = absurd (rw (goes_through f queue k m n (memory-of w a), q) at ends)
        by_queue true q =
            let is : call f queue k m ≡ done (run f queue k m) = goes_through f queue k m n (memory-of w a) ∙ rw q in
            let ended : (run f queue k m).ran.end ≡ end = rw is at ends in
            let e : (j : ℕ) → call f queue j (call f queue k m).memory ≡ with (idle still) (call f queue k m).memory = λ j. rw is (by-run q ended j) in
            record {
              told = λ j. ap (λ (o : Outcome Memory (Result Ran RunRefusal)). o.answer) (e j);
              stays = λ j. ap (λ (o : Outcome Memory (Result Ran RunRefusal)). (in_memory w o).memory) (e j);
            }

  pub raised-again : (told : Raising) → RunEnds (Raised told) (tried (Run f queue) k w).answer → Same (Run f queue) (idle Held) (tried (Run f queue) k w).memory
  raised-again told ends = run-again (Raised told) Held (λ e j. raised-then-held f queue n told k j m (memory-of w a) e) ends

  rest-again : (r : Rest) → RunEnds (end_of r) (tried (Run f queue) k w).answer → Same (Run f queue) (idle (end_of r)) (tried (Run f queue) k w).memory
  rest-again r ends =
      run-again (end_of r) (end_of r)
      (λ e j. run-rests (due_in f queue) (run f queue k m).memory j r (rest-left (due_in f queue) r k m e)) ends

  pub empty-again : RunEnds Empty (tried (Run f queue) k w).answer → Same (Run f queue) (idle Empty) (tried (Run f queue) k w).memory
  empty-again ends = rest-again Rest-as-Empty ends

  pub off-again : RunEnds Off (tried (Run f queue) k w).answer → Same (Run f queue) (idle Off) (tried (Run f queue) k w).memory
  off-again ends = rest-again Rest-as-Off ends

  pub held-again : RunEnds Held (tried (Run f queue) k w).answer → Same (Run f queue) (idle Held) (tried (Run f queue) k w).memory
  held-again ends = rest-again Rest-as-Held ends

-- an event acknowledge gets 18: no word changes
pub event_acknowledge_again : (w : World) (k : ℕ) → (tried EventAcknowledge k w).answer ≡ Ok tt
    → Refuses 18 EventAcknowledge (tried EventAcknowledge k w).memory
event_acknowledge_again w k done =
    let e = one_store.acknowledge-again w.recorder done in
    record { told = λ j. rw e; stays = λ j. ap (λ (o : Outcome (List ℕ) (Result ⊤ EventAcknowledgeRefusal)). (in_recorder w o).memory) e }

-- the first of those that wait is read
reads_first : (m : List ℕ) (n : ℕ) → recorders.Accepts m n → (r : Record) (rest : List Record) → waiting m ≡ r ∷ rest → (read m).answer ≡ Ok r
reads_first m n a r rest some = by_test (is_empty (index_of m)) refl
  where
    by_test : (b : Bool) → is_empty (index_of m) ≡ b → (read m).answer ≡ Ok r
    by_test true t =
        let none = none_read m n a (ap (λ (o : Outcome (List ℕ) (Result Record ReadRefusal)). o.answer) (read-empty m n (recorders.accepts m n a) t)) in
        let z : ◌≡◌ {A = ℕ} 0 1 = cc in absurd (omega arith)
    by_test false t =
        let q = ap (λ (o : Outcome (List ℕ) (Result Record ReadRefusal)). o.answer) (read-stores m n (recorders.accepts m n a) t) in
        let first = one_store.read-oldest m (record_at m (oldest (index_of m))) q in
        let same : record_at m (oldest (index_of m)) ≡ r = cc in
        q ∙ ap Ok same

-- an event read gives the next record, and then memory changes; or 17, and then it does not
module _ (w : World) (a : Accepted w) (k : ℕ) where
  -- the world that it left, and what waits in it
  abbrev read_left : World
  read_left = (tried EventRead k w).memory

  left-accepted : recorders.Accepts read_left.recorder a.log2
  left-accepted = one_store.read-accepted w.recorder a.log2 (recorder-of w a)

  pub read-again-none : waiting read_left.recorder ≡ [] → Refuses 17 EventRead read_left
  read-again-none none =
      let e = read_none read_left.recorder a.log2 left-accepted none in
      record {
        told = λ j. rw e;
        stays = λ j. ap (λ (l : List ℕ). record { kept = w.kept; table = w.table; recorder = l }) (one_store.read-refused-leaves read_left.recorder NoneWaits e);
      }

  module _ (r : Record) (rest : List Record) (some : waiting read_left.recorder ≡ r ∷ rest) where
    pub read-again-next : (j : ℕ) → (tried EventRead j read_left).answer ≡ Ok r
    read-again-next j = reads_first read_left.recorder a.log2 left-accepted r rest some

    pub read-again-changes : (j : ℕ) → (tried EventRead j read_left).memory ≡ read_left → ⊥
    read-again-changes j same =
        let shorter = one_store.read-oldest read_left.recorder r (read-again-next j) in
        let e : waiting read_left.recorder ≡ r ∷ waiting read_left.recorder = shorter ∙ ap (λ (v : World). r ∷ waiting v.recorder) same in
        omega (arith, ap length e)

-- a Stored event write is stored again, so that the record waits twice and memory changes; or, if the ring is now full, it is dropped
flipped_full : (v : ℕ) → is_full (flipped v) ≡ is_full v
unfolding is_full distance
flipped_full v = rw (flipped-keeps v rd_bits tt, flipped-keeps v wr_bits tt, flipped-keeps v log2size_bits tt)

module _ (w : World) (a : Accepted w) (k : ℕ) (bytes : List ℕ) where
  abbrev write-left : World
  write-left = (tried (EventWrite bytes) k w).memory

  write-left-accepted : recorders.Accepts write-left.recorder a.log2
  write-left-accepted = write-accepted w.recorder bytes k a.log2 (recorder-of w a)

  module _ (room : is_full (index_of write-left.recorder) ≡ false) (j : ℕ) (h : 5 ≤ j) where
    pub stored-again : Ends Stored (tried (EventWrite bytes) j write-left).answer
    stored-again = rw (room_whole write-left.recorder bytes j a.log2 write-left-accepted room h) refl

    pub stored-twice : Ends Stored (tried (EventWrite bytes) k w).answer
        → waiting (tried (EventWrite bytes) j write-left).memory.recorder ≡ (waiting w.recorder ++ (record_of bytes ∷ [])) ++ (record_of bytes ∷ [])
    stored-twice end =
        stored-appends write-left.recorder bytes j stored-again
        ∙ ap (λ (q : List Record). q ++ (record_of bytes ∷ [])) (stored-appends w.recorder bytes k end)

    pub stored-again-changes : (tried (EventWrite bytes) j write-left).memory ≡ write-left → ⊥
    stored-again-changes same =
        let longer = stored-appends write-left.recorder bytes j stored-again in
        let e : waiting write-left.recorder ≡ waiting write-left.recorder ++ (record_of bytes ∷ []) = ap (λ (v : World). waiting v.recorder) (sym same) ∙ longer in
        omega (arith, simp length-append at (ap length e))

  pub stored-then-dropped : is_full (index_of write-left.recorder) ≡ true → (j : ℕ) → 1 ≤ j → Ends Dropped (tried (EventWrite bytes) j write-left).answer
  stored-then-dropped full j h = by_flag (outstanding (index_of write-left.recorder)) refl
    where
      by_flag : (b : Bool) → outstanding (index_of write-left.recorder) ≡ b → Ends Dropped (tried (EventWrite bytes) j write-left).answer
      by_flag true t = rw (full_told write-left.recorder bytes j a.log2 write-left-accepted full t) refl
      by_flag false t = rw (full_tells write-left.recorder bytes j a.log2 write-left-accepted full t (omega arith)) refl

  -- the drop stores nothing if an overflow is outstanding already
  pub dropped-untold : is_full (index_of write-left.recorder) ≡ true → outstanding (index_of write-left.recorder) ≡ true
      → Same (EventWrite bytes) (Ok (record { end = Dropped; stores = 0 })) write-left
  dropped-untold full t =
      let m' = write-left.recorder in
      let e : (j : ℕ) → write m' bytes j ≡ with (Ok (record { end = Dropped; stores = 0 })) m' =
      λ j. full_told m' bytes j a.log2 write-left-accepted full t in
      record {
        told = λ j. ap (λ (o : Outcome (List ℕ) (Result Writing Refusal)). o.answer) (e j);
        stays = λ j. ap (λ (o : Outcome (List ℕ) (Result Writing Refusal)). (in_recorder w o).memory) (e j);
      }

  -- else the index word is stored, with OVERFLOW turned
  pub dropped-told : is_full (index_of write-left.recorder) ≡ true → outstanding (index_of write-left.recorder) ≡ false → (j : ℕ) → 1 ≤ j
      → (tried (EventWrite bytes) j write-left).memory.recorder ≡ set write-left.recorder 0 (flipped (index_of write-left.recorder))
  dropped-told full t j h = rw (full_tells write-left.recorder bytes j a.log2 write-left-accepted full t (omega arith)) refl

  -- a Dropped one is dropped, with no store: no word changes
  still_full : Ends Dropped (tried (EventWrite bytes) k w).answer → is_full (index_of write-left.recorder) ≡ true
  still_full end = by_case (wrote w.recorder bytes k)
    where
      by_case : Wrote w.recorder bytes k → is_full (index_of write-left.recorder) ≡ true
      by_case (refuses why e) = absurd (rw e at end)
      by_case (drops n b full t e) = rw e full
      by_case (flips n b full t z e) = rw (e, stored-word w.recorder n b (flipped (index_of w.recorder))) (flipped_full (index_of w.recorder) ∙ full)
      by_case (flips_not n b full t z e) = let q : Cut ≡ Dropped = rw e at end in let z : ◌≡◌ {A = ℕ} 0 1 = cc in absurd (omega arith)
      by_case (stores n b room h e) = let q : Stored ≡ Dropped = rw e at end in let z : ◌≡◌ {A = ℕ} 0 1 = cc in absurd (omega arith)
      by_case (stores-part n b room h e) = let q : Cut ≡ Dropped = rw e at end in let z : ◌≡◌ {A = ℕ} 0 1 = cc in absurd (omega arith)

  pub dropped-again : Ends Dropped (tried (EventWrite bytes) k w).answer → Same (EventWrite bytes) (Ok (record { end = Dropped; stores = 0 })) write-left
  dropped-again end = dropped-untold (still_full end) (dropped-outstanding w.recorder bytes k end)

-- a refused call stored nothing, and is refused so again
module _ (w : World) (k : ℕ) where
  pub record StillRefused (c : Call) : Type 0 where
    pub nothing : (tried c k w).memory ≡ w
    pub again : (j : ℕ) → tried c j w ≡ tried c k w

  fill-refused : (row : ℕ) (words : Row) → WasRefused (Fill row words) (tried (Fill row words) k w).answer → StillRefused (Fill row words)
  fill-refused row words r = by_way (fills.which-way w.kept row words)
    where
      by_way : fills.Goes w.kept row words → StillRefused (Fill row words)
      by_way (fills.stops why e) =
          record { nothing = ap (λ (o : Outcome (List ℕ) (Answer (Fill row words))). (in_kept w o).memory) (e k); again = λ j. ap (in_kept w) (e j ∙ sym (e k)) }
      by_way (fills.stores n c) = absurd (r (rw (fills.carried w.kept n row words c k) refl))

  table-fill-refused : (row : ℕ) (words : Region) → WasRefused (TableFill row words) (tried (TableFill row words) k w).answer → StillRefused (TableFill row words)
  table-fill-refused row words r = by_way (region-fills.which-way w.kept w.table row words)
    where
      by_way : region-fills.Goes w.kept w.table row words → StillRefused (TableFill row words)
      by_way (region-fills.stops why e) =
          record { nothing = ap (λ (o : Outcome (List ℕ) (Answer (TableFill row words))). (in_table w o).memory) (e k); again = λ j. ap (in_table w) (e j ∙ sym (e k)) }
      by_way (region-fills.stores n c) = absurd (r (rw (region-fills.carried w.kept w.table n row words c k) refl))

  run-refused : (f : Features) (queue : List ℕ) → WasRefused (Run f queue) (tried (Run f queue) k w).answer → StillRefused (Run f queue)
  run-refused f queue r = by_answer (answered f queue (memory_of w))
    where
      stops : (why : RunRefusal) → ((j : ℕ) → call f queue j (memory_of w) ≡ refused why (memory_of w)) → StillRefused (Run f queue)
      stops why e =
          record { nothing = ap (λ (o : Outcome Memory (Result Ran RunRefusal)). (in_memory w o).memory) (e k); again = λ j. ap (in_memory w) (e j ∙ sym (e k)) }

      by_queue : (n : ℕ) → memory.Accepts (memory_of w) n → (b : Bool) → queue_good queue (memory_of w) ≡ b → StillRefused (Run f queue)
      by_queue n a false q = stops BadQueue (λ j. goes_through f queue j (memory_of w) n a ∙ rw q)
      by_queue n a true q = absurd (r (rw (goes_through f queue k (memory_of w) n a, q) refl))

      by_answer : Answered f queue (memory_of w) → StillRefused (Run f queue)
      by_answer (no why e) = stops why e
      by_answer (yes n a) = by_queue n a (queue_good queue (memory_of w)) refl

  write-refused : (bytes : List ℕ) → WasRefused (EventWrite bytes) (tried (EventWrite bytes) k w).answer → StillRefused (EventWrite bytes)
  write-refused bytes r = by_check (check w.recorder) refl
    where
      by_check : (c : Result ℕ Refusal) → check w.recorder ≡ c → StillRefused (EventWrite bytes)
      by_check (Err why) e =
          let stops : (j : ℕ) → write w.recorder bytes j ≡ with (Err why) w.recorder = λ j. event-cases.write-refused w.recorder bytes j why e in
          record { nothing = ap (λ (o : Outcome (List ℕ) (Result Writing Refusal)). (in_recorder w o).memory) (stops k); again = λ j. ap (in_recorder w) (stops j ∙ sym (stops k)) }
      by_check (Ok n) e = absurd (r (rw (event-cases.write-due w.recorder bytes k n e) refl))

  -- of a call of one store: by which way it went
  pub refused-again : (c : Call) → WasRefused c (tried c k w).answer → StillRefused c
  refused-again (Doorbell wr) r = by_way (control-calls.doorbell-way w.kept wr)
    where
      by_way : control-calls.DoorbellWay w.kept wr → StillRefused (Doorbell wr)
      by_way (control-calls.stops why e) = record { nothing = ap (λ (o : Outcome (List ℕ) (Answer (Doorbell wr))). (in_kept w o).memory) e; again = λ j. refl }
      by_way (control-calls.stores n a t e) = absurd (r (rw e refl))
  refused-again (Enable on) r = by_way (control-calls.enable-way w.kept on)
    where
      by_way : control-calls.EnableWay w.kept on → StillRefused (Enable on)
      by_way (control-calls.stops why e) = record { nothing = ap (λ (o : Outcome (List ℕ) (Answer (Enable on))). (in_kept w o).memory) e; again = λ j. refl }
      by_way (control-calls.stores n a t e) = absurd (r (rw e refl))
  refused-again Acknowledge r = by_way (control-calls.acknowledge-way w.kept)
    where
      by_way : control-calls.AcknowledgeWay w.kept → StillRefused Acknowledge
      by_way (control-calls.stops why e) = record { nothing = ap (λ (o : Outcome (List ℕ) (Result ⊤ AcknowledgeRefusal)). (in_kept w o).memory) e; again = λ j. refl }
      by_way (control-calls.stores n a t e) = absurd (r (rw e refl))
  refused-again (Fill row words) r = fill-refused row words r
  refused-again (Run f queue) r = run-refused f queue r
  refused-again (Translate t) r = record { nothing = refl; again = λ j. refl }
  refused-again ClearPending r = by_way (control-calls.clear-way w.kept)
    where
      by_way : control-calls.ClearWay w.kept → StillRefused ClearPending
      by_way (control-calls.stops why e) = record { nothing = ap (λ (o : Outcome (List ℕ) (Result ⊤ ClearRefusal)). (in_kept w o).memory) e; again = λ j. refl }
      by_way (control-calls.stores n a t e) = absurd (r (rw e refl))
  refused-again (EventWrite bytes) r = write-refused bytes r
  refused-again EventRead r = by_way (one_store.read-way w.recorder)
    where
      by_way : one_store.ReadWay w.recorder → StillRefused EventRead
      by_way (one_store.stops why e) = record { nothing = ap (λ (o : Outcome (List ℕ) (Result Record ReadRefusal)). (in_recorder w o).memory) e; again = λ j. refl }
      by_way (one_store.stores n a t e) = absurd (r (rw e refl))
  refused-again EventAcknowledge r = by_way (one_store.acknowledge-way w.recorder)
    where
      by_way : one_store.AcknowledgeWay w.recorder → StillRefused EventAcknowledge
      by_way (one_store.stops why e) = record { nothing = ap (λ (o : Outcome (List ℕ) (Result ⊤ EventAcknowledgeRefusal)). (in_recorder w o).memory) e; again = λ j. refl }
      by_way (one_store.stores n a t e) = absurd (r (rw e refl))
  refused-again (TableFill row words) r = table-fill-refused row words r
