-- Document 02, T-14: each call's retries end as the call without cuts does, and each try leaves an accepted world.
-- Assumes nothing.
use mathlib.Core.Path.{◌≡◌, refl, ap}
use mathlib.Core.Bool.{Bool, true, false, not}
use mathlib.Core.List.{List, [], ◌∷◌}
use Prim.Native.Nat.{ℕ, ◌+◌, ◌≤◌}
use native.Mathlib.Omega.{arith}
use Rattle.words.specs.Choice.{pick}
use Rattle.rows.specs.declared.Row.{Row}
use Rattle.control.specs.Control as control
use Rattle.commands.specs.declared.Features.{Features}
use Rattle.image.proofs.Checks as images
use Rattle.regions.specs.declared.Region.{Region}
use Rattle.regions.proofs.Checks as tables
use Rattle.events.proofs.Checks as recorders
use Rattle.memory.specs.Memory.{Memory, control_of, rows_in, used_rows}
use Rattle.memory.proofs.Laws as memory
use Rattle.control_calls.proofs.Laws.{doorbell-accepted, acknowledge-accepted, clear-accepted, enable-accepted}
use Rattle.fills.specs.declared.FillEnd.TheVariants.{Filled, Cut as Fill-as-Cut}
use Rattle.fills.specs.Fills.{fill}
use Rattle.fills.proofs.Laws as fills
use Rattle.region_fills.specs.Fills.{fill as table_fill}
use Rattle.region_fills.specs.Cuts as region-cuts
use Rattle.region_fills.proofs.Laws as region-fills
use Rattle.region_fills.proofs.Cuts as region-as-uncut
use Rattle.std.specs.Prelude.{Err, Ok, Result}
use Rattle.runs.specs.declared.Ran.{Ran}
use Rattle.runs.specs.declared.RunRefusal.{RunRefusal}
use Rattle.runs.specs.declared.RunRefusal.TheVariants.{BadQueue}
use Rattle.runs.specs.Running.{run}
use Rattle.runs.specs.Call.{queue_good, refused, done, call}
use Rattle.runs.proofs.Calling.{goes_through}
use Rattle.event_calls.specs.declared.WriteEnd.TheVariants.{Stored, Dropped, Cut}
use Rattle.event_calls.specs.Calls.{write}
use Rattle.event_calls.specs.Told.{Ends, rewritten, none as none_written, one as one_written}
use Rattle.event_calls.proofs.Laws.{Wrote, refuses, drops, flips, flips_not, stores, stores-part, wrote, write-accepted}
use Rattle.event_calls.proofs.OneStore.{read-accepted, acknowledge-accepted as event-acknowledge-accepted}
use Rattle.event_calls.proofs.Cuts.{write-as-uncut}
use Rattle.promises.specs.Filling as filling
use Rattle.promises.proofs.Filling as filling-as-uncut
use Rattle.promises.specs.Calls.{◌and◌, calls, EndsCut, none as none-called, one as one-called}
use Rattle.promises.proofs.Calls.{call_as_uncut}
use Rattle.promises.proofs.RunCalls.{call-accepted}
use Rattle.promises.proofs.Potential.{enough-allowance}
use Rattle.nights.specs.Calls.{World, Call, Doorbell, Enable, Acknowledge, Fill, Run, Translate, ClearPending, EventWrite, EventRead, EventAcknowledge, TableFill, memory_of, in_kept, in_table, in_recorder, in_memory, ahead, unit, Accepted}
use Rattle.nights.proofs.Night.{Retries}

-- what stays accepted if one part of the world does
module _ (w : World) (a : Accepted w) where
  pub image-of : images.Accepts w.kept a.rows
  image-of = (images.says w.kept).accepted a.rows a.kept

  pub table_of : tables.Accepts w.table a.parts
  table_of = (tables.says w.table).accepted a.parts a.table

  pub recorder-of : recorders.Accepts w.recorder a.log2
  recorder-of = (recorders.says w.recorder).accepted a.log2 a.recorder

  pub memory-of : memory.Accepts (memory_of w) (a.rows + a.parts)
  memory-of = memory.accepts-both (memory_of w) a.rows a.parts image-of table_of

  kept-stays : (m : List ℕ) → images.Accepts m a.rows → Accepted (record { kept = m; table = w.table; recorder = w.recorder })
  kept-stays m b =
      record { rows = a.rows; kept = images.accepts m a.rows b; parts = a.parts; table = a.table; log2 = a.log2; recorder = a.recorder }

  table_stays : (t : List ℕ) → tables.Accepts t a.parts → Accepted (record { kept = w.kept; table = t; recorder = w.recorder })
  table_stays t b =
      record { rows = a.rows; kept = a.kept; parts = a.parts; table = tables.accepts t a.parts b; log2 = a.log2; recorder = a.recorder }

  recorder-stays : (m : List ℕ) → recorders.Accepts m a.log2 → Accepted (record { kept = w.kept; table = w.table; recorder = m })
  recorder-stays m b =
      record { rows = a.rows; kept = a.kept; parts = a.parts; table = a.table; log2 = a.log2; recorder = recorders.accepts m a.log2 b }

  memory-stays : (m : Memory) (n : ℕ) → memory.Accepts m n → Accepted (record { kept = m.kept; table = m.table; recorder = w.recorder })
  memory-stays m n b =
      record {
        rows = b.first;
        kept = images.accepts m.kept b.first b.image;
        parts = b.second;
        table = tables.accepts m.table b.second b.regions;
        log2 = a.log2;
        recorder = a.recorder;
      }

-- a fill with an allowance of four is not cut
module _ (row : ℕ) (words : Row) where
  fill-enough : (m : List ℕ) → filling.EndsCut (fill m row words 4).answer → ⊥
  fill-enough m cut = by_way (fills.which-way m row words)
    where
      by_way : fills.Goes m row words → ⊥
      by_way (fills.stops why e) = rw (e 4) at cut
      by_way (fills.stores n c) =
          let e : Filled ≡ Fill-as-Cut = rw (fills.enough m n row words c 4 (omega arith)) at cut in let z : ◌≡◌ {A = ℕ} 0 1 = cc in omega arith

  pub fill-retries : Retries unit Accepted (Fill row words)
  unfolding filling.refilled
  fill-retries =
      record {
        keeps = λ k w a. kept-stays w a (fill w.kept row words k).memory (fills.accepted_at_every_allowance w.kept row words k a.rows (image-of w a));
        whole = λ k w a last. ap (in_kept w) (filling-as-uncut.fill-as-uncut row words [] k 4 w.kept filling.none last (fill-enough w.kept));
        resumes = λ k w a cut.
            ap (in_kept w)
            (filling-as-uncut.fill-as-uncut row words (k ∷ []) 4 4 w.kept (filling.one cut filling.none) (fill-enough (fill w.kept row words k).memory) (fill-enough w.kept));
        suffices = λ w a cut. fill-enough w.kept cut;
      }

-- one of the second table with two
module _ (row : ℕ) (words : Region) where
  table-fill-enough : (m t : List ℕ) → region-cuts.EndsCut (table_fill m t row words 2).answer → ⊥
  table-fill-enough m t cut = by_way (region-fills.which-way m t row words)
    where
      by_way : region-fills.Goes m t row words → ⊥
      by_way (region-fills.stops why e) = rw (e 2) at cut
      by_way (region-fills.stores n c) =
          let e : Filled ≡ Fill-as-Cut = rw (region-fills.enough m t n row words c 2 (omega arith)) at cut in let z : ◌≡◌ {A = ℕ} 0 1 = cc in omega arith

  pub table-fill-retries : Retries unit Accepted (TableFill row words)
  unfolding region-cuts.refilled
  table-fill-retries =
      record {
        keeps = λ k w a.
            table_stays w a (table_fill w.kept w.table row words k).memory
            (region-fills.accepted_at_every_allowance w.kept w.table row words k a.parts (table_of w a));
        whole = λ k w a last.
            ap (in_table w) (region-as-uncut.fill-as-uncut w.kept row words [] k 2 w.table region-cuts.none last (table-fill-enough w.kept w.table));
        resumes = λ k w a cut.
            ap (in_table w)
            (region-as-uncut.fill-as-uncut w.kept row words (k ∷ []) 2 2 w.table (region-cuts.one cut region-cuts.none)
            (table-fill-enough w.kept (table_fill w.kept w.table row words k).memory) (table-fill-enough w.kept w.table));
        suffices = λ w a cut. table-fill-enough w.kept w.table cut;
      }

-- a record written with five
module _ (bytes : List ℕ) where
  write-enough : (m : List ℕ) → Ends Cut (write m bytes 5).answer → ⊥
  write-enough m cut = by_case (wrote m bytes 5)
    where
      by_case : Wrote m bytes 5 → ⊥
      by_case (refuses why e) = rw e at cut
      by_case (drops n a full t e) = let q : Dropped ≡ Cut = rw e at cut in let z : ◌≡◌ {A = ℕ} 0 1 = cc in omega arith
      by_case (flips n a full t z e) = let q : Dropped ≡ Cut = rw e at cut in let z : ◌≡◌ {A = ℕ} 0 1 = cc in omega arith
      by_case (flips_not n a full t z e) = omega arith
      by_case (stores n a room h e) = let q : Stored ≡ Cut = rw e at cut in let z : ◌≡◌ {A = ℕ} 0 1 = cc in omega arith
      by_case (stores-part n a room h e) = omega arith

  pub write-retries : Retries unit Accepted (EventWrite bytes)
  unfolding rewritten
  write-retries =
      record {
        keeps = λ k w a. recorder-stays w a (write w.recorder bytes k).memory (write-accepted w.recorder bytes k a.log2 (recorder-of w a));
        whole = λ k w a last. ap (in_recorder w) (write-as-uncut bytes [] k 5 w.recorder none_written last (write-enough w.recorder));
        resumes = λ k w a cut.
            ap (in_recorder w)
            (write-as-uncut bytes (k ∷ []) 5 5 w.recorder (one_written cut none_written) (write-enough (write w.recorder bytes k).memory) (write-enough w.recorder));
        suffices = λ w a cut. write-enough w.recorder cut;
      }

-- a run with the used rows and the waiting commands
and_cut : (a b : Result Ran RunRefusal) → EndsCut (◌and◌ a b) → EndsCut b
and_cut (Err why) b cut = absurd cut
and_cut (Ok ran) (Err why) cut = cut
and_cut (Ok ran) (Ok ran') cut = cut

module _ (f : Features) (queue : List ℕ) where
  run-enough : (w : World) → Accepted w → EndsCut (call f queue (ahead w) (memory_of w)).answer → ⊥
  run-enough w a cut = by_queue (queue_good queue m) (rw (goes_through f queue (ahead w) m n (memory-of w a)) at cut)
    where
      m : Memory
      m = memory_of w

      n : ℕ
      n = a.rows + a.parts

      by_queue : (b : Bool) → EndsCut (pick (not b) (refused BadQueue m) (done (run f queue (ahead w) m))).answer → ⊥
      by_queue false c = c
      by_queue true c =
          let rows : rows_in m ≡ n = memory.rows_are m n (memory-of w a) in
          let h : used_rows m n + control.distance (control_of m) ≤ ahead w = rw (← rows) (omega arith) in
          enough-allowance f queue n (ahead w) m (memory-of w a) h c

  run-keeps : (k : ℕ) (w : World) → Accepted w → Accepted (unit.tried (Run f queue) k w).memory
  run-keeps k w a =
      memory-stays w a (call f queue k (memory_of w)).memory (a.rows + a.parts) (call-accepted f queue (a.rows + a.parts) k (memory_of w) (memory-of w a))

  pub run-retries : Retries unit Accepted (Run f queue)
  unfolding calls
  run-retries =
      record {
        keeps = run-keeps;
        whole = λ k w a last. ap (in_memory w) (call_as_uncut f queue [] k (ahead w) (memory_of w) none-called last (run-enough w a));
        resumes = λ k w a cut.
            let w' = (unit.tried (Run f queue) k w).memory in
            ap (in_memory w)
            (call_as_uncut f queue (k ∷ []) (ahead w') (ahead w) (memory_of w) (one-called cut none-called)
            (λ c. run-enough w' (run-keeps k w a) (and_cut (call f queue k (memory_of w)).answer (call f queue (ahead w') (memory_of w')).answer c))
            (run-enough w a));
        suffices = run-enough;
      }

-- the others are one store, or none, and never cut
pub retries : (c : Call) → Retries unit Accepted c
retries (Doorbell wr) =
    record {
      keeps = λ k w a. kept-stays w a (unit.tried (Doorbell wr) k w).memory.kept (doorbell-accepted w.kept wr a.rows (image-of w a));
      whole = λ k w a last. refl;
      resumes = λ k w a cut. absurd cut;
      suffices = λ w a cut. cut;
    }
retries (Enable on) =
    record {
      keeps = λ k w a. kept-stays w a (unit.tried (Enable on) k w).memory.kept (enable-accepted w.kept on a.rows (image-of w a));
      whole = λ k w a last. refl;
      resumes = λ k w a cut. absurd cut;
      suffices = λ w a cut. cut;
    }
retries Acknowledge =
    record {
      keeps = λ k w a. kept-stays w a (unit.tried Acknowledge k w).memory.kept (acknowledge-accepted w.kept a.rows (image-of w a));
      whole = λ k w a last. refl;
      resumes = λ k w a cut. absurd cut;
      suffices = λ w a cut. cut;
    }
retries (Fill row words) = fill-retries row words
retries (Run f queue) = run-retries f queue
retries (Translate t) =
    record { keeps = λ k w a. a; whole = λ k w a last. refl; resumes = λ k w a cut. absurd cut; suffices = λ w a cut. cut }
retries ClearPending =
    record {
      keeps = λ k w a. kept-stays w a (unit.tried ClearPending k w).memory.kept (clear-accepted w.kept a.rows (image-of w a));
      whole = λ k w a last. refl;
      resumes = λ k w a cut. absurd cut;
      suffices = λ w a cut. cut;
    }
retries (EventWrite bytes) = write-retries bytes
retries EventRead =
    record {
      keeps = λ k w a. recorder-stays w a (unit.tried EventRead k w).memory.recorder (read-accepted w.recorder a.log2 (recorder-of w a));
      whole = λ k w a last. refl;
      resumes = λ k w a cut. absurd cut;
      suffices = λ w a cut. cut;
    }
retries EventAcknowledge =
    record {
      keeps = λ k w a.
          recorder-stays w a (unit.tried EventAcknowledge k w).memory.recorder (event-acknowledge-accepted w.recorder a.log2 (recorder-of w a));
      whole = λ k w a last. refl;
      resumes = λ k w a cut. absurd cut;
      suffices = λ w a cut. cut;
    }
retries (TableFill row words) = table-fill-retries row words
