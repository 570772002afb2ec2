-- Document 02, T-14: what finishing a call needs.
-- Assumes nothing.
use mathlib.Core.Path.{◌≡◌, refl, sym, ap, ◌∙◌}
use mathlib.Core.Bool.{Bool, true, false}
use mathlib.Core.List.{List, [], ◌∷◌}
use mathlib.Core.Logic.{◌⊎◌, inl, inr, ⊎_elim}
use Prim.Native.Nat.{ℕ, zero, suc, ◌+◌, ◌≤◌, ◌<◌}
use native.Mathlib.Nat.{add-zero}
use native.Mathlib.Omega.{arith}
use lib.ListN.{length}
use Rattle.words.specs.Outcomes.{Outcome}
use Rattle.words.proofs.Truth.{less_or_not}
use Rattle.rows.specs.declared.Row.{Row}
use Rattle.control.specs.Control as control
use Rattle.commands.specs.declared.Features.{Features}
use Rattle.regions.specs.declared.Region.{Region}
use Rattle.memory.specs.Memory.{Memory, control_of, rows_in, used_rows}
use Rattle.memory.proofs.Laws as memory
use Rattle.fills.specs.declared.FillEnd.TheVariants.{Filled, Cut as Fill-as-Cut}
use Rattle.fills.specs.declared.FillRefusal.{FillRefusal}
use Rattle.std.specs.Prelude.{Err, Result}
use Rattle.fills.specs.declared.Filling.{Filling}
use Rattle.runs.specs.declared.Ran.{Ran}
use Rattle.runs.specs.declared.RunRefusal.{RunRefusal}
use Rattle.fills.specs.Fills.{fill}
use Rattle.fills.proofs.Laws as fills
use Rattle.region_fills.specs.declared.FillRefusal.{FillRefusal as TableFillRefusal}
use Rattle.region_fills.specs.Fills.{fill as table_fill}
use Rattle.region_fills.proofs.Laws as region-fills
use Rattle.due.specs.Due.{What, Remove, Consume, Raise}
use Rattle.runs.specs.declared.End.{End}
use Rattle.runs.specs.declared.End.TheVariants.{Off, Held, Empty, Raised, Cut as Run-as-Cut}
use Rattle.runs.specs.declared.RunRefusal.TheVariants.{BadQueue}
use Rattle.runs.specs.Running.{Out, Next, stores, next, run_by, due_in, run}
use Rattle.runs.specs.Call.{queue_good, refused, done, call}
use Rattle.runs.proofs.Calling.{goes_through}
use Rattle.events.specs.Word.{outstanding, is_full}
use Rattle.events.specs.Events.{index_of}
use Rattle.event_calls.specs.declared.WriteEnd.TheVariants.{Stored, Dropped, Cut}
use Rattle.event_calls.proofs.Laws.{full_told, full_tells, full_cut, room_whole, room-part}
use Rattle.promises.specs.Calls.{EndsCut}
use Rattle.promises.specs.Cuts.{◌then◌}
use Rattle.promises.proofs.Resume.{resume, enough, uncut-same}
use Rattle.promises.proofs.Sums.{within-allowance, cut-means}
use Rattle.promises.proofs.Potential.{enough-allowance}
use Rattle.nights.specs.Night.{uncut}
use Rattle.nights.specs.Cuts.{Needs, CutAt, one-try, Positive, no_allowance, one_allowance, total}
use Rattle.nights.specs.Calls.{World, Call, Doorbell, Enable, Acknowledge, Fill, Run, Translate, ClearPending, EventWrite, EventRead, EventAcknowledge, TableFill, has_allowance, stores_of, memory_of, ahead, tried, unit, Accepted}
use Rattle.nights.proofs.Retries.{retries, recorder-of, memory-of}

filled_uncut : Filled ≡ Fill-as-Cut → ⊥
filled_uncut e = let z : ◌≡◌ {A = ℕ} 0 1 = cc in omega arith

-- a fill that is not refused: four, and one of the second table: two
pub fill_needs_four : (w : World) (row : ℕ) (words : Row) (j : ℕ) → ((why : FillRefusal) → (fill w.kept row words j).answer ≡ Err why → ⊥)
    → Needs unit 4 (Fill row words) w
fill_needs_four w row words j goes = by_way (fills.which-way w.kept row words)
  where
    by_way : fills.Goes w.kept row words → Needs unit 4 (Fill row words) w
    by_way (fills.stops why e) = absurd (goes why (ap (λ (o : Outcome (List ℕ) (Result Filling FillRefusal)). o.answer) (e j)))
    by_way (fills.stores n c) =
        record {
          cut_below = λ k h. rw (fills.not_enough w.kept n row words c k h) refl;
          done-from = λ k h cut. filled_uncut (rw (fills.enough w.kept n row words c k h) at cut);
        }

pub table_fill_needs_two : (w : World) (row : ℕ) (words : Region) (j : ℕ)
    → ((why : TableFillRefusal) → (table_fill w.kept w.table row words j).answer ≡ Err why → ⊥) → Needs unit 2 (TableFill row words) w
table_fill_needs_two w row words j goes = by_way (region-fills.which-way w.kept w.table row words)
  where
    by_way : region-fills.Goes w.kept w.table row words → Needs unit 2 (TableFill row words) w
    by_way (region-fills.stops why e) = absurd (goes why (ap (λ (o : Outcome (List ℕ) (Result Filling TableFillRefusal)). o.answer) (e j)))
    by_way (region-fills.stores n c) =
        record {
          cut_below = λ k h. rw (region-fills.not_enough w.kept w.table n row words c k h) refl;
          done-from = λ k h cut. filled_uncut (rw (region-fills.enough w.kept w.table n row words c k h) at cut);
        }

-- a refused one nothing
pub refused_fill_needs_none : (w : World) (row : ℕ) (words : Row) (j : ℕ) (why : FillRefusal) → (fill w.kept row words j).answer ≡ Err why
    → Needs unit 0 (Fill row words) w
refused_fill_needs_none w row words j why r = by_way (fills.which-way w.kept row words)
  where
    by_way : fills.Goes w.kept row words → Needs unit 0 (Fill row words) w
    by_way (fills.stops why' e) = record { cut_below = λ k h. absurd (omega arith); done-from = λ k h cut. rw (e k) at cut }
    by_way (fills.stores n c) =
        let z : ◌≡◌ {A = ℕ} 0 1 = cc (ap (λ (o : Outcome (List ℕ) (Result Filling FillRefusal)). o.answer) (fills.carried w.kept n row words c j)) in
        absurd (omega arith)

pub refused_table_fill_needs_none : (w : World) (row : ℕ) (words : Region) (j : ℕ) (why : TableFillRefusal)
    → (table_fill w.kept w.table row words j).answer ≡ Err why → Needs unit 0 (TableFill row words) w
refused_table_fill_needs_none w row words j why r = by_way (region-fills.which-way w.kept w.table row words)
  where
    by_way : region-fills.Goes w.kept w.table row words → Needs unit 0 (TableFill row words) w
    by_way (region-fills.stops why' e) = record { cut_below = λ k h. absurd (omega arith); done-from = λ k h cut. rw (e k) at cut }
    by_way (region-fills.stores n c) =
        let z : ◌≡◌ {A = ℕ} 0 1 = cc (ap (λ (o : Outcome (List ℕ) (Result Filling TableFillRefusal)). o.answer) (region-fills.carried w.kept w.table n row words c j)) in
        absurd (omega arith)

-- an event write: five; on a full ring one if the overflow flag has to flip, and else none
module _ (w : World) (a : Accepted w) (bytes : List ℕ) where
  dropped-uncut : Dropped ≡ Cut → ⊥
  dropped-uncut e = let z : ◌≡◌ {A = ℕ} 0 1 = cc in omega arith

  stored-uncut : Stored ≡ Cut → ⊥
  stored-uncut e = let z : ◌≡◌ {A = ℕ} 0 1 = cc in omega arith

  pub write-needs-five : is_full (index_of w.recorder) ≡ false → Needs unit 5 (EventWrite bytes) w
  write-needs-five room =
      record {
        cut_below = λ k h. rw (room-part w.recorder bytes k a.log2 (recorder-of w a) room h) refl;
        done-from = λ k h cut. stored-uncut (rw (room_whole w.recorder bytes k a.log2 (recorder-of w a) room h) at cut);
      }

  pub full-write-needs-one : is_full (index_of w.recorder) ≡ true → outstanding (index_of w.recorder) ≡ false → Needs unit 1 (EventWrite bytes) w
  full-write-needs-one full t =
      record {
        cut_below = λ k h. rw (full_cut w.recorder bytes k a.log2 (recorder-of w a) full t (omega arith)) refl;
        done-from = λ k h cut. dropped-uncut (rw (full_tells w.recorder bytes k a.log2 (recorder-of w a) full t (omega arith)) at cut);
      }

  pub told-write-needs-none : is_full (index_of w.recorder) ≡ true → outstanding (index_of w.recorder) ≡ true → Needs unit 0 (EventWrite bytes) w
  told-write-needs-none full t =
      record {
        cut_below = λ k h. absurd (omega arith);
        done-from = λ k h cut. dropped-uncut (rw (full_told w.recorder bytes k a.log2 (recorder-of w a) full t) at cut);
      }

-- a call that has no allowance: none
pub others_need_none : (c : Call) → has_allowance c ≡ false → (w : World) → Needs unit 0 c w
others_need_none (Doorbell wr) e w = record { cut_below = λ k h. absurd (omega arith); done-from = λ k h cut. cut }
others_need_none (Enable on) e w = record { cut_below = λ k h. absurd (omega arith); done-from = λ k h cut. cut }
others_need_none Acknowledge e w = record { cut_below = λ k h. absurd (omega arith); done-from = λ k h cut. cut }
others_need_none (Fill row words) e w = let z : ◌≡◌ {A = ℕ} 0 1 = cc in absurd (omega arith)
others_need_none (Run f queue) e w = let z : ◌≡◌ {A = ℕ} 0 1 = cc in absurd (omega arith)
others_need_none (Translate t) e w = record { cut_below = λ k h. absurd (omega arith); done-from = λ k h cut. cut }
others_need_none ClearPending e w = record { cut_below = λ k h. absurd (omega arith); done-from = λ k h cut. cut }
others_need_none (EventWrite bytes) e w = let z : ◌≡◌ {A = ℕ} 0 1 = cc in absurd (omega arith)
others_need_none EventRead e w = record { cut_below = λ k h. absurd (omega arith); done-from = λ k h cut. cut }
others_need_none EventAcknowledge e w = record { cut_below = λ k h. absurd (omega arith); done-from = λ k h cut. cut }
others_need_none (TableFill row words) e w = let z : ◌≡◌ {A = ℕ} 0 1 = cc in absurd (omega arith)

-- a run whose memory has a store due makes one, unless it is cut
module _ {M : Type 0} (g : M → Next M) where
  next-stores : (k : ℕ) (m m' : M) (what : What) → 1 ≤ (next (run_by g k) (stores what m') m).ran.stores
  next-stores k m m' Remove = omega arith
  next-stores k m m' (Consume y) = omega arith
  next-stores k m m' (Raise told) = omega arith

  due-stores : (k : ℕ) (m m' : M) (what : What) → g m ≡ stores what m' → ((run_by g k m).ran.end ≡ Run-as-Cut → ⊥) → 1 ≤ (run_by g k m).ran.stores
  unfolding run_by
  due-stores zero m m' what d uncut = absurd (uncut (rw d refl))
  due-stores (suc k) m m' what d uncut = rw d (next-stores k m m' what)

cut_or_not : (e : End) → (e ≡ Run-as-Cut) ⊎ (e ≡ Run-as-Cut → ⊥)
cut_or_not Off = inr (λ e. let z : ◌≡◌ {A = ℕ} 0 1 = cc in omega arith)
cut_or_not Held = inr (λ e. let z : ◌≡◌ {A = ℕ} 0 1 = cc in omega arith)
cut_or_not Empty = inr (λ e. let z : ◌≡◌ {A = ℕ} 0 1 = cc in omega arith)
cut_or_not (Raised told) = inr (λ e. let z : ◌≡◌ {A = ℕ} 0 1 = cc in omega arith)
cut_or_not Run-as-Cut = inl refl

-- a run in one try: exactly the stores of the run without cuts
module _ (f : Features) (queue : List ℕ) (w : World) (a : Accepted w) where
  abbrev m : Memory
  m = memory_of w

  abbrev n : ℕ
  n = a.rows + a.parts

  abbrev whole : Out Memory
  whole = run f queue (ahead w) m

  whole-uncut : whole.ran.end ≡ Run-as-Cut → ⊥
  whole-uncut cut =
      let rows : rows_in m ≡ n = memory.rows_are m n (memory-of w a) in
      let h : used_rows m n + control.distance (control_of m) ≤ ahead w = rw (← rows) (omega arith) in
      enough-allowance f queue n (ahead w) m (memory-of w a) h cut

  below : (k : ℕ) → k < whole.ran.stores → (run f queue k m).ran.end ≡ Run-as-Cut
  below k h = ⊎_elim (λ e. e) (λ uncut. absurd (never uncut)) (cut_or_not (run f queue k m).ran.end)
    where
      never : ((run f queue k m).ran.end ≡ Run-as-Cut → ⊥) → ⊥
      never uncut =
          let same = ap (λ (o : Out Memory). o.ran.stores) (uncut-same (due_in f queue) k (ahead w) m uncut whole-uncut) in
          omega (arith, same, within-allowance (due_in f queue) k m)

  above : (k : ℕ) → whole.ran.stores ≤ k → (run f queue k m).ran.end ≡ Run-as-Cut → ⊥
  above k h cut =
      let j = ahead w in
      let m' = (run f queue k m).memory in
      let spent = cut-means (due_in f queue) k m cut in
      let e : k + j ≡ j + k = omega arith in
      let same : whole ≡ ◌then◌ (run f queue k m) (run f queue j m') =
      sym (enough (due_in f queue) k j m whole-uncut) ∙ ap (λ (x : ℕ). run f queue x m) (sym e) ∙ resume (due_in f queue) j k m cut in
      let uncut : ((run f queue j m').ran.end ≡ Run-as-Cut → ⊥) = λ c. whole-uncut (ap (λ (o : Out Memory). o.ran.end) same ∙ c) in
      let one_more = due-stores (due_in f queue) j m' spent.next-memory spent.what spent.was_due uncut in
      omega (arith, ap (λ (o : Out Memory). o.ran.stores) same, spent.all, one_more)

  pub run-needs-its-stores : Needs unit (stores_of (uncut unit (Run f queue) w).answer) (Run f queue) w
  run-needs-its-stores = by_queue (queue_good queue m) refl
    where
      by_queue : (b : Bool) → queue_good queue m ≡ b → Needs unit (stores_of (uncut unit (Run f queue) w).answer) (Run f queue) w
      by_queue false q =
          let is : (k : ℕ) → call f queue k m ≡ refused BadQueue m = λ k. goes_through f queue k m n (memory-of w a) ∙ rw q in
          let no_store : stores_of (call f queue (ahead w) m).answer ≡ 0 = rw (is (ahead w)) refl in
          record { cut_below = λ k h. absurd (omega arith); done-from = λ k h cut. rw (is k) at cut }
      by_queue true q =
          let is : (k : ℕ) → call f queue k m ≡ done (run f queue k m) = λ k. goes_through f queue k m n (memory-of w a) ∙ rw q in
          let counted : stores_of (call f queue (ahead w) m).answer ≡ whole.ran.stores = rw (is (ahead w)) refl in
          record { cut_below = λ k h. rw (is k) (below k (omega arith)); done-from = λ k h cut. above k (omega arith) (rw (is k) at cut) }

-- in several tries: allowances that are together the used rows and the waiting commands
module _ (f : Features) (queue : List ℕ) where
  record CutRun (k : ℕ) (m : Memory) : Type 0 where
    is-run : call f queue k m ≡ done (run f queue k m)
    is_cut : (run f queue k m).ran.end ≡ Run-as-Cut

  cut-run : (n k : ℕ) (m : Memory) → memory.Accepts m n → EndsCut (call f queue k m).answer → CutRun k m
  cut-run n k m a cut = by_queue (queue_good queue m) refl
    where
      by_queue : (b : Bool) → queue_good queue m ≡ b → CutRun k m
      by_queue false q = absurd (rw (goes_through f queue k m n a, q) at cut)
      by_queue true q =
          let is : call f queue k m ≡ done (run f queue k m) = goes_through f queue k m n a ∙ rw q in
          record { is-run = is; is_cut = rw is at cut }

  -- each allowance makes progress: a cut run made as many stores as it might
  pub run-makes-progress : (k : ℕ) (w : World) → Accepted w → EndsCut (tried (Run f queue) k w).answer → stores_of (tried (Run f queue) k w).answer ≡ k
  run-makes-progress k w a cut =
      let r = cut-run (a.rows + a.parts) k (memory_of w) (memory-of w a) cut in
      rw r.is-run (cut-means (due_in f queue) k (memory_of w) r.is_cut).all

  -- cut tries are together one cut run with all their allowances
  cut-together : (k : ℕ) (ks : List ℕ) (w : World) → Accepted w → CutAt unit (Run f queue) (k ∷ ks) w
      → (run f queue (k + total ks) (memory_of w)).ran.end ≡ Run-as-Cut
  unfolding total
  cut-together k [] w a (one-try cut rest) = rw (add-zero k) (cut-run (a.rows + a.parts) k (memory_of w) (memory-of w a) cut).is_cut
  cut-together k (j ∷ ks) w a (one-try cut rest) =
      let r = cut-run (a.rows + a.parts) k (memory_of w) (memory-of w a) cut in
      let left : (call f queue k (memory_of w)).memory ≡ (run f queue k (memory_of w)).memory = ap (λ (o : Outcome Memory (Result Ran RunRefusal)). o.memory) r.is-run in
      let later = cut-together j ks (tried (Run f queue) k w).memory ((retries (Run f queue)).keeps k w a) rest in
      ap (λ (o : Out Memory). o.ran.end) (resume (due_in f queue) (j + total ks) k (memory_of w) r.is_cut)
      ∙ ap (λ (m : Memory). (run f queue (j + total ks) m).ran.end) (sym left) ∙ later

  pub run-cut-below : (k : ℕ) (ks : List ℕ) (w : World) → Accepted w → CutAt unit (Run f queue) (k ∷ ks) w → total (k ∷ ks) < ahead w
  unfolding total
  run-cut-below k ks w a cuts = ⊎_elim (λ h. h) (λ h. absurd (never h)) (less_or_not (k + total ks) (ahead w))
    where
      m : Memory
      m = memory_of w

      n : ℕ
      n = a.rows + a.parts

      never : ahead w ≤ k + total ks → ⊥
      never h =
          let rows : rows_in m ≡ n = memory.rows_are m n (memory-of w a) in
          let enough : used_rows m n + control.distance (control_of m) ≤ k + total ks = rw (← rows) h in
          enough-allowance f queue n (k + total ks) m (memory-of w a) enough (cut-together k ks w a cuts)

  length-total : (ks : List ℕ) → Positive ks → length ks ≤ total ks
  unfolding total
  length-total [] no_allowance = omega arith
  length-total (k ∷ ks) (one_allowance h p) = omega (arith, length-total ks p)

  -- so positive allowances finish it, each of them making progress: no more of them are cut
  pub run-comes-to-an-end : (ks : List ℕ) (w : World) → Accepted w → Positive ks → CutAt unit (Run f queue) ks w → length ks ≤ ahead w
  run-comes-to-an-end [] w a p cuts = omega arith
  run-comes-to-an-end (k ∷ ks) w a p cuts = omega (arith, length-total (k ∷ ks) p, run-cut-below k ks w a cuts)
