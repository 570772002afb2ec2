-- Document 02, T-10: after a batch, what waited still waits, then exactly the commands asked for; and a run with the writer's features and
-- allowance enough consumes them all.
-- Assumes nothing.
use mathlib.Core.Path.{◌≡◌, sym, ap, ◌∙◌}
use mathlib.Core.List.{List}
use mathlib.Core.Logic.{⊎_elim}
use Prim.Native.Nat.{ℕ, ◌+◌, ◌-◌, ◌*◌, ◌%◌, ◌^◌, ◌≤◌, ◌<◌}
use native.Mathlib.Nat.{add_comm}
use native.Mathlib.Omega.{arith}
use lib.ListN.{length, drop, length-drop}
use lib.Seq.{length-take-le}
use borrow.Author.Tests.{eq-eqb}
use Rattle.words.specs.Outcomes.{Outcome, with}
use Rattle.words.proofs.Truth.{less_or_not}
use Rattle.indexes.specs.Indexes as indexes
use Rattle.indexes.proofs.Laws as indexed
use Rattle.control.specs.Control as control
use Rattle.control.proofs.Formed as control_formed
use Rattle.control.proofs.Formed.{Formed}
use Rattle.control_stores.proofs.AfterStores.{same-active}
use Rattle.commands.specs.declared.Features.{Features}
use Rattle.commands.specs.Decoding.{decode, decode_at, is_illegal}
use Rattle.memory.specs.Memory.{Memory, both, control_of, used_rows, stored}
use Rattle.memory.proofs.Laws as memory
use Rattle.memory.proofs.Laws.{Accepts}
use Rattle.runs.specs.Running.{run}
use Rattle.runs.specs.Call.{call}
use Rattle.runs.proofs.Calling.{goes_through}
use Rattle.commands.specs.declared.Coded.{Coded}
use Rattle.writer.specs.Layouts.{wide}
use Rattle.writer.specs.Writing.{slot_size}
use Rattle.writer.proofs.RoundTrip.{reads_back, coded_as}
use Rattle.std.specs.Prelude.{Ok, Result, ⊤}
use Rattle.batch_writes.specs.declared.BatchRefusal.{BatchRefusal}
use Rattle.batch_writes.specs.Batch.{Lent, lent, words_of, commands_in, slot_at, placed, moved_on, write_batch}
use Rattle.batch_writes.proofs.Judging.{each_fits}
use Rattle.batch_writes.proofs.Placed.{placed-length}
use Rattle.control_calls.specs.Calls.{doorbell}
use Rattle.control_calls.proofs.Cases.{doorbell-rings}
use Rattle.image.proofs.Checks.{accepts}
use Rattle.batch_writes.proofs.Laws.{Rings, rung-rings, decodes-other, decodes-written, together, may, moved_keeps, moved-formed, moved-distance}
use Rattle.promises.specs.Found.{command_at}
use Rattle.promises.specs.Written.{AskedFor, ConsumesAll, RunsThrough}
use Rattle.promises.proofs.Legal.{AllLegal, waiting-at, runs-empty}

module _ (f : Features) (ws kept table queue : List ℕ) (n : ℕ) (rang : (write_batch f ws (lent kept queue)).answer ≡ Ok tt) (accepted : Accepts (both kept table) n) where
  abbrev w : ℕ
  w = control_of (both kept table)

  abbrev many : ℕ
  many = commands_in ws

  abbrev after : Lent
  after = (write_batch f ws (lent kept queue)).memory

  r : Rings f ws (lent kept queue)
  r = rung-rings f ws (lent kept queue) rang

  formed : Formed w
  formed = control_formed.formed w (memory.control_formed (both kept table) n accepted)

  new-queue : after.queue ≡ placed ws w queue many
  new-queue = ap (λ (o : Outcome Lent (Result ⊤ BatchRefusal)). o.memory.queue) r.leaves

  new-memory : both after.kept table ≡ stored (both kept table) (moved_on w many)
  new-memory = ap (λ (o : Outcome Lent (Result ⊤ BatchRefusal)). both o.memory.kept table) r.leaves

  new_word : control_of (both after.kept table) ≡ moved_on w many
  new_word = ap control_of new-memory ∙ memory.control-stored (both kept table) (memory.accepted-whole (both kept table) n accepted) (moved_on w many)

  abbrev size : ℕ
  size = control.log2size w

  -- the slot of the t-th that waits, before and after
  spot : ℕ → ℕ
  spot t = indexes.slot size (control.rd w + t)

  turned : (t : ℕ) → indexes.slot size ((t + control.rd w) % indexes.turn size) ≡ spot t
  unfolding spot
  turned t = indexed.slot_turn size (t + control.rd w) ∙ ap (indexes.slot size) (add_comm t (control.rd w))

  before_at : (g : Features) (t : ℕ) → t < control.distance w → command_at g queue w t ≡ decode_at g queue (spot t)
  before_at g t h = waiting-at g queue t w (control_formed.is_formed w formed) h ∙ ap (decode_at g queue) (turned t)

  after-at : (g : Features) (t : ℕ) → t < control.distance w + many → command_at g after.queue (control_of (both after.kept table)) t ≡ decode_at g (placed ws w queue many) (spot t)
  after-at g t h =
      let v = moved_on w many in
      let same_size = moved_keeps w many formed r.room control.log2size_bits tt in
      let same-rd = moved_keeps w many formed r.room control.rd_bits tt in
      rw (new-queue, new_word)
      (waiting-at g (placed ws w queue many) t v (control_formed.is_formed v (moved-formed w many formed r.room)) (rw (moved-distance w many formed r.room) h)
      ∙ ap (λ (s : ℕ). decode_at g (placed ws w queue many) s) (rw (same_size, same-rd) (turned t)))

  written_at : (i : ℕ) → slot_at w i ≡ spot (control.distance w + i)
  unfolding spot control.distance
  written_at i = indexed.slot-ahead size (control.rd w) (control.wr w) i

  -- what waited still waits, in its order, whatever features it is decoded by
  pub still-waits : (g : Features) (t : ℕ) → t < control.distance w → command_at g after.queue (control_of (both after.kept table)) t ≡ command_at g queue (control_of (both kept table)) t
  unfolding spot
  still-waits g t h =
      let fits = together w many formed r.room in
      after-at g t (omega arith)
      ∙ decodes-other g ws w queue r.long many (spot t) (indexed.slot_lt size (control.rd w + t))
      (λ i l e. omega (arith, indexed.slots-differ size (control.rd w) t (control.distance w + i) (omega arith) (omega arith) (e ∙ written_at i)))
      ∙ sym (before_at g t h)

  -- then exactly these
  pub then-these : (i : ℕ) → i < commands_in ws → AskedFor ws i (command_at f after.queue (control_of (both after.kept table)) (control.distance (control_of (both kept table)) + i))
  then-these i h =
      let fits = together w many formed r.room in
      let a = each_fits f ws many r.all_fit i h in
      let b = reads_back f (words_of ws i) a.coded (length-take-le wide (drop (wide * i) ws) (rw (length-drop (wide * i) ws) (omega (arith, a.has)))) a.fit in
      let same = coded_as f (words_of ws i) a.coded a.fit in
      record {
        command = b.command;
        is_command = after-at f (control.distance w + i) (omega arith) ∙ ap (decode_at f (placed ws w queue many)) (sym (written_at i))
            ∙ decodes-written f ws w queue r.long many i (omega arith) h ∙ ap (λ (c : Coded). decode f c.lo c.hi) (sym same) ∙ b.decodes;
        same_fields = b.same_fields;
      }

  -- the control word is what the doorbell would have stored, which would not have refused it
  pub rings-as-doorbell : doorbell kept ((control.wr w + many) % indexes.turn size) ≡ with (Ok tt) after.kept
  unfolding moved_on
  rings-as-doorbell =
      doorbell-rings kept r.rows ((control.wr w + many) % indexes.turn size) (accepts kept r.rows r.accepted) (may w many formed r.room)
      ∙ ap (with (Ok tt)) (sym (ap (λ (o : Outcome Lent (Result ⊤ BatchRefusal)). o.memory.kept) r.leaves))

  -- and a run consumes them all
  module _ (waits : AllLegal f queue (control_of (both kept table))) (k : ℕ) (enough : used_rows (both kept table) n + (control.distance (control_of (both kept table)) + commands_in ws) ≤ k) where
    abbrev m : Memory
    m = both after.kept table

    begins : Accepts m n
    begins = rw new-memory (memory.stored-accepted (both kept table) n accepted (moved_on w many) (control_formed.is_formed (moved_on w many) (moved-formed w many formed r.room)))

    far : control.distance (control_of m) ≡ control.distance w + many
    far = ap control.distance new_word ∙ moved-distance w many formed r.room

    all-legal : AllLegal f after.queue (control_of m)
    all-legal =
        let kept-part = moved_keeps w many formed r.room in
        record {
          enabled = λ z. waits.enabled (sym (kept-part control.cmdqen_bits tt) ∙ ap control.cmdqen (sym new_word) ∙ z);
          quiet = ap control.active new_word ∙ same-active w (moved_on w many) (kept-part control.gerror_bits tt) (kept-part control.gerrorn_bits tt) ∙ waits.quiet;
          legal = λ t h. ⊎_elim
              (λ l. ap is_illegal (still-waits f t l) ∙ waits.legal t l)
              (λ g. let i : control.distance w + (t - control.distance w) ≡ t = omega arith in
              rw i at (ap is_illegal (then-these (t - control.distance w) (omega (arith, far))).is_command))
              (less_or_not t (control.distance w));
        }

    long : length after.queue ≡ slot_size * 2 ^ control.log2size (control_of m)
    long =
        ap length new-queue ∙ placed-length ws w queue many ∙ r.long
        ∙ ap (λ (s : ℕ). slot_size * 2 ^ s) (sym (ap control.log2size new_word ∙ moved_keeps w many formed r.room control.log2size_bits tt))

    pub consumes_all : ConsumesAll (control.distance (control_of (both kept table)) + commands_in ws) (call f after.queue k (both after.kept table)).answer
    consumes_all =
        let ended = runs-empty f after.queue n k m begins all-legal (omega (arith, far, ap (λ (x : Memory). used_rows x n) new-memory, memory.used-stored (both kept table) n (moved_on w many), enough)) in
        record {
          ran = (run f after.queue k m).ran;
          is_done = rw (goes_through f after.queue k m n begins, eq-eqb (length after.queue) (16 * 2 ^ control.log2size (control_of m)) long);
          ends_empty = ended.0;
          consumed = ended.1 ∙ far;
        }

    -- all of it: writer, queue and run
    pub runs-through : RunsThrough f ws queue after.queue (control_of (both kept table)) (control_of (both after.kept table)) (call f after.queue k (both after.kept table)).answer
    runs-through = record { waited = still-waits f; written = then-these; consumes = consumes_all }
