-- Document 02, T-10: what a batch leaves. Refused, nothing; rung, each command in its slot, every other slot as it was, and as many more
-- waiting as were written.
-- Assumes nothing.
use mathlib.Core.Path.{◌≡◌, refl, ap, ◌∙◌}
use mathlib.Core.Bool.{Bool, true, false}
use mathlib.Core.List.{List}
use mathlib.Core.Logic.{◌⊎◌}
use Prim.Native.Nat.{ℕ, zero, suc, ◌+◌, ◌*◌, ◌%◌, ◌≤◌, ◌<◌}
use native.Mathlib.Decide.{ℕ_discrete}
use native.Mathlib.Nat.{mod-lt}
use native.Mathlib.Omega.{arith}
use lib.Dec.{T, eqb, ltb}
use lib.ListN.{length, get_or, set}
use lib.Pow.{pow_pos, pow-add}
use borrow.Author.Tests.{eqb-true, ltb-false, le-leb}
use Rattle.words.specs.Outcomes.{Outcome, with}
use Rattle.words.specs.Ranges.{Range, get}
use Rattle.words.proofs.Parts.{apart}
use Rattle.words.proofs.Truth.{and_true}
use Rattle.indexes.specs.Indexes as indexes
use Rattle.indexes.proofs.Laws as indexed
use Rattle.control.specs.Control as control
use Rattle.control.proofs.Formed as control_formed
use Rattle.control.proofs.Formed.{Formed}
use Rattle.control_stores.specs.Stores.{may_ring}
use Rattle.control_stores.proofs.AfterStores.{rung-keeps, rung-sets, rung-formed}
use Rattle.commands.specs.declared.Features.{Features}
use Rattle.commands.specs.Decoding.{decode, decode_at}
use Rattle.std.specs.Prelude.{Err, Ok, Result, ⊤}
use Rattle.image.specs.declared.Refusal.{Refusal}
use Rattle.image.specs.Image.{control_of, check}
use Rattle.image.proofs.Checks.{Accepts, says}
use Rattle.image.proofs.AfterStores.{control-stored}
use Rattle.commands.specs.declared.Coded.{Coded}
use Rattle.writer.specs.Writing.{encoded, split, slot_size, with_command}
use Rattle.writer.proofs.RoundTrip.{low_lt, high_lt}
use Rattle.writer.proofs.Slots.{command-others, decodes-there, decodes-elsewhere}
use Rattle.batch_writes.specs.declared.BatchRefusal.{BatchRefusal}
use Rattle.batch_writes.specs.declared.BatchRefusal.TheVariants.{Image, BadQueue, NoRoom}
use Rattle.batch_writes.specs.Batch.{Lent, lent, words_of, commands_in, judged_from, free_in, slot_at, placed, moved_on, refused, write_batch}
use Rattle.batch_writes.proofs.Placed.{slot_inside, placed-length}

-- the queue
module _ (f : Features) (ws : List ℕ) (w : ℕ) (queue : List ℕ) where
  abbrev after : ℕ → List ℕ
  after n = placed ws w queue n

  -- a byte outside the slots written
  pub placed-others : (n k : ℕ) → ((i : ℕ) → i < n → (k < slot_size * slot_at w i) ⊎ (slot_size * slot_at w i + slot_size ≤ k)) → get_or (placed ws w queue n) k 0 ≡ get_or queue k 0
  unfolding placed
  placed-others zero k apart = refl
  placed-others (suc n) k apart =
      command-others (after n) (slot_size * slot_at w n) (split (encoded (words_of ws n))) k (apart n (omega arith))
      ∙ placed-others n k (λ i h. apart i (omega arith))

  module _ (long : length queue ≡ slot_size * indexes.slots (control.log2size w)) where
    room : (n s : ℕ) → s < indexes.slots (control.log2size w) → 16 * s + 16 ≤ length (after n)
    room n s h = rw (placed-length ws w queue n) (omega (arith, long))

    -- another slot
    pub decodes-other : (n s : ℕ) → s < indexes.slots (control.log2size w) → ((i : ℕ) → i < n → s ≡ slot_at w i → ⊥) → decode_at f (placed ws w queue n) s ≡ decode_at f queue s
    unfolding placed
    decodes-other zero s h apart = refl
    decodes-other (suc n) s h apart =
        decodes-elsewhere f (after n) (slot_at w n) (split (encoded (words_of ws n))) s (room n s h) (apart n (omega arith))
        ∙ decodes-other n s h (λ i l. apart i (omega arith))

    -- the slot of one that was written
    pub decodes-written : (n i : ℕ) → n ≤ indexes.slots (control.log2size w) → i < n
        → decode_at f (placed ws w queue n) (slot_at w i) ≡ decode f (split (encoded (words_of ws i))).lo (split (encoded (words_of ws i))).hi
    unfolding placed
    decodes-written zero i few h = absurd (omega arith)
    decodes-written (suc n) i few h = by_place (ℕ_discrete i n) (decodes-written n i (omega arith))
      where
        c : Coded
        c = split (encoded (words_of ws n))

        by_place : Dec (i ≡ n) → (i < n → decode_at f (after n) (slot_at w i) ≡ decode f (split (encoded (words_of ws i))).lo (split (encoded (words_of ws i))).hi)
            → decode_at f (with_command (after n) (slot_size * slot_at w n) c) (slot_at w i) ≡ decode f (split (encoded (words_of ws i))).lo (split (encoded (words_of ws i))).hi
        by_place (yes e) later = rw e (decodes-there f (after n) (slot_at w n) c (room n (slot_at w n) (slot_inside w n)) (low_lt (words_of ws n)) (high_lt (words_of ws n)))
        by_place (no d) later =
            decodes-elsewhere f (after n) (slot_at w n) c (slot_at w i) (room n (slot_at w i) (slot_inside w i))
            (λ e. d (indexed.slots-differ (control.log2size w) (control.wr w) i n (omega arith) (omega arith) e))
            ∙ later (omega (arith, d))

-- the control word
module _ (w n : ℕ) (formed : Formed w) (fits : n ≤ free_in w) where
  abbrev v : ℕ
  v = (control.wr w + n) % indexes.turn (control.log2size w)

  abbrev d : ℕ
  d = control.distance w

  pub together : control.distance w + n ≤ indexes.slots (control.log2size w)
  unfolding control.distance
  together = omega (arith, formed.waiting.apart)

  further : indexes.distance (control.log2size w) (control.rd w) v ≡ d + n
  unfolding control.distance
  further =
      let double : indexes.turn (control.log2size w) ≡ indexes.slots (control.log2size w) * 2 = pow-add 2 (control.log2size w) 1 in
      let some : 0 < indexes.slots (control.log2size w) = pow_pos (control.log2size w) in
      indexed.distance-on (control.log2size w) (control.rd w) (control.wr w) n (omega (arith, together))

  pub may : may_ring w ((control.wr w + n) % indexes.turn (control.log2size w)) ≡ true
  unfolding may_ring
  may =
      and_true
      (indexed.is_formed (control.log2size w) (control.rd w) v
      (record {
        rd_in = formed.waiting.rd_in;
        wr_in = mod-lt (control.wr w + n) (pow_pos (control.log2size w + 1));
        apart = rw further together;
      }))
      (le-leb d (indexes.distance (control.log2size w) (control.rd w) v) (rw further (omega arith)))

  -- WR moved on by n, every other part as it was, n more waiting
  pub moved-wr : control.wr (moved_on w n) ≡ (control.wr w + n) % indexes.turn (control.log2size w)
  unfolding moved_on
  moved-wr = rung-sets w v formed may

  pub moved_keeps : (r : Range) → T (apart control.wr_bits r) → get r (moved_on w n) ≡ get r w
  unfolding moved_on
  moved_keeps r t = rung-keeps w v r t

  pub moved-formed : Formed (moved_on w n)
  unfolding moved_on
  moved-formed = rung-formed w v formed may

  pub moved-distance : control.distance (moved_on w n) ≡ control.distance w + n
  unfolding control.distance
  moved-distance = rw (moved_keeps control.log2size_bits tt, moved_keeps control.rd_bits tt, moved-wr) further

-- the call
pub record Rings (f : Features) (ws : List ℕ) (m : Lent) : Type 0 where
  pub rows : ℕ
  pub accepted : Accepts m.kept rows
  pub long : length m.queue ≡ slot_size * indexes.slots (control.log2size (control_of m.kept))
  pub all_fit : judged_from f ws (commands_in ws) 0 ≡ Ok tt
  pub room : commands_in ws ≤ free_in (control_of m.kept)
  pub leaves : write_batch f ws m ≡ with (Ok tt) (lent (set m.kept 0 (moved_on (control_of m.kept) (commands_in ws))) (placed ws (control_of m.kept) m.queue (commands_in ws)))

pub data Way (f : Features) (ws : List ℕ) (m : Lent) : Type 0 where
  stops : (why : BatchRefusal) → write_batch f ws m ≡ refused why m → Way f ws m
  rings : Rings f ws m → Way f ws m

module _ (f : Features) (ws : List ℕ) (m : Lent) where
  abbrev x : ℕ
  x = control_of m.kept

  pub way : Way f ws m
  unfolding write_batch
  way = by_check (check m.kept) refl
    where
      by_room : (rows : ℕ) → check m.kept ≡ Ok rows → eqb (length m.queue) (slot_size * indexes.slots (control.log2size x)) ≡ true
          → judged_from f ws (commands_in ws) 0 ≡ Ok tt → (b : Bool) → ltb (free_in x) (commands_in ws) ≡ b → Way f ws m
      by_room rows e q j true b = stops NoRoom (rw (e, q, j, b))
      by_room rows e q j false b =
          rings
          (record {
            rows = rows;
            accepted = (says m.kept).accepted rows e;
            long = eqb-true (length m.queue) (slot_size * indexes.slots (control.log2size x)) q;
            all_fit = j;
            room = ltb-false (free_in x) (commands_in ws) b;
            leaves = rw (e, q, j, b);
          })

      by_commands : (rows : ℕ) → check m.kept ≡ Ok rows → eqb (length m.queue) (slot_size * indexes.slots (control.log2size x)) ≡ true
          → (j : Result ⊤ BatchRefusal) → judged_from f ws (commands_in ws) 0 ≡ j → Way f ws m
      by_commands rows e q (Err why) j = stops why (rw (e, q, j))
      by_commands rows e q (Ok fine) j = by_room rows e q j (ltb (free_in x) (commands_in ws)) refl

      by_queue : (rows : ℕ) → check m.kept ≡ Ok rows → (b : Bool) → eqb (length m.queue) (slot_size * indexes.slots (control.log2size x)) ≡ b → Way f ws m
      by_queue rows e false q = stops BadQueue (rw (e, q))
      by_queue rows e true q = by_commands rows e q (judged_from f ws (commands_in ws) 0) refl

      by_check : (k : Result ℕ Refusal) → check m.kept ≡ k → Way f ws m
      by_check (Err why) e = stops (Image why) (rw e)
      by_check (Ok rows) e = by_queue rows e (eqb (length m.queue) (slot_size * indexes.slots (control.log2size x))) refl

  -- on a refusal nothing is written
  pub refusal_writes_nothing : (why : BatchRefusal) → (write_batch f ws m).answer ≡ Err why → (write_batch f ws m).memory ≡ m
  refusal_writes_nothing why e = by_way way
    where
      by_way : Way f ws m → (write_batch f ws m).memory ≡ m
      by_way (stops other s) = rw s
      by_way (rings r) = let z : ◌≡◌ {A = ℕ} 0 1 = cc (ap (λ (o : Outcome Lent (Result ⊤ BatchRefusal)). o.answer) r.leaves) in absurd (omega arith)

  pub rung-rings : (write_batch f ws m).answer ≡ Ok tt → Rings f ws m
  rung-rings e = by_way way
    where
      by_way : Way f ws m → Rings f ws m
      by_way (stops other s) = let z : ◌≡◌ {A = ℕ} 0 1 = cc (ap (λ (o : Outcome Lent (Result ⊤ BatchRefusal)). o.answer) s) in absurd (omega arith)
      by_way (rings r) = r

  -- an accepted image stays one
  pub batch_accepted : (n : ℕ) → Accepts m.kept n → Accepts (write_batch f ws m).memory.kept n
  batch_accepted n a = by_way way
    where
      by_way : Way f ws m → Accepts (write_batch f ws m).memory.kept n
      by_way (stops why s) = rw s a
      by_way (rings r) =
          let formed = control_formed.formed x a.control_formed in
          rw r.leaves (control-stored m.kept n a (moved_on x (commands_in ws)) (control_formed.is_formed (moved_on x (commands_in ws)) (moved-formed x (commands_in ws) formed r.room)))

  -- rung, every byte outside the slots written is as it was
  pub others_stay : (write_batch f ws m).answer ≡ Ok tt → (k : ℕ)
      → ((i : ℕ) → i < commands_in ws → (k < slot_size * slot_at (control_of m.kept) i) ⊎ (slot_size * slot_at (control_of m.kept) i + slot_size ≤ k))
      → get_or (write_batch f ws m).memory.queue k 0 ≡ get_or m.queue k 0
  others_stay e k apart =
      ap (λ (o : Outcome Lent (Result ⊤ BatchRefusal)). get_or o.memory.queue k 0) (rung-rings e).leaves ∙ placed-others f ws x m.queue (commands_in ws) k apart
