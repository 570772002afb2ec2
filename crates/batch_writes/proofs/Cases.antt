-- Writing a batch, case by case, as the code comes to them.
-- Assumes nothing.
use mathlib.Core.Path.{◌≡◌, sym, ap, ◌∙◌}
use mathlib.Core.Bool.{Bool, true, false, not}
use mathlib.Core.List.{List}
use Prim.Native.Nat.{ℕ, ◌*◌, ◌^◌, ◌≤◌, ◌<◌}
use native.Mathlib.Omega.{arith}
use lib.Dec.{eqb, ltb}
use lib.ListN.{length, set}
use borrow.Author.Tests.{lt-ltb, le-ltb, not-false, eqb-true}
use Rattle.words.specs.Outcomes.{Gives}
use Rattle.words.proofs.Outcomes.{gives}
use Rattle.control.specs.Control.{log2size}
use Rattle.commands.specs.declared.Features.{Features}
use Rattle.image.specs.declared.Refusal.{Refusal}
use Rattle.std.specs.Prelude.{Err, Ok, Result, ⊤}
use Rattle.image.specs.Image.{control_of, check}
use Rattle.image.proofs.Checks.{says}
use Rattle.writer.specs.declared.Fault.{Fault}
use Rattle.writer.specs.Layouts.{wide}
use Rattle.writer.specs.Writing.{slot_size}
use Rattle.batch_writes.specs.declared.BatchRefusal.{BatchRefusal}
use Rattle.batch_writes.specs.declared.BatchRefusal.TheVariants.{Image, BadQueue, NoRoom}
use Rattle.batch_writes.specs.Batch.{lent, commands_in, judged_from, free_in, placed, moved_on, write_batch}
use Rattle.batch_writes.proofs.Judging.{none-short}
use Rattle.batch_writes.proofs.Placed.{few-slots}

module _ (f : Features) (ws kept queue : List ℕ) (k : Result ℕ Refusal) (checked : k ≡ check kept) where
  pub refuses-image : (why : Refusal) → k ≡ Err why → Gives (write_batch f ws (lent kept queue)) (lent kept queue) (Err (Image why))
  unfolding write_batch
  refuses-image why e = gives (rw (← checked, e))

  module _ (rows : ℕ) (accepted : k ≡ Ok rows) where
    pub some_words : 0 < length kept
    some_words = omega (arith, ((says kept).accepted rows (sym checked ∙ accepted)).size.words)

    abbrev w : ℕ
    w = control_of kept

    module _ (b : Bool) (tested : b ≡ eqb (length queue) (slot_size * 2 ^ log2size w)) where
      pub refuses-queue : not b ≡ true → Gives (write_batch f ws (lent kept queue)) (lent kept queue) (Err BadQueue)
      unfolding write_batch
      refuses-queue e = gives (rw (← checked, accepted, ← tested, e))

      module _ (good : not b ≡ false) (n : ℕ) (counted : n ≡ commands_in ws) (j : Result ⊤ BatchRefusal) (judging : j ≡ judged_from f ws n 0) where
        pub long-queue : length queue ≡ slot_size * 2 ^ log2size w
        long-queue = eqb-true (length queue) (slot_size * 2 ^ log2size w) (sym tested ∙ not-false b good)

        pub refuses-command : (why : BatchRefusal) → j ≡ Err why → Gives (write_batch f ws (lent kept queue)) (lent kept queue) (Err why)
        unfolding write_batch
        refuses-command why e = gives (rw (← checked, accepted, ← tested, good, ← counted, ← judging, e))

        module _ (fine : j ≡ Ok tt) (s : ℕ) (room : s ≡ free_in w) where
          pub refuses-room : s < n → Gives (write_batch f ws (lent kept queue)) (lent kept queue) (Err NoRoom)
          unfolding write_batch
          refuses-room h =
              let full : ltb (free_in w) n ≡ true = rw (← room) (lt-ltb s n h) in
              gives (rw (← checked, accepted, ← tested, good, ← counted, ← judging, fine, full))

          module _ (fits : n ≤ s) where
            pub few : n < 2 ^ 32
            few = omega (arith, room, few-slots w)

            pub all_there : wide * n ≤ length ws
            all_there = rw counted (none-short f ws (ap (λ (x : ℕ). judged_from f ws x 0) (sym counted) ∙ sym judging ∙ fine))

            pub rings-last : (q' kept' : List ℕ) → q' ≡ placed ws w queue n → kept' ≡ set kept 0 (moved_on w n)
                → Gives (write_batch f ws (lent kept queue)) (lent kept' q') (Ok tt)
            unfolding write_batch
            rings-last q' kept' p r =
                let free : ltb (free_in w) n ≡ false = rw (← room) (le-ltb s n fits) in
                gives (rw (← checked, accepted, ← tested, good, ← counted, ← judging, fine, free, p, r))
