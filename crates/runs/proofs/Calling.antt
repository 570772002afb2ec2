-- The call of a run, by what the check of the image and of the queue's length said.
-- Assumes nothing.
use mathlib.Core.Path.{◌≡◌, refl, sym, ap, ◌∙◌}
use mathlib.Core.Bool.{Bool, true, false, not}
use mathlib.Core.List.{List}
use Prim.Native.Nat.{ℕ, ◌+◌, ◌*◌, ◌^◌, ◌<◌}
use native.Mathlib.Omega.{arith}
use lib.ListN.{length}
use Rattle.words.specs.Choice.{pick}
use borrow.Author.Tests.{eqb-true, not-true, not-false}
use Rattle.words.specs.Outcomes.{Gives}
use Rattle.control.specs.Control as control
use Rattle.commands.specs.declared.Features.{Features}
use Rattle.image.specs.declared.Refusal.{Refusal}
use Rattle.std.specs.Prelude.{Err, Ok, Result}
use Rattle.image.specs.Image.{check}
use Rattle.memory.specs.Memory.{Memory, control_of}
use Rattle.memory.proofs.Laws.{Accepts, accepts-both, accepted-whole, rows_are}
use Rattle.image.proofs.Checks.{says, accepts}
use Rattle.regions.specs.declared.Refusal.{Refusal as regions·Refusal}
use Rattle.regions.specs.Table as regions
use Rattle.regions.proofs.Checks.{says as regions·says, accepts as regions·accepts}
use Rattle.runs.specs.declared.Ran.{Ran}
use Rattle.runs.specs.declared.RunRefusal.{RunRefusal}
use Rattle.runs.specs.declared.RunRefusal.TheVariants.{Image, Table, BadQueue}
use Rattle.runs.specs.Running.{Does, Fit, run}
use Rattle.runs.specs.Call.{queue_good, refused, done, call}

-- x and y are what the checks of the two tables said, b what that of the queue's length said
module _ (f : Features) (queue : List ℕ) (k : ℕ) (m : Memory) {x : (Result ℕ Refusal)} (first : x ≡ check m.kept) where
  pub refuses-image : {why : Refusal} → x ≡ Err why → Gives (call f queue k m) m (Err (Image why))
  unfolding call
  refuses-image e = let s = sym first ∙ e in record { answers = rw s; leaves = rw s }

  pub some_words : {n : ℕ} → x ≡ Ok n → 0 < length m.kept
  some_words {n} e = omega (arith, ((says m.kept).accepted n (sym first ∙ e)).size.words)

  module _ {n : ℕ} (e : x ≡ Ok n) {y : (Result ℕ regions·Refusal)} (second : y ≡ regions.check m.table) where
    pub refuses-table : {why : regions·Refusal} → y ≡ Err why → Gives (call f queue k m) m (Err (Table why))
    unfolding call
    refuses-table g = let s = sym first ∙ e in let t = sym second ∙ g in record { answers = rw (s, t); leaves = rw (s, t) }

    module _ {r : ℕ} (g : y ≡ Ok r) {b : Bool} (long : b ≡ queue_good queue m) where
      pub refuses-queue : not b ≡ true → Gives (call f queue k m) m (Err BadQueue)
      unfolding call
      refuses-queue q =
          let s = sym first ∙ e in
          let t = sym second ∙ g in
          let bad : queue_good queue m ≡ false = sym long ∙ not-true b q in
          record { answers = rw (s, t, bad); leaves = rw (s, t, bad) }

      pub does : {m' : Memory} {ran : Ran} → not b ≡ false → Does f queue k m m' ran → Gives (call f queue k m) m' (Ok ran)
      unfolding call
      does q d =
          let s = sym first ∙ e in
          let t = sym second ∙ g in
          let good : queue_good queue m ≡ true = sym long ∙ not-false b q in
          record { answers = rw (s, t, good) (ap Ok d.answers); leaves = rw (s, t, good) d.leaves }

      -- accepted memory and its queue fit a run
      pub fits-run : not b ≡ false → Fit queue m
      fits-run q =
          let a = accepts-both m n r ((says m.kept).accepted n (sym first ∙ e)) ((regions·says m.table).accepted r (sym second ∙ g)) in
          record {
            room = accepted-whole m (n + r) a;
            few = omega (arith, rows_are m (n + r) a, a.image.size.few, a.regions.size.few);
            slots = eqb-true (length queue) (16 * 2 ^ control.log2size (control_of m)) (sym long ∙ not-false b q);
          }

-- of accepted memory only the queue's length is left to ask about
pub goes_through : (f : Features) (queue : List ℕ) (k : ℕ) (m : Memory) (n : ℕ) → Accepts m n
    → call f queue k m ≡ pick (not (queue_good queue m)) (refused BadQueue m) (done (run f queue k m))
unfolding call
goes_through f queue k m n a = rw (accepts m.kept a.first a.image, regions·accepts m.table a.second a.regions)

-- memory that they do not accept is refused, whatever the queue and the allowance
pub data Answered (f : Features) (queue : List ℕ) (m : Memory) : Type 0 where
  no : (why : RunRefusal) → ((k : ℕ) → call f queue k m ≡ refused why m) → Answered f queue m
  yes : (n : ℕ) → Accepts m n → Answered f queue m

pub answered : (f : Features) (queue : List ℕ) (m : Memory) → Answered f queue m
unfolding call
answered f queue m = by_image (check m.kept) refl
  where
    by_table : (n : ℕ) → check m.kept ≡ Ok n → (y : Result ℕ regions·Refusal) → regions.check m.table ≡ y → Answered f queue m
    by_table n e (Err why) g = no (Table why) (λ k. rw (e, g))
    by_table n e (Ok r) g = yes (n + r) (accepts-both m n r ((says m.kept).accepted n e) ((regions·says m.table).accepted r g))

    by_image : (x : Result ℕ Refusal) → check m.kept ≡ x → Answered f queue m
    by_image (Err why) e = no (Image why) (λ k. rw e)
    by_image (Ok n) e = by_table n e (regions.check m.table) refl
