-- Each call, case by case: what it answers and leaves once the image's check and the call's own test are known.
-- Assumes nothing.
use mathlib.Core.Path.{◌≡◌}
use mathlib.Core.Bool.{Bool, true, false}
use mathlib.Core.List.{List}
use Prim.Native.Nat.{ℕ, ◌<◌}
use native.Mathlib.Omega.{arith}
use lib.ListN.{length}
use Rattle.words.specs.Outcomes.{with}
use Rattle.control.specs.Control.{active, is_pending}
use Rattle.control_stores.specs.Stores.{may_ring, rung, acknowledged, pended, switched}
use Rattle.image.specs.declared.Refusal.{Refusal}
use Rattle.std.specs.Prelude.{Err, Ok}
use Rattle.image.specs.Image.{control_of, check}
use Rattle.image.proofs.Checks.{says}
use Rattle.control_calls.specs.declared.DoorbellRefusal.TheVariants.{Image as ByImage, BadIndex}
use Rattle.control_calls.specs.declared.AcknowledgeRefusal.TheVariants.{Image as OfImage, NoError}
use Rattle.control_calls.specs.declared.ClearRefusal.TheVariants.{Image as InImage, NotPending}
use Rattle.control_calls.specs.Calls.{stored, doorbell, acknowledge, clear_pending, enable}

module _ (m : List ℕ) where
  -- an accepted image has a control word
  pub has-control : (n : ℕ) → check m ≡ Ok n → 0 < length m
  has-control n e = omega (arith, ((says m).accepted n e).size.words)

  pub doorbell-image : (v : ℕ) (why : Refusal) → check m ≡ Err why → doorbell m v ≡ with (Err (ByImage why)) m
  unfolding doorbell
  doorbell-image v why e = rw e

  pub doorbell-index : (n v : ℕ) → check m ≡ Ok n → may_ring (control_of m) v ≡ false → doorbell m v ≡ with (Err BadIndex) m
  unfolding doorbell
  doorbell-index n v e t = rw (e, t)

  pub doorbell-rings : (n v : ℕ) → check m ≡ Ok n → may_ring (control_of m) v ≡ true
      → doorbell m v ≡ with (Ok tt) (stored m (rung (control_of m) v))
  unfolding doorbell
  doorbell-rings n v e t = rw (e, t)

  pub acknowledge-image : (why : Refusal) → check m ≡ Err why → acknowledge m ≡ with (Err (OfImage why)) m
  unfolding acknowledge
  acknowledge-image why e = rw e

  pub acknowledge-none : (n : ℕ) → check m ≡ Ok n → active (control_of m) ≡ false → acknowledge m ≡ with (Err NoError) m
  unfolding acknowledge
  acknowledge-none n e t = rw (e, t)

  pub acknowledge-stores : (n : ℕ) → check m ≡ Ok n → active (control_of m) ≡ true
      → acknowledge m ≡ with (Ok tt) (stored m (acknowledged (control_of m)))
  unfolding acknowledge
  acknowledge-stores n e t = rw (e, t)

  pub clear-image : (why : Refusal) → check m ≡ Err why → clear_pending m ≡ with (Err (InImage why)) m
  unfolding clear_pending
  clear-image why e = rw e

  pub clear_none : (n : ℕ) → check m ≡ Ok n → is_pending (control_of m) ≡ false → clear_pending m ≡ with (Err NotPending) m
  unfolding clear_pending
  clear_none n e t = rw (e, t)

  pub clear-stores : (n : ℕ) → check m ≡ Ok n → is_pending (control_of m) ≡ true
      → clear_pending m ≡ with (Ok tt) (stored m (pended (control_of m) false))
  unfolding clear_pending
  clear-stores n e t = rw (e, t)

  pub enable-image : (on : Bool) (why : Refusal) → check m ≡ Err why → enable m on ≡ with (Err why) m
  unfolding enable
  enable-image on why e = rw e

  pub enable-stores : (n : ℕ) (on : Bool) → check m ≡ Ok n → enable m on ≡ with (Ok tt) (stored m (switched (control_of m) on))
  unfolding enable
  enable-stores n on e = rw e
