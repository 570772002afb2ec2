-- `image_state::gather` meets its contract: the words so far are in place.
-- Assumes nothing.
use mathlib.Core.Path.{◌≡◌, refl}
use mathlib.Core.List.{List, []}
use Prim.Native.Nat.{ℕ}
use native.Mathlib.Omega.{arith}
use lib.ListN.{length-set}
use Rattle.image_state.specs.States.{words_in}
use Rattle.image_state.proofs.Laws.{gathered}
use Rattle.image_state.proofs.gather.Goals as goal

start : (bytes : List ℕ) → [] ≡ words_in bytes 0
unfolding words_in
start bytes = refl

pub loop-i-init : goal.loop-i-init
loop-i-init c = record { within = omega arith; long = refl; same = start _ }

pub loop-i-preserved : goal.loop-i-preserved
loop-i-preserved c =
    let at = c in
    record {
      within = omega arith;
      long = rw length-set at.loop-i.invariant.long;
      same = rw c.word_at.ensures (gathered _ _ at.loop-i.i (omega arith) at.loop-i.invariant.same);
    }
