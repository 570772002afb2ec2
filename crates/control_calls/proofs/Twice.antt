-- A store of the same value again leaves the control word as the first left it.
-- Assumes nothing.
use mathlib.Core.Path.{◌≡◌}
use mathlib.Core.Bool.{Bool, true}
use Prim.Native.Nat.{ℕ}
use native.Mathlib.Omega.{arith}
use lib.Dec.{leb}
use borrow.Author.Tests.{le-leb}
use Rattle.words.specs.Choice.{pick}
use Rattle.words.proofs.Parts.{put-again}
use Rattle.words.proofs.Truth.{left, and_true}
use Rattle.indexes.specs.Indexes as indexes
use Rattle.control.specs.Control.{rd_bits, wr_bits, cmdqen_bits, log2size_bits, rd, log2size, distance}
use Rattle.control.proofs.Formed.{Formed}
use Rattle.control_stores.specs.Stores.{may_ring, rung, switched}
use Rattle.control_stores.proofs.AfterStores.{rung-keeps, rung-sets}

module _ (w : ℕ) where
  pub rung-again : (v : ℕ) → rung (rung w v) v ≡ rung w v
  unfolding rung
  rung-again v = put-again wr_bits v w tt

  -- and the doorbell's test passes again: the distance is the new one already
  pub may-ring-again : (v : ℕ) → Formed w → may_ring w v ≡ true → may_ring (rung w v) v ≡ true
  unfolding may_ring distance
  may-ring-again v f e =
      let first : indexes.well_formed (log2size w) (rd w) v ≡ true =
      left (indexes.well_formed (log2size w) (rd w) v) (leb (distance w) (indexes.distance (log2size w) (rd w) v)) e in
      let far = indexes.distance (log2size (rung w v)) (rd (rung w v)) v in
      let a : indexes.well_formed (log2size (rung w v)) (rd (rung w v)) v ≡ true =
      rw (rung-keeps w v log2size_bits tt, rung-keeps w v rd_bits tt) first in
      let b : leb (distance (rung w v)) far ≡ true = rw (rung-sets w v f e) (le-leb far far (omega arith)) in
      and_true a b

  pub switched-again : (on : Bool) → switched (switched w on) on ≡ switched w on
  unfolding switched
  switched-again on = put-again cmdqen_bits (pick on 1 0) w tt
