-- Document 01, One run: the control word after each single store.
-- Assumes nothing.
use Rattle.std.specs.Prelude.{ℕ, ◌-◌, Bool, ◌&&◌, leb}
use Rattle.words.specs.Choice.{pick}
use Rattle.words.specs.Ranges.{set}
use Rattle.indexes.specs.Indexes as indexes
use Rattle.control.specs.Control.{rd_bits, wr_bits, err_bits, gerror_bits, gerrorn_bits, cmdqen_bits, pending_bits, rd, gerror, log2size, distance}

-- a command consumed: RD forward by one
unfoldable pub consumed : ℕ → ℕ
consumed w = set rd_bits (indexes.next (log2size w) (rd w)) w

-- CERROR_ILL raised: ERR 1, GERROR flipped
unfoldable pub raised : ℕ → ℕ
raised w = set gerror_bits (1 - gerror w) (set err_bits 1 w)

-- the doorbell: WR v, where it is in range and the queue neither overflows nor shrinks
unfoldable pub may_ring : ℕ → ℕ → Bool
may_ring w v =
    indexes.well_formed (log2size w) (rd w) v && leb (distance w) (indexes.distance (log2size w) (rd w) v)

unfoldable pub rung : ℕ → ℕ → ℕ
rung w v = set wr_bits v w

-- the error acknowledged: GERRORN made equal to GERROR
unfoldable pub acknowledged : ℕ → ℕ
acknowledged w = set gerrorn_bits (gerror w) w

-- document 02, T-08: the completion interrupt pending, or no longer
unfoldable pub pended : ℕ → Bool → ℕ
pended w on = set pending_bits (pick on 1 0) w

-- the queue enabled or disabled
unfoldable pub switched : ℕ → Bool → ℕ
switched w on = set cmdqen_bits (pick on 1 0) w
