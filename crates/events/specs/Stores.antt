-- Document 02, T-01: the index word after each single store.
-- Assumes nothing.
use Rattle.std.specs.Prelude.{ℕ, ◌-◌}
use Rattle.words.specs.Ranges.{set}
use Rattle.indexes.specs.Indexes as indexes
use Rattle.events.specs.Word.{rd_bits, wr_bits, overflow_bits, overflow_ack_bits, rd, wr, overflow, log2size}

-- a record written: WR forward by one
unfoldable pub written : ℕ → ℕ
written w = set wr_bits (indexes.next (log2size w) (wr w)) w

-- the oldest read: RD forward by one
unfoldable pub read_out : ℕ → ℕ
read_out w = set rd_bits (indexes.next (log2size w) (rd w)) w

-- a record dropped while no overflow was outstanding: the flag flips
unfoldable pub flipped : ℕ → ℕ
flipped w = set overflow_bits (1 - overflow w) w

-- the overflow acknowledged: its bit made equal to the flag
unfoldable pub acknowledged : ℕ → ℕ
acknowledged w = set overflow_ack_bits (overflow w) w
