-- Document 02, T-01: the recorder's index word.
-- Assumes nothing.
use Rattle.std.specs.Prelude.{ℕ, Bool, not, ◌&&◌, eqb}
use Rattle.words.specs.Ranges.{Range, bits, get}
use Rattle.indexes.specs.Indexes as indexes

-- its parts
abbrev pub rd_bits : Range
rd_bits = bits 19 0

abbrev pub wr_bits : Range
wr_bits = bits 39 20

abbrev pub overflow_bits : Range
overflow_bits = bits 40 40

abbrev pub overflow_ack_bits : Range
overflow_ack_bits = bits 41 41

abbrev pub log2size_bits : Range
log2size_bits = bits 46 42

abbrev pub zero_bits : Range
zero_bits = bits 63 47

abbrev pub rd : ℕ → ℕ
rd w = get rd_bits w

abbrev pub wr : ℕ → ℕ
wr w = get wr_bits w

abbrev pub overflow : ℕ → ℕ
overflow w = get overflow_bits w

abbrev pub overflow_ack : ℕ → ℕ
overflow_ack w = get overflow_ack_bits w

-- the n of 2 ^ n slots
abbrev pub log2size : ℕ → ℕ
log2size w = get log2size_bits w

-- an overflow is outstanding: the flag and its acknowledgement differ
unfoldable pub outstanding : ℕ → Bool
outstanding w = not (eqb (overflow w) (overflow_ack w))

-- for the n that the length says, with the indexes by document 01's rule
unfoldable pub well_formed : ℕ → ℕ → Bool
well_formed n w = eqb (get zero_bits w) 0 && eqb (log2size w) n && indexes.well_formed n (rd w) (wr w)

-- how many records wait
unfoldable pub distance : ℕ → ℕ
distance w = indexes.distance (log2size w) (rd w) (wr w)

unfoldable pub is_empty : ℕ → Bool
is_empty w = eqb (rd w) (wr w)

unfoldable pub is_full : ℕ → Bool
is_full w = eqb (distance w) (indexes.slots (log2size w))

-- the slot of the oldest record, and the one that the next record goes to
unfoldable pub oldest : ℕ → ℕ
oldest w = indexes.slot (log2size w) (rd w)

unfoldable pub free : ℕ → ℕ
free w = indexes.slot (log2size w) (wr w)
