-- Document 01, What goes between host and unit: the queue as a reader. The kept memory: 16 bytes a slot.
-- Assumes nothing.
use Rattle.std.specs.Prelude.{ℕ, ◌+◌, ◌-◌, ◌*◌, ◌/◌, Bool, List, leb, ltb, length, None, Option, Some}
use Rattle.std.specs.Borrow.{Bor}
use Rattle.words.specs.Choice.{pick}
use Rattle.commands.specs.declared.Features.{Features}
use Rattle.commands.specs.Decoding.{decode_at}
use Rattle.reader.specs.declared.Reader.{Reader}
use Rattle.commands.specs.declared.Decoded.{Decoded}

-- where the slot at an index ends, and whether it lies wholly inside the bytes
abbrev pub slot_end : ℕ → ℕ
slot_end at = 16 * at + 16

abbrev pub is_inside : List ℕ → ℕ → Bool
is_inside bytes at = leb (slot_end at) (length bytes)

-- the command in it; any other slot is past the end
unfoldable pub read_at : Features → List ℕ → ℕ → Option Decoded
read_at f bytes at = pick (is_inside bytes at) (Some (decode_at f bytes at)) None

-- how many whole slots there are, and how many of them from an index on
abbrev pub slots : List ℕ → ℕ
slots bytes = length bytes / 16

unfoldable pub slots_left : List ℕ → ℕ → ℕ
slots_left bytes at = slots bytes - at

-- the index after one; the largest that a machine holds stays
abbrev pub largest : ℕ
largest = 0xffffffffffffffff

unfoldable pub after : ℕ → ℕ
after at = pick (ltb at largest) (at + 1) at

-- a reader at the first slot of the bytes, and one at the index after
abbrev pub begun : Bor (List ℕ) → Reader
begun bytes = record { bytes = bytes; at = 0 }

abbrev pub moved_on : Reader → Reader
moved_on r = record { bytes = r.bytes; at = after r.at }
