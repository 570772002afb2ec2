-- A worked example of the definitions, computed: a ring of one slot, filled, overrun, read and acknowledged.
-- Assumes nothing.
use mathlib.Core.Path.{◌≡◌, refl}
use mathlib.Core.List.{List, [], ◌∷◌}
use Prim.Native.Nat.{ℕ, zero, suc}
use Rattle.words.specs.Parts.{part, put}
use Rattle.words.specs.Bytes.{word_at}
use Rattle.words.specs.Search.{lowest}
use Rattle.stores.specs.Stores.{after_stores}
use Rattle.indexes.specs.Indexes as indexes
use Rattle.events.specs.Word as word
use Rattle.events.specs.Stores as stores
use Rattle.events.specs.Events as events
use Rattle.event_calls.specs.Calls as calls
use Rattle.event_calls.specs.Told.{Call, Write, Read, Acknowledge, leaves_all}

-- bytes 1, 2, 3 and so on
abbrev counting : ℕ → ℕ → List ℕ
counting zero b = []
counting (suc k) b = b ∷ counting k (suc b)

-- no record, and what stands in the slot is of no account
abbrev start : List ℕ
start = 0 ∷ 7 ∷ 7 ∷ 7 ∷ 7 ∷ []

-- the record cut after two words and written again; a second dropped, which flips the flag, and a third, which does not; then the
-- first is read, and the overflow acknowledged
abbrev night : List Call
night = Write (counting 32 1) 2 ∷ Write (counting 32 1) 5 ∷ Write (counting 32 9) 1 ∷ Write (counting 32 9) 0 ∷ Read ∷ Acknowledge ∷ []

pub ends_so : leaves_all night start ≡ 0x0300_0010_0001 ∷ 0x0807_0605_0403_0201 ∷ 0x100f_0e0d_0c0b_0a09 ∷ 0x1817_1615_1413_1211 ∷ 0x201f_1e1d_1c1b_1a19 ∷ []
unfolding part put word_at lowest after_stores indexes.in_range indexes.distance indexes.slot indexes.next indexes.well_formed word.outstanding word.well_formed word.distance word.is_empty word.is_full word.oldest word.free stores.written stores.read_out stores.flipped stores.acknowledged events.record_of events.record_at events.is_long events.log2_of events.check calls.drop_stores calls.due_stores calls.end_of calls.report calls.write calls.read calls.acknowledge leaves_all
ends_so = refl
