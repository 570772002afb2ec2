-- Document 02, T-01: the recorder's words, the records that wait in them, and refusals 15 and 16.
-- Assumes nothing.
use Rattle.std.specs.Prelude.{ℕ, zero, suc, ◌+◌, ◌*◌, Bool, not, List, [], ◌∷◌, eqb, length, get_or, Err, None, Ok, Option, Result, Some}
use Rattle.words.specs.Bytes.{word_at}
use Rattle.words.specs.Choice.{pick}
use Rattle.words.specs.Search.{lowest}
use Rattle.indexes.specs.Indexes as indexes
use Rattle.events.specs.declared.Record.{Record}
use Rattle.events.specs.declared.Refusal.{Refusal}
use Rattle.events.specs.declared.Refusal.TheVariants.{BadLength, BadIndex}
use Rattle.events.specs.Word as word

-- the largest n
abbrev pub max_log2 : ℕ
max_log2 = 7

abbrev pub index_of : List ℕ → ℕ
index_of m = get_or m 0 0

-- the record of 32 bytes
unfoldable pub record_of : List ℕ → Record
record_of bytes =
    record {
      w0 = word_at bytes 0;
      w1 = word_at bytes 8;
      w2 = word_at bytes 16;
      w3 = word_at bytes 24;
    }

-- the record in slot i, counted from 0
unfoldable pub record_at : List ℕ → ℕ → Record
record_at m i =
    record {
      w0 = get_or m (4 * i + 1) 0;
      w1 = get_or m (4 * i + 2) 0;
      w2 = get_or m (4 * i + 3) 0;
      w3 = get_or m (4 * i + 4) 0;
    }

-- those in the k slots from index i on
unfoldable pub records_from : ℕ → List ℕ → ℕ → ℕ → List Record
records_from n m zero i = []
records_from n m (suc k) i = record_at m (indexes.slot n i) ∷ records_from n m k (indexes.next n i)

-- the queue as a reader sees it: the records that wait, from the oldest on
unfoldable pub waiting : List ℕ → List Record
waiting m =
    let w = index_of m in
    records_from (word.log2size w) m (word.distance w) (word.rd w)

-- 1 + 4 × 2 ^ n words; and the n for which that is so
unfoldable pub is_long : List ℕ → ℕ → Bool
is_long m n = eqb (length m) (1 + 4 * indexes.slots n)

unfoldable pub log2_of : List ℕ → Option ℕ
log2_of m = lowest (is_long m) (max_log2 + 1) 0

abbrev pub by_index : List ℕ → Option ℕ → Result ℕ Refusal
by_index m None = Err BadLength
by_index m (Some n) = pick (not (word.well_formed n (index_of m))) (Err BadIndex) (Ok n)

-- n, or the first refusal that applies
unfoldable pub check : List ℕ → Result ℕ Refusal
check m = by_index m (log2_of m)

-- 15 and 16 come first in every call: a refused recorder is answered so, an accepted one of 2 ^ n slots goes on
abbrev pub checked : {A : Type 0} → Result ℕ Refusal → (Refusal → A) → (ℕ → A) → A
checked (Err why) refused next = refused why
checked (Ok n) refused next = next n

-- the paper's number of each refusal
abbrev pub number : Refusal → ℕ
number BadLength = 15
number BadIndex = 16
