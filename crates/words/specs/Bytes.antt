-- Words in memory, the lowest byte first.
-- Assumes nothing.
use Rattle.std.specs.Prelude.{ℕ, zero, suc, ◌+◌, ◌*◌, ◌/◌, ◌%◌, ◌<◌, List, [], ◌∷◌, take, drop}
use Rattle.std.proofs.lemmas.List.Edits.{sets}

-- the number whose bytes these are
abbrev pub little_endian : List ℕ → ℕ
little_endian [] = 0
little_endian (b ∷ bs) = b + 256 * little_endian bs

-- the word of eight bytes from place at on
unfoldable pub word_at : List ℕ → ℕ → ℕ
word_at bytes at = little_endian (take 8 (drop at bytes))

-- the lowest n bytes of a number
abbrev pub bytes_of : ℕ → ℕ → List ℕ
bytes_of zero w = []
bytes_of (suc n) w = w % 256 ∷ bytes_of n (w / 256)

-- each number of a list is a byte
pub data Bytes : List ℕ → Type 0 where
  none : Bytes []
  one : {b : ℕ} {bs : List ℕ} → b < 256 → Bytes bs → Bytes (b ∷ bs)

-- the bytes with the word w in the eight from place at on
unfoldable pub with_word : List ℕ → ℕ → ℕ → List ℕ
with_word bytes at w = sets bytes at (bytes_of 8 w)
