-- The bits of a word.
-- Assumes nothing.
use Rattle.std.specs.Prelude.{ℕ, ◌+◌, ◌-◌, ◌*◌, ◌/◌, ◌%◌, ◌^◌, Bool, eqb}

-- the number in the bits h down to l of w
unfoldable pub part : ℕ → ℕ → ℕ → ℕ
part h l w = w / 2 ^ l % 2 ^ (h + 1 - l)

-- bit i of w is 1
unfoldable pub is_set : ℕ → ℕ → Bool
is_set i w = eqb (w / 2 ^ i % 2) 1

-- w with v in its bits h down to l: what v has above their width is left out, every other bit of w stays
unfoldable pub put : ℕ → ℕ → ℕ → ℕ → ℕ
put h l v w = w / 2 ^ (h + 1) * 2 ^ (h + 1) + (v % 2 ^ (h + 1 - l) * 2 ^ l + w % 2 ^ l)

-- two words as one number of 128 bits, the low word first
unfoldable pub joined : ℕ → ℕ → ℕ
joined lo hi = hi * 2 ^ 64 + lo
