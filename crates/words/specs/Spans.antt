-- Spans: a first number, and how many from it on.
-- Assumes nothing.
use Rattle.std.specs.Prelude.{ℕ, ◌+◌, Bool, ◌&&◌, ltb}

-- the n numbers from a on and the k from b on, both at least one, share a number
unfoldable pub overlap : ℕ → ℕ → ℕ → ℕ → Bool
overlap a n b k = ltb a (b + k) && ltb b (a + n)
