-- Document 01, The kept memory: the indexes RD and WR of a queue of 2 ^ n slots.
-- Assumes nothing.
use Rattle.std.specs.Prelude.{ℕ, ◌+◌, ◌-◌, ◌%◌, ◌^◌, Bool, ◌&&◌, nat_le, nat_lt}

abbrev pub slots : ℕ → ℕ
slots n = 2 ^ n

-- an index counts through the slots twice before it comes round, so that a full queue differs from an empty one
abbrev pub turn : ℕ → ℕ
turn n = 2 ^ (n + 1)

unfoldable pub in_range : ℕ → ℕ → Bool
in_range n i = nat_lt i (turn n)

-- WR less RD, modulo a turn: how many commands wait
unfoldable pub distance : ℕ → ℕ → ℕ → ℕ
distance n rd wr = (wr + turn n - rd % turn n) % turn n

unfoldable pub slot : ℕ → ℕ → ℕ
slot n rd = rd % slots n

unfoldable pub next : ℕ → ℕ → ℕ
next n rd = (rd + 1) % turn n

-- both in range, and at most a full queue apart
unfoldable pub well_formed : ℕ → ℕ → ℕ → Bool
well_formed n rd wr = in_range n rd && in_range n wr && nat_le (distance n rd wr) (slots n)
