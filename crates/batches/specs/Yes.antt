-- Document 02, T-12: what a yes says.
-- Assumes nothing.
use Rattle.std.specs.Prelude.{◌≡◌, true, List, ℕ, ◌<◌}
use Rattle.commands.specs.declared.Features.{Features}
use Rattle.commands.specs.Decoding.{decode_at}
use Rattle.memory.specs.Memory.{Memory}
use Rattle.batches.specs.Batches.{is_whole, size, qualifies, left}

-- a batch of legal invalidations, none or more
pub record Invalidations (f : Features) (batch : List ℕ) : Type 0 where
  pub whole : is_whole batch ≡ true
  pub each : (k : ℕ) → k < size batch → qualifies (decode_at f batch k) ≡ true

-- both are, and leave the same memory: no command stores to the control word, so the rows of both tables are all that could differ
pub record Agree (f : Features) (original proposed : List ℕ) (m : Memory) : Type 0 where
  pub original_fits : Invalidations f original
  pub proposed_fits : Invalidations f proposed
  pub same : left f original m ≡ left f proposed m

-- each command of the one is, decoded, a command of the other, at whatever place
pub record Among (f : Features) (batch other : List ℕ) (k : ℕ) : Type 0 where
  pub place : ℕ
  pub below : place < size other
  pub same : decode_at f other place ≡ decode_at f batch k

abbrev pub Within : Features → List ℕ → List ℕ → Type 0
Within f batch other = (k : ℕ) → k < size batch → Among f batch other k
