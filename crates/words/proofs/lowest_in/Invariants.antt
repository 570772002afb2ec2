-- `words::lowest_in` meets its contract: what the whole search finds, the rest of it finds.
-- Assumes nothing.
use Rattle.std.proofs.Common.{◌≡◌, ◌-◌, ◌<◌, ◌≤◌, ℕ, Bool}
use Rattle.words.specs.Search.{lowest}
use Rattle.words.proofs.lowest_in.Given as goal

abbrev pub invariant-loop-i : goal.invariant-loop-i
invariant-loop-i g l =
    (p : ℕ → Bool) → ((i : ℕ) (b : Bool) → l.from ≤ i → i < l.to → goal.F-post g l.passes i b → b ≡ p i) → lowest p (l.to - l.from) l.from ≡ lowest p (l.to - l.i) l.i
