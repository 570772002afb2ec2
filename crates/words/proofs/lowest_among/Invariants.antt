-- `words::lowest_among` meets its contract: what the whole search finds, the rest of it finds.
-- Assumes nothing.
use Rattle.std.proofs.Common.{◌≡◌, ◌-◌, ◌<◌, ◌≤◌, ℕ, Bool, true}
use Rattle.std.specs.Prelude.{Option}
use Rattle.words.specs.Search.{lowest}
use Rattle.words.proofs.lowest_among.Given as goal

abbrev pub invariant-loop-i : goal.invariant-loop-i
invariant-loop-i g l =
    (l.from ≤ l.i)
    × ((p q : ℕ → Bool) → ((i : ℕ) (b : Bool) → l.from ≤ i → i < l.to → q i ≡ true → goal.F-post g l.passes i b → b ≡ p i)
    → ((i : ℕ) (r : Option ℕ) → l.from ≤ i → i < l.to → goal.N-post g l.next i r → r ≡ lowest q (l.to - i) i)
    → ((i : ℕ) → i < l.to → p i ≡ true → q i ≡ true)
    → lowest p (l.to - l.from) l.from ≡ lowest p (l.to - l.i) l.i)

abbrev pub decreases-loop-i : goal.decreases-loop-i
decreases-loop-i g l = l.to - l.i
