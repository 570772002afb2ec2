-- `screens::scan::skip` meets its contract: of the numbers gone past none passes.
-- Assumes nothing.
use Rattle.std.proofs.Common.{ℕ, ◌+◌, ◌-◌, ◌≤◌, Bool, false}
use Rattle.screens.specs.Screens.{NoneOfEight, Skips}
use Rattle.screens.proofs.scan.skip.Given as goal

abbrev pub invariant-loop-i : goal.invariant-loop-i
invariant-loop-i g l =
    record {
      least : l.from ≤ l.i;
      most : l.i ≤ l.to;
      gone : (p : ℕ → Bool) → ((i : ℕ) → l.from ≤ i → i + 8 ≤ l.to → goal.F-post g l.may_pass i false → NoneOfEight p i) → Skips p l.from l.to l.i;
    }

abbrev pub decreases-loop-i : goal.decreases-loop-i
decreases-loop-i g l = l.to - l.i
