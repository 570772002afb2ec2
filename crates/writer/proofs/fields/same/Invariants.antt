-- `writer::fields::same` meets its contract: so far each word was the same.
-- Assumes nothing.
use mathlib.Core.Path.{◌≡◌}
use Prim.Native.Nat.{ℕ, ◌≤◌, ◌<◌}
use lib.ListN.{get_or}
use Rattle.writer.specs.Layouts.{wide}
use Rattle.writer.proofs.fields.same.Given as goal

abbrev pub invariant-loop-k : goal.invariant-loop-k
invariant-loop-k l =
    (l.k ≤ wide) × ((j : ℕ) → j < l.k → get_or l.a j 0 ≡ get_or l.d j 0)
