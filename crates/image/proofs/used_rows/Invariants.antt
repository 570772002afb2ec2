-- `image::used_rows` meets its contract: the count of the rows passed.
-- Assumes nothing.
use mathlib.Core.Path.{◌≡◌}
use mathlib.Core.List.{List}
use Prim.Native.Nat.{ℕ, ◌≤◌}
use Rattle.image.specs.Image.{used_rows}
use Rattle.image.proofs.used_rows.Given as goal

pub record Counted (kept : List ℕ) (used i : ℕ) : Type 0 where
  pub few : used ≤ i
  pub same : used ≡ used_rows kept i

abbrev pub invariant-loop-i : goal.invariant-loop-i
invariant-loop-i l =
    Counted l.kept l.used l.i
