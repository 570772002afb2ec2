-- `image_state::gather` meets its contract: the words so far are in place.
-- Assumes nothing.
use mathlib.Core.Path.{◌≡◌}
use mathlib.Core.List.{List}
use Prim.Native.Nat.{ℕ, ◌≤◌}
use lib.ListN.{length, take}
use Rattle.image_state.specs.States.{words_in}
use Rattle.image_state.proofs.gather.Given as goal

pub record SoFar (bytes out₀ out : List ℕ) (n i : ℕ) : Type 0 where
  pub within : i ≤ n
  pub long : length out ≡ length out₀
  pub same : take i out ≡ words_in bytes i

abbrev pub invariant-loop-i : goal.invariant-loop-i
invariant-loop-i l =
    SoFar l.bytes l.initial.out l.out l.n l.i
