-- A table whose every entry is a rule's value, by one test over it.
-- Assumes nothing.
use mathlib.Core.Path.{◌≡◌}
use mathlib.Core.Bool.{Bool}
use mathlib.Core.List.{List}
use Prim.Native.Nat.{ℕ, ◌<◌}
use lib.Dec.{T, eqb}
use lib.ListN.{length, get_or}
use borrow.Author.Tests.{eqb-true}
use Rattle.words.proofs.Table.{obeys, entry}

abbrev pub holds : (ℕ → ℕ) → ℕ → ℕ → Bool
holds rule k x = eqb x (rule k)

pub held : (rule : ℕ → ℕ) (xs : List ℕ) → T (obeys (holds rule) 0 xs) → (k : ℕ) → k < length xs → get_or xs k 0 ≡ rule k
held rule xs t k h = eqb-true (get_or xs k 0) (rule k) (entry (holds rule) 0 xs t k h)
