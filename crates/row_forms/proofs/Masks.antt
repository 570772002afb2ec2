-- The masks of the parts named for each kind of row, by one computed test.
-- Assumes nothing.
use mathlib.Core.Path.{◌≡◌}
use mathlib.Core.Bool.{Bool}
use mathlib.Core.List.{List, [], ◌∷◌}
use Prim.Native.Nat.{ℕ, ◌^◌, ◌<◌}
use lib.Bits.{bit_and}
use lib.Dec.{eqb}
use lib.ListN.{get_or}
use Rattle.words.specs.Parts.{is_set}
use Rattle.words.specs.Ranges.{named, only_in}
use Rattle.words.proofs.Table.{entry}
use Rattle.words.proofs.Masks.{exact, masked}
use Rattle.row_forms.specs.WellFormed.{named_parts}

abbrev pub masks : List ℕ
masks =
    0x7ef ∷ 0xffffffff ∷ 0 ∷ 0
    ∷ 0xf ∷ 0xffffffff ∷ 0 ∷ 0
    ∷ 0xffffffff1fff ∷ 0 ∷ 0xffffffffffffffff ∷ 0
    ∷ 0xffff07ef ∷ 0 ∷ 0xffffffffffffffff ∷ 0
    ∷ 0x7fff0000ffff000f ∷ 0x700000ffffffff ∷ 0 ∷ 0
    ∷ 0xffff0000000f ∷ 0xfffffffffffff ∷ 0 ∷ 0
    ∷ 0xfffffffffff1fff ∷ 0 ∷ 0xffffffffffffffff ∷ 0xffffffffffffffff
    ∷ 0x3f0000ffff07ef ∷ 0 ∷ 0xffffffffffffffff ∷ 0xffffffffffffffff
    ∷ []

right : ℕ → ℕ → Bool
right j m = exact (named (get_or named_parts j [])) m

pub tests : (j w : ℕ) → j < 32 → w < 2 ^ 64 → eqb (bit_and w (get_or masks j 0)) w ≡ only_in (get_or named_parts j []) w
unfolding right is_set
tests j w h fit = masked (named (get_or named_parts j [])) (get_or masks j 0) w (entry right 0 masks tt j h) fit
