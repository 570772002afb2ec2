-- The bits that codes name as masks, a pair for the low word and the high, by the place of the code; and document 02, T-07: those of a
-- range. A proof holds them to the fields of the formats.
-- Assumes nothing.
use Rattle.std.specs.Prelude.{ℕ, Bool, ◌&&◌, ◌||◌, List, [], ◌∷◌, eqb}
use Rattle.words.specs.Choice.{pick}
use Rattle.commands.specs.declared.Features.{Features}
use Rattle.commands.specs.declared.Shape.{Shape}

-- with every feature and no range
abbrev pub named_masks : List (List ℕ)
named_masks =
    (0xfffffffffffffbff ∷ 0xffffffffffffffff ∷ [])
    ∷ (0xfffffffffffffbff ∷ 0xffffffffffffffff ∷ [])
    ∷ (0xffffffff000000ff ∷ 0x1 ∷ [])
    ∷ (0xffffffff000000ff ∷ 0x1f ∷ [])
    ∷ (0xfffffffffffff0ff ∷ 0x1 ∷ [])
    ∷ (0xffffffff000000ff ∷ 0x0 ∷ [])
    ∷ (0xffff000000ff ∷ 0x0 ∷ [])
    ∷ (0xffffffff000000ff ∷ 0x0 ∷ [])
    ∷ (0xffffffff000000ff ∷ 0xfffffffffffff001 ∷ [])
    ∷ (0xffff000000ff ∷ 0xfffffffffffff001 ∷ [])
    ∷ (0xff ∷ 0x0 ∷ [])
    ∷ (0xffff0000000000ff ∷ 0x0 ∷ [])
    ∷ (0xffff0000000000ff ∷ 0xfffffffffffff001 ∷ [])
    ∷ (0xff ∷ 0xfffffffffffff001 ∷ [])
    ∷ (0xffff000000ff ∷ 0x0 ∷ [])
    ∷ (0xffff000000ff ∷ 0xffffffffff001 ∷ [])
    ∷ (0xff ∷ 0x0 ∷ [])
    ∷ (0xffffffff0fc030ff ∷ 0xffffffffffffffff ∷ [])
    ∷ (0xff ∷ 0x0 ∷ [])
    ∷ (0xff ∷ 0xffffffffffff01 ∷ [])
    ∷ []

-- 12, 13, 22, 23, 2A
abbrev pub ranged_at : ℕ → Bool
ranged_at k = eqb k 8 || eqb k 9 || eqb k 12 || eqb k 13 || eqb k 15

abbrev pub range_masks : Features → Shape → ℕ → List ℕ
range_masks f s k =
    pick (ranged_at k && f.ril && s.ranged) (0x01f1f000 ∷ pick s.hinted 0xf80 0xf00 ∷ []) (0 ∷ 0 ∷ [])
