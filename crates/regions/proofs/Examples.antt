-- Worked examples of 73, computed.
-- Assumes nothing.
use mathlib.Core.Path.{◌≡◌, refl}
use mathlib.Core.Bool.{Bool, true, false}
use mathlib.Core.List.{List, [], ◌∷◌, map}
use Prim.Native.Nat.{ℕ}
use Rattle.words.specs.Parts.{part}
use Rattle.regions.specs.Regions.{log2_size}
use Rattle.regions.specs.Scopes.{names_region, lies_in, in_region}

-- a row's two words, the fields of a command, and whether the row goes
pub record Try : Type 0 where
  pub w0 : ℕ
  pub w1 : ℕ
  pub page : ℕ
  pub size : ℕ
  pub leaf : Bool
  pub goes : Bool

abbrev pub tried : ℕ → ℕ → ℕ → ℕ → Bool → Bool → Try
tried w0 w1 page size leaf goes = record { w0 = w0; w1 = w1; page = page; size = size; leaf = leaf; goes = goes }

abbrev pub tries : List Try
tries =
    -- 4KB, last-level: at the address, elsewhere, empty
    tried 0x03 0x1000 1 0 true true
    ∷ tried 0x03 0x1000 2 0 true false
    ∷ tried 0x00 0x1000 1 0 false false
    -- the last 4KB of 64KB, and the first past them
    ∷ tried 0x03 0xf000 0 2 true true
    ∷ tried 0x03 0x1_0000 0 2 true false
    -- an address that is no multiple of SIZE, and a Reserved SIZE
    ∷ tried 0x03 0xf000 1 2 true false
    ∷ tried 0x03 0x1000 1 10 true false
    -- 2MB: larger than 64KB, and of that SIZE
    ∷ tried 0x0f 0x20_0000 0x200 2 true false
    ∷ tried 0x0f 0x20_0000 0x200 3 true true
    -- not last-level: spared by Leaf 1
    ∷ tried 0x01 0x1000 1 0 true false
    ∷ tried 0x01 0x1000 1 0 false true
    -- bits 55:52 count as 0
    ∷ tried 0x03 0x1000 0xf00_0000_0001 0 true true
    -- the uppermost 512GB
    ∷ tried 0x27 0xf_ff80_0000_0000 0xff_f800_0000 9 true true
    ∷ []

pub goes_so : map (λ (t : Try). in_region (record { w0 = t.w0; w1 = t.w1 }) t.page t.size t.leaf) tries ≡ map (λ (t : Try). t.goes) tries
unfolding part log2_size names_region lies_in in_region
goes_so = refl
