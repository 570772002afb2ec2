-- Document 02, T-11: a row of the second lent table, a cached region of the device permission table, in two words.
-- Assumes nothing.
use Rattle.std.specs.Prelude.{ℕ, ◌%◌, ◌^◌, Bool, ◌&&◌, ◌||◌, List, [], ◌∷◌, eqb, ltb, length, get_or}
use Rattle.words.specs.Ranges.{Range, bits, get}
use Rattle.regions.specs.declared.Region.{Region}

-- the sizes by code, as powers of two: 4KB, 16KB, 64KB, 2MB, 32MB, 512MB, 1GB, 16GB, 64GB, 512GB; a further code is Reserved
abbrev pub sizes : List ℕ
sizes = 12 ∷ 14 ∷ 16 ∷ 21 ∷ 25 ∷ 29 ∷ 30 ∷ 34 ∷ 36 ∷ 39 ∷ []

abbrev pub is_known : ℕ → Bool
is_known code = ltb code (length sizes)

unfoldable pub log2_size : ℕ → ℕ
log2_size code = get_or sizes code 0

abbrev pub bytes : ℕ → ℕ
bytes code = 2 ^ log2_size code

-- word 0
abbrev pub valid_bits : Range
valid_bits = bits 0 0

abbrev pub last_bits : Range
last_bits = bits 1 1

abbrev pub size_bits : Range
size_bits = bits 5 2

abbrev pub zero_bits : Range
zero_bits = bits 63 6

abbrev pub is_last : Region → Bool
is_last row = eqb (get last_bits row.w0) 1

abbrev pub size_code : Region → ℕ
size_code row = get size_bits row.w0

-- word 1
abbrev pub base : Region → ℕ
base row = row.w1

-- how many bytes it covers, from its base on
abbrev pub extent : Region → ℕ
extent row = bytes (size_code row)

-- an empty row; its base is free
abbrev pub is_empty : Region → Bool
is_empty row = eqb row.w0 0

-- bases have this many bits, and are multiples of their size
abbrev pub address_bits : ℕ
address_bits = 52

unfoldable pub placed : Region → Bool
placed row = ltb (base row) (2 ^ address_bits) && eqb (base row % extent row) 0

unfoldable pub well_formed : Region → Bool
well_formed row =
    is_empty row
    || (eqb (get valid_bits row.w0) 1 && eqb (get zero_bits row.w0) 0 && is_known (size_code row) && placed row)
