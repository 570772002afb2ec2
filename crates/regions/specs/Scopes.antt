-- Document 02, T-11, and IHI 0070, 4.6: the rows that 70 and 73 remove.
-- Assumes nothing.
use Rattle.std.specs.Prelude.{ℕ, ◌+◌, ◌*◌, ◌%◌, ◌^◌, Bool, not, ◌&&◌, eqb, leb}
use Rattle.words.specs.Parts.{part}
use Rattle.regions.specs.declared.Region.{Region}
use Rattle.regions.specs.Regions.{is_known, bytes, is_last, base, extent, is_empty}

-- SIZE, of four bits
abbrev pub size_of : ℕ → ℕ
size_of size = part 3 0 size

-- the address whose bits 55:12 a command gives as a number: 55:52 count as 0, and 12 zeros stand below
abbrev pub address_of : ℕ → ℕ
address_of page = part 39 0 page * 2 ^ 12

-- a command names a region: its SIZE is not Reserved, and its address a multiple of that
unfoldable pub names_region : ℕ → ℕ → Bool
names_region page size = is_known (size_of size) && eqb (address_of page % bytes (size_of size)) 0

-- the n bytes from a on all lie in the k bytes from b on
unfoldable pub lies_in : ℕ → ℕ → ℕ → ℕ → Bool
lies_in a n b k = leb b a && leb (a + n) (b + k)

-- Leaf 1 spares rows that are not last-level
abbrev pub spared : Region → Bool → Bool
spared row leaf = leaf && not (is_last row)

-- 70: every used row
unfoldable pub in_all : Region → Bool
in_all row = not (is_empty row)

-- 73: the used rows in the region that it names, of its SIZE at most
unfoldable pub in_region : Region → ℕ → ℕ → Bool → Bool
in_region row page size leaf =
    not (is_empty row)
    && names_region page size
    && leb (extent row) (bytes (size_of size))
    && lies_in (base row) (extent row) (address_of page) (bytes (size_of size))
    && not (spared row leaf)
