-- Document 01, Commands and their scopes, with document 02, T-07: the bytes that a command by address aims at, one or a range.
-- Assumes nothing.
use Rattle.std.specs.Prelude.{ℕ, ◌+◌, ◌-◌, ◌*◌, ◌/◌, ◌^◌, min, Bool, List, [], ◌∷◌, eqb, get_or}
use Rattle.words.specs.Choice.{pick}
use Rattle.words.specs.Parts.{part}
use Rattle.words.specs.Spans.{overlap}
use Rattle.rows.specs.declared.Row.{Row}
use Rattle.rows.specs.Rows as rows
use Rattle.commands.specs.declared.Target.{Target}

-- the address that a command's page names: at most 52 bits, and 12 zeros below them
abbrev pub address_of : ℕ → ℕ
address_of page = part 51 0 page * 2 ^ 12

-- TG as a number of two bits, NUM and SCALE of five
abbrev pub tg_of : Target → ℕ
tg_of target = part 1 0 target.tg

abbrev pub num_of : Target → ℕ
num_of target = part 4 0 target.num

abbrev pub scale_of : Target → ℕ
scale_of target = part 4 0 target.scale

-- the granule by TG, as a power of two: a single byte, 4 KiB, 16 KiB, 64 KiB
abbrev pub granules : List ℕ
granules = 0 ∷ 12 ∷ 14 ∷ 16 ∷ []

abbrev pub granule_of : Target → ℕ
granule_of target = get_or granules (tg_of target) 0

-- the range begins at the address, rounded down to a granule
unfoldable pub first_of : Target → ℕ
first_of target = address_of target.page / 2 ^ granule_of target * 2 ^ granule_of target

-- it has (NUM + 1) * 2 ^ SCALE granules; TG 0 is the single address
unfoldable pub length_of : Target → ℕ
length_of target = pick (eqb (tg_of target) 0) 1 ((num_of target + 1) * 2 ^ scale_of target * 2 ^ granule_of target)

-- and ends there, or else at the top of the 64-bit space
unfoldable pub end_of : Target → ℕ
end_of target = min (first_of target + length_of target) (2 ^ 64)

-- a row's span meets it
unfoldable pub reaches : Target → Row → Bool
reaches target row = overlap (first_of target) (end_of target - first_of target) row.w2 (2 ^ rows.span row)
