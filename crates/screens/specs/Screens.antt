-- Document 02, T-13: quick tests of rows, and the next row that one lets through. No theorem of
-- `promises` and no contract of a call cites these: what a call did it says by the rule of the rows that it looked for.
-- Assumes nothing.
use Rattle.std.specs.Prelude.{◌≡◌, ℕ, ◌+◌, ◌-◌, ◌*◌, ◌/◌, ◌%◌, ◌^◌, ◌<◌, ◌≤◌, Bool, false, not, ◌&&◌, ◌||◌, List, [], ◌∷◌, length, ◌==◌, bit_and, bit_or, bit_xor, nat_lt, Option}
use Rattle.words.specs.Search.{lowest}
use Rattle.rows.specs.declared.Row.{Row}
use Rattle.rows.specs.Rows as rows
use Rattle.image.specs.Image.{row_at}
use Rattle.screens.specs.Places.{mask_of, stages_bits}
use Rattle.screens.specs.declared.Pattern.{Pattern}
use Rattle.screens.specs.declared.Screen.{Screen}
use Rattle.screens.specs.declared.Screen.TheVariants.{Nobody, Marked, Named, Streaming, Covering, Reaching}

-- how far a is ahead of b, around 2 ^ 64
abbrev pub ahead : ℕ → ℕ → ℕ
ahead a b = (a + 2 ^ 64 - b) % 2 ^ 64

-- what a word must be under a mask
abbrev pub under : ℕ → ℕ → Pattern
under mask value = record { mask = mask; value = value }

unfoldable pub marked : ℕ → ℕ → Row → Bool
marked mask value row = bit_and row.w0 mask == value

unfoldable pub named : ℕ → ℕ → ℕ → ℕ → Row → Bool
named mask value other rest row = bit_and row.w0 mask == value && bit_and row.w1 other == rest

-- no row of a stage
unfoldable pub streaming : ℕ → ℕ → Row → Bool
streaming mask value row =
    not (row.w0 == 0) && bit_or (bit_and row.w0 (mask_of (stages_bits ∷ []))) (bit_xor (bit_and row.w1 mask) value / 2 ^ rows.span row) == 0

unfoldable pub near : ℕ → Row → Bool
near address row = ahead address row.w2 / 2 ^ rows.span row == 0

unfoldable pub about : ℕ → ℕ → Row → Bool
about last more row = nat_lt (ahead last row.w2) ((2 ^ rows.span row + more) % 2 ^ 64)

-- of used rows
abbrev pub used : Row → Bool
used row = not (row.w0 == 0)

abbrev pub nearby : ℕ → Row → Bool
nearby address row = used row && near address row

abbrev pub touched : ℕ → ℕ → Row → Bool
touched last more row = used row && about last more row

abbrev pub covering : ℕ → ℕ → ℕ → Row → Bool
covering mask value address row = nearby address row && marked mask value row

abbrev pub reaching : ℕ → ℕ → ℕ → ℕ → Row → Bool
reaching mask value last more row = touched last more row && marked mask value row

abbrev pub passes : Screen → Row → Bool
passes Nobody row = false
passes (Marked word0) row = marked word0.mask word0.value row
passes (Named word0 word1) row = named word0.mask word0.value word1.mask word1.value row
passes (Streaming stream) row = streaming stream.mask stream.value row
passes (Covering word0 address) row = covering word0.mask word0.value address row
passes (Reaching word0 last more) row = reaching word0.mask word0.value last more row

-- the lowest row from one on, and below another
abbrev pub lowest_from : (ℕ → Bool) → ℕ → ℕ → Option ℕ
lowest_from p from to = lowest p (to - from) from

abbrev pub passes_at : Screen → List ℕ → ℕ → Bool
passes_at s kept i = passes s (row_at kept i)

abbrev pub next_of : Screen → List ℕ → ℕ → ℕ → Option ℕ
next_of s kept from to = lowest_from (passes_at s kept) from to

pub record Within (kept : List ℕ) (from to : ℕ) : Type 0 where
  pub order : from ≤ to
  pub there : 4 * to + 1 ≤ length kept

-- rows are gone past in groups
abbrev pub any_four : (ℕ → Bool) → ℕ → Bool
any_four p i = ((p i || p (i + 1)) || p (i + 2)) || p (i + 3)

pub record NoneOfEight (p : ℕ → Bool) (i : ℕ) : Type 0 where
  pub none : (j : ℕ) → i ≤ j → j < i + 8 → p j ≡ false

pub record Skips (p : ℕ → Bool) (from to r : ℕ) : Type 0 where
  pub least : from ≤ r
  pub most : r ≤ to
  pub none : (j : ℕ) → from ≤ j → j < r → p j ≡ false
