-- Document 01, One run, with document 02, T-11: the memory that a run works on, in its terms: the control word, and rows by their
-- number, those of the second table behind those of the first. What a run and the demands say of memory they say in these names.
-- Assumes nothing.
use Rattle.std.specs.Prelude.{◌≡◌, Bool, true, false, not, List, ℕ, ◌+◌, ◌-◌, ◌*◌, ◌≤◌, ◌<◌, eqb, ltb, length, get_or, set}
use Rattle.words.specs.Choice.{pick}
use Rattle.words.specs.Search.{count}
use Rattle.commands.specs.declared.Features.{Features}
use Rattle.commands.specs.declared.Command.{Command}
use Rattle.scopes.specs.Scopes.{in_scope}
use Rattle.image.specs.Image as image
use Rattle.regions.specs.Table as regions
use Rattle.region_scopes.specs.Scopes.{in_table}

-- the words of the kept memory, and of the second table
pub record Memory : Type 0 where
  pub kept : List ℕ
  pub table : List ℕ

abbrev pub both : List ℕ → List ℕ → Memory
both kept table = record { kept = kept; table = table }

abbrev pub control_of : Memory → ℕ
control_of m = image.control_of m.kept

-- how many rows each table has, and both
abbrev pub kept_rows : Memory → ℕ
kept_rows m = image.rows_in m.kept

abbrev pub table_rows : Memory → ℕ
table_rows m = regions.rows_in m.table

abbrev pub rows_in : Memory → ℕ
rows_in m = kept_rows m + table_rows m

-- row i is one of the first table; else it is the second's row i less those
unfoldable pub is_kept : Memory → ℕ → Bool
is_kept m i = ltb i (kept_rows m)

abbrev pub behind : Memory → ℕ → ℕ
behind m i = i - kept_rows m

-- word 0 of row i, which says whether the row is used
unfoldable pub word0 : Memory → ℕ → ℕ
word0 m i = pick (is_kept m i) (get_or m.kept (4 * i + 1) 0) (get_or m.table (2 * behind m i) 0)

-- the used ones of the first n rows
abbrev pub is_used : Memory → ℕ → Bool
is_used m i = not (eqb (word0 m i) 0)

abbrev pub used_rows : Memory → ℕ → ℕ
used_rows m n = count (is_used m) n

-- row i is in the command's scope
unfoldable pub scoped_at : Features → Command → Memory → ℕ → Bool
scoped_at f command m i =
    pick (is_kept m i) (in_scope f command (image.row_at m.kept i)) (in_table command (regions.row_at m.table (behind m i)))

-- where a run stores: the control word, or word 0 of a row
pub data Place : Type 0 where
  Control : Place
  Word0 : ℕ → Place

abbrev pub in_kept : Memory → ℕ → ℕ → Memory
in_kept m p v = record { kept = set m.kept p v; table = m.table }

abbrev pub in_second : Memory → ℕ → ℕ → Memory
in_second m p v = record { kept = m.kept; table = set m.table p v }

abbrev pub put : Memory → Place → ℕ → Memory
put m Control v = in_kept m 0 v
put m (Word0 i) v = pick (is_kept m i) (in_kept m (4 * i + 1) v) (in_second m (2 * behind m i) v)

-- the control word stored, and a row emptied
abbrev pub stored : Memory → ℕ → Memory
stored m v = put m Control v

abbrev pub cleared : Memory → ℕ → Memory
cleared m i = put m (Word0 i) 0

-- there is a word for every part of every row; of the second table that follows from how its rows are counted
abbrev pub Whole : Memory → Type 0
Whole m = 4 * kept_rows m + 1 ≤ length m.kept

pub record SameSize (m m' : Memory) : Type 0 where
  pub kept : length m.kept ≡ length m'.kept
  pub table : length m.table ≡ length m'.table

-- every word but the control word and word 0 of each of n rows is as it was
pub record Untouched (n : ℕ) (m m' : Memory) : Type 0 where
  pub kept : (p : ℕ) → (p ≡ 0 → ⊥) → ((i : ℕ) → i < n → is_kept m i ≡ true → p ≡ 4 * i + 1 → ⊥) → get_or m'.kept p 0 ≡ get_or m.kept p 0
  pub table : (p : ℕ) → ((i : ℕ) → i < n → is_kept m i ≡ false → p ≡ 2 * behind m i → ⊥) → get_or m'.table p 0 ≡ get_or m.table p 0
  pub long : SameSize m' m

-- every word but the control word is the same
pub record SameRows (a b : Memory) : Type 0 where
  pub long : length a.kept ≡ length b.kept
  pub kept : (p : ℕ) → (p ≡ 0 → ⊥) → get_or a.kept p 0 ≡ get_or b.kept p 0
  pub table : a.table ≡ b.table
