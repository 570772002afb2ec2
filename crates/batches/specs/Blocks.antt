-- How the check goes without a copy: a row goes exactly if some command of the batch has it in scope, so that marks of which rows went
-- are enough. They are made for a block of rows at a time.
-- Assumes nothing.
use Rattle.std.specs.Prelude.{◌≡◌, Bool, false, not, ◌&&◌, ◌||◌, List, ℕ, zero, suc, ◌+◌, ◌-◌, ◌<◌, min, ltb, get_or}
use Rattle.std.specs.Bool.{beq}
use Rattle.commands.specs.declared.Features.{Features}
use Rattle.commands.specs.declared.Decoded.{Decoded}
use Rattle.commands.specs.declared.Decoded.TheVariants.{Legal, Illegal}
use Rattle.commands.specs.Decoding.{decode_at}
use Rattle.memory.specs.Memory.{Memory, rows_in, scoped_at}
use Rattle.batches.specs.Batches.{size}

-- row i is in the scope of a decoded command
abbrev pub takes : Features → Decoded → Memory → ℕ → Bool
takes f (Legal command) m i = scoped_at f command m i
takes f (Illegal why) m i = false

-- and of one of the first n commands of a batch
unfoldable pub taken_by : Features → List ℕ → ℕ → Memory → ℕ → Bool
taken_by f batch zero m i = false
taken_by f batch (suc n) m i = taken_by f batch n m i || takes f (decode_at f batch n) m i

abbrev pub taken : Features → List ℕ → Memory → ℕ → Bool
taken f batch m i = taken_by f batch (size batch) m i

-- one of two marks is there, and not the other
abbrev pub one : Bool → Bool → Bool
one a b = not (beq a b)

-- row i went by one of two batches only
unfoldable pub apart : Features → List ℕ → List ℕ → Memory → ℕ → Bool
apart f a b m i = one (taken f a m i) (taken f b m i)

-- the rows of a block, and how many of them there are from row base on
abbrev pub block_rows : ℕ
block_rows = 256

abbrev pub in_block : ℕ → ℕ → ℕ
in_block rows base = min (rows - base) block_rows

-- the mark of the j-th row of a block
abbrev pub mark : List Bool → ℕ → Bool
mark marks j = get_or marks j false

-- the marks of the block from row base on say which of its rows pass
pub record Marks (m : Memory) (base : ℕ) (p : ℕ → Bool) (marks : List Bool) : Type 0 where
  pub at : (j : ℕ) → j < block_rows → base + j < rows_in m → mark marks j ≡ p (base + j)

-- marks before and after, to which the rows that pass were added, of those below `rows`; and those that a command has in scope
pub record AddsBelow (rows base : ℕ) (p : ℕ → Bool) (before marks : List Bool) : Type 0 where
  pub at : (j : ℕ) → j < block_rows → mark marks j ≡ (mark before j || (ltb (base + j) rows && p (base + j)))

pub record Adds (f : Features) (d : Decoded) (m : Memory) (base : ℕ) (before marks : List Bool) : Type 0 where
  pub at : (j : ℕ) → j < block_rows → base + j < rows_in m → mark marks j ≡ (mark before j || takes f d m (base + j))
