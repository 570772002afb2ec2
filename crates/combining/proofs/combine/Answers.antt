-- `combining::combine` meets its contract: one test over the whole table, read at one cell.
-- Assumes nothing.
use mathlib.Core.Path.{◌≡◌, ap₂, ◌∙◌}
use mathlib.Core.List.{List}
use Prim.Native.Nat.{ℕ, ◌+◌, ◌*◌, ◌/◌, ◌%◌, ◌<◌}
use native.Mathlib.Omega.{arith}
use lib.Arith.{digits_div, digits_mod}
use lib.Dec.{T}
use lib.ListN.{length, get_or}
use Rattle.words.specs.Parts.{part}
use Rattle.words.proofs.Table.{obeys}
use Rattle.combining.specs.Combining.{number, mem_attr_of, sh_of, combine}
use Rattle.combining.proofs.Tables.{holds, held}
use Rattle.combining.proofs.combine.Goals as goal

rule : ℕ → ℕ
rule k = combine (k / 29) (k % 29)

cell : (xs : List ℕ) (a b : ℕ) → length xs ≡ 841 → T (obeys (holds rule) 0 xs) → a < 29 → b < 29 → get_or xs (a * 29 + b) 0 ≡ combine a b
unfolding rule
cell xs a b size t h k = held rule xs t (a * 29 + b) (omega arith) ∙ ap₂ combine (digits_div a k) (digits_mod a k)

pub returns : goal.returns
unfolding rule combine number mem_attr_of sh_of part
returns c = c.from.ensures ∙ search (cell, tt)
