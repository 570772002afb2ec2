-- Document 02, T-12: whether a proposed batch of invalidations leaves the rows that the original does; refusals 1, 2, 3, then 13 and 14,
-- then 23.
-- Assumes nothing.
use Rattle.std.specs.Prelude.{Bool, false, not, ◌&&◌, List, ℕ, zero, suc, ◌/◌, ◌%◌, None, Option, Some, Err, Ok, Result, eqb, length}
use Rattle.words.specs.Choice.{pick}
use Rattle.words.specs.Search.{lowest}
use Rattle.rows.specs.declared.Row.{Row}
use Rattle.commands.specs.declared.Features.{Features}
use Rattle.commands.specs.declared.Command.{Command}
use Rattle.commands.specs.declared.Decoded.{Decoded}
use Rattle.commands.specs.declared.Decoded.TheVariants.{Legal, Illegal}
use Rattle.commands.specs.Decoding.{decode_at}
use Rattle.scopes.specs.Scopes.{invalidates}
use Rattle.image.specs.Image as image
use Rattle.regions.specs.declared.Region.{Region}
use Rattle.regions.specs.Table as regions
use Rattle.memory.specs.Memory.{Memory, rows_in, is_kept, behind, scoped_at, cleared}
use Rattle.batches.specs.declared.Batch.{Batch}
use Rattle.batches.specs.declared.Batch.TheVariants.{Original, Proposed}
use Rattle.batches.specs.declared.CheckRefusal.{CheckRefusal}
use Rattle.batches.specs.declared.CheckRefusal.TheVariants.{Image, Table, BadBatch}
use Rattle.batches.specs.declared.Comparison.{Comparison}
use Rattle.batches.specs.declared.Comparison.TheVariants.{Same, Unfit, Differ}

-- a batch is 16 bytes for each command; it may be empty
abbrev pub is_whole : List ℕ → Bool
is_whole batch = eqb (length batch % 16) 0

abbrev pub size : List ℕ → ℕ
size batch = length batch / 16

-- a command qualifies: it is legal, and an invalidation
abbrev pub qualifies : Decoded → Bool
qualifies (Legal command) = invalidates command
qualifies (Illegal why) = false

-- the first command of a batch that does not
unfoldable pub unfit : Features → List ℕ → Option ℕ
unfit f batch = lowest (λ k. not (qualifies (decode_at f batch k))) (size batch) 0

-- a command carried out in full: of the lowest n rows, each that is in its scope goes
abbrev pub removed_at : Features → Command → ℕ → Memory → Memory
removed_at f command i m = pick (scoped_at f command m i) (cleared m i) m

unfoldable pub removed : Features → Command → ℕ → Memory → Memory
removed f command zero m = m
removed f command (suc n) m = removed_at f command n (removed f command n m)

abbrev pub carried : Features → Decoded → Memory → Memory
carried f (Legal command) m = removed f command (rows_in m) m
carried f (Illegal why) m = m

-- the first n commands of a batch one after the other, each from what those before it left; no control word is asked
unfoldable pub carried_out : Features → List ℕ → ℕ → Memory → Memory
carried_out f batch zero m = m
carried_out f batch (suc n) m = carried f (decode_at f batch n) (carried_out f batch n m)

-- the memory that the whole batch leaves
abbrev pub left : Features → List ℕ → Memory → Memory
left f batch m = carried_out f batch (size batch) m

-- rows are compared word by word
abbrev pub same_row : Row → Row → Bool
same_row a b = eqb a.w0 b.w0 && eqb a.w1 b.w1 && eqb a.w2 b.w2 && eqb a.w3 b.w3

abbrev pub same_region : Region → Region → Bool
same_region a b = eqb a.w0 b.w0 && eqb a.w1 b.w1

-- row i is another one in a than in b, rows of the second table behind those of the first
unfoldable pub differs : Memory → Memory → ℕ → Bool
differs a b i =
    not
    (pick (is_kept a i) (same_row (image.row_at a.kept i) (image.row_at b.kept i))
    (same_region (regions.row_at a.table (behind a i)) (regions.row_at b.table (behind a i))))

-- the first command that does not qualify, the original batch searched first; else the lowest row that differs; else yes
abbrev pub unfit_or : Batch → Option ℕ → Comparison → Comparison
unfit_or batch (Some k) next = Unfit batch k
unfit_or batch None next = next

abbrev pub by_row : Option ℕ → Comparison
by_row (Some i) = Differ i
by_row None = Same

unfoldable pub judged : Features → List ℕ → List ℕ → Memory → Comparison
judged f original proposed m =
    unfit_or Original (unfit f original)
    (unfit_or Proposed (unfit f proposed)
    (by_row (lowest (differs (left f original m) (left f proposed m)) (rows_in m) 0)))

-- the paper's number of each refusal
abbrev pub number : CheckRefusal → ℕ
number (Image why) = image.number why
number (Table why) = regions.number why
number BadBatch = 23

unfoldable pub check : Features → List ℕ → List ℕ → Memory → Result Comparison CheckRefusal
check f original proposed m =
    image.checked (image.check m.kept) (λ why. Err (Image why))
    (λ n. regions.checked (regions.check m.table) (λ why. Err (Table why))
    (λ r. pick (not (is_whole original && is_whole proposed)) (Err BadBatch)
    (Ok (judged f original proposed m))))
