-- Document 02, T-11: filling a row of the second lent table; refusals 13 and 14, and 7, 8 and 9 as they are read for it.
-- Assumes nothing.
use Rattle.std.specs.Prelude.{Bool, not, ◌&&◌, List, [], ◌∷◌, ℕ, ◌+◌, ◌*◌, leb, ltb, Err, Ok, Result}
use Rattle.words.specs.Choice.{pick}
use Rattle.words.specs.Outcomes.{Outcome, with}
use Rattle.stores.specs.declared.Store.{Store}
use Rattle.stores.specs.Stores.{after_stores}
use Rattle.image.specs.Image as image
use Rattle.regions.specs.declared.Region.{Region}
use Rattle.regions.specs.Regions.{is_empty, well_formed}
use Rattle.regions.specs.Table as table
use Rattle.fills.specs.declared.FillEnd.TheVariants.{Filled, Cut}
use Rattle.fills.specs.declared.Filling.{Filling}
use Rattle.region_fills.specs.declared.FillRefusal.{FillRefusal}
use Rattle.region_fills.specs.declared.FillRefusal.TheVariants.{Image, Table, NoSuchRow, RowInUse, Unfit}

-- the paper's number of each refusal; that of an end is as for other fills
abbrev pub number : FillRefusal → ℕ
number (Image why) = image.number why
number (Table why) = table.number why
number NoSuchRow = 7
number RowInUse = 8
number Unfit = 9

-- the stores of a fill in their order: the base, and last word 0, which makes the row a used one
abbrev pub fill_stores : ℕ → Region → List Store
fill_stores row words = record { at = 2 * row + 1; value = words.w1 } ∷ record { at = 2 * row; value = words.w0 } ∷ []

-- a row may be filled with these words
unfoldable pub fit : Region → Bool
fit words = well_formed words && not (is_empty words)

-- what is reported under an allowance of k: two stores, or cut after k
unfoldable pub report : ℕ → Filling
report k = pick (ltb k 2) (record { end = Cut; stores = k }) (record { end = Filled; stores = 2 })

abbrev pub refused : FillRefusal → List ℕ → Outcome (List ℕ) (Result Filling FillRefusal)
refused why t = with (Err why) t

-- 7, 8 and 9 in their order for a table t of n rows, and then the stores
unfoldable pub fill_row : List ℕ → ℕ → ℕ → Region → ℕ → Outcome (List ℕ) (Result Filling FillRefusal)
fill_row t n row words k =
    pick (leb n row) (refused NoSuchRow t)
    (pick (table.is_used t row) (refused RowInUse t)
    (pick (not (fit words)) (refused Unfit t)
    (with (Ok (report k)) (after_stores k (fill_stores row words) t))))

-- 1, 2 and 3 of the kept memory m, then 13 and 14 of the table t come before them
unfoldable pub fill : List ℕ → List ℕ → ℕ → Region → ℕ → Outcome (List ℕ) (Result Filling FillRefusal)
fill m t row words k =
    image.checked (image.check m) (λ why. refused (Image why) t)
    (λ rows. table.checked (table.check t) (λ why. refused (Table why) t)
    (λ n. fill_row t n row words k))
