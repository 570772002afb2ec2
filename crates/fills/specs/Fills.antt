-- Document 01, One run: filling a row. When the unit says no: refusals 7, 8 and 9, and 11 of document 02, T-02.
-- Assumes nothing.
use Rattle.std.specs.Prelude.{Bool, not, ◌&&◌, List, [], ◌∷◌, ℕ, ◌+◌, ◌*◌, leb, ltb, Err, Ok, Result}
use Rattle.words.specs.Choice.{pick}
use Rattle.words.specs.Outcomes.{Outcome, with}
use Rattle.stores.specs.declared.Store.{Store}
use Rattle.stores.specs.Stores.{after_stores}
use Rattle.rows.specs.declared.Row.{Row}
use Rattle.rows.specs.Rows.{is_empty}
use Rattle.row_forms.specs.WellFormed as rows
use Rattle.image.specs.Image as image
use Rattle.doubles.specs.Doubles.{doubled}
use Rattle.fills.specs.declared.FillEnd.{FillEnd}
use Rattle.fills.specs.declared.FillEnd.TheVariants.{Filled, Cut}
use Rattle.fills.specs.declared.Filling.{Filling}
use Rattle.fills.specs.declared.FillRefusal.{FillRefusal}
use Rattle.fills.specs.declared.FillRefusal.TheVariants.{Image, NoSuchRow, RowInUse, Unfit, Doubled}

-- the paper's number of each refusal, and of each end
abbrev pub number : FillRefusal → ℕ
number (Image why) = image.number why
number NoSuchRow = 7
number RowInUse = 8
number Unfit = 9
number Doubled = 11

abbrev pub end_number : FillEnd → ℕ
end_number Filled = 0
end_number Cut = 1

-- the stores of a fill in their order: words 1, 2 and 3, and last word 0, which makes the row a used one
abbrev pub fill_stores : ℕ → Row → List Store
fill_stores row words =
    record { at = 4 * row + 2; value = words.w1 }
    ∷ record { at = 4 * row + 3; value = words.w2 }
    ∷ record { at = 4 * row + 4; value = words.w3 }
    ∷ record { at = 4 * row + 1; value = words.w0 }
    ∷ []

-- a row may be filled with these words
unfoldable pub fit : Row → Bool
fit words = rows.well_formed words && not (is_empty words)

-- what is reported of n stores under an allowance of k: all of them, or cut after k
unfoldable pub report_of : ℕ → ℕ → Filling
report_of n k = pick (ltb k n) (record { end = Cut; stores = k }) (record { end = Filled; stores = n })

-- of a fill's four
unfoldable pub report : ℕ → Filling
report k = pick (ltb k 4) (record { end = Cut; stores = k }) (record { end = Filled; stores = 4 })

abbrev pub refused : FillRefusal → List ℕ → Outcome (List ℕ) (Result Filling FillRefusal)
refused why m = with (Err why) m

-- 7, 8, 9 and 11 in their order, and then the stores
unfoldable pub fill : List ℕ → ℕ → Row → ℕ → Outcome (List ℕ) (Result Filling FillRefusal)
fill m row words k =
    image.checked (image.check m) (λ why. refused (Image why) m)
    (λ n. pick (leb n row) (refused NoSuchRow m)
    (pick (image.is_used m row) (refused RowInUse m)
    (pick (not (fit words)) (refused Unfit m)
    (pick (doubled m n words) (refused Doubled m)
    (with (Ok (report k)) (after_stores k (fill_stores row words) m))))))
