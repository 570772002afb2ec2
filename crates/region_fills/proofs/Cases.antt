-- A fill, case by case: what it answers and leaves once the checks and the tests before the stores are known.
-- Assumes nothing.
use mathlib.Core.Path.{◌≡◌, ap}
use mathlib.Core.Bool.{true, false, not}
use mathlib.Core.List.{List}
use Prim.Native.Nat.{ℕ, ◌+◌, ◌*◌, ◌≤◌, ◌<◌}
use native.Mathlib.Omega.{arith}
use lib.ListN.{length, get_or}
use borrow.Author.Tests.{eq-eqb, ne_eqb, le-leb, lt-leb}
use Rattle.stores.specs.Stores.{after_stores, Within}
use Rattle.words.specs.Outcomes.{Outcome, with, Gives}
use Rattle.image.specs.declared.Refusal.{Refusal as Image-as-Refusal}
use Rattle.std.specs.Prelude.{Err, Ok, Result}
use Rattle.region_fills.specs.declared.FillRefusal.{FillRefusal}
use Rattle.image.specs.Image as image
use Rattle.regions.specs.declared.Region.{Region}
use Rattle.regions.specs.declared.Refusal.{Refusal}
use Rattle.regions.specs.Table.{row_at, is_used, check}
use Rattle.regions.proofs.Checks.{says}
use Rattle.fills.specs.declared.Filling.{Filling}
use Rattle.region_fills.specs.declared.FillRefusal.TheVariants.{Image, Table, NoSuchRow, RowInUse, Unfit}
use Rattle.region_fills.specs.Fills.{fill_stores, fit, report, refused, fill_row, fill}
use Rattle.fills.specs.Fills.{report_of}
use Rattle.stores.specs.declared.Store.{Store}

-- carried out under an allowance of k
abbrev pub done : List ℕ → ℕ → Region → ℕ → Outcome (List ℕ) (Result Filling FillRefusal)
done t row words k = with (Ok (report k)) (after_stores k (fill_stores row words) t)

-- the row is used by its word 0
module _ (t : List ℕ) (row : ℕ) where
  pub used : (get_or t (2 * row) 0 ≡ 0 → ⊥) → is_used t row ≡ true
  unfolding is_used row_at
  used d = ap not (ne_eqb (get_or t (2 * row) 0) 0 d)

  pub unused : get_or t (2 * row) 0 ≡ 0 → is_used t row ≡ false
  unfolding is_used row_at
  unused e = ap not (eq-eqb (get_or t (2 * row) 0) 0 e)

-- the rows of an accepted table lie within it
pub whole : (t : List ℕ) (n : ℕ) → check t ≡ Ok n → 2 * n ≤ length t
whole t n e = omega (arith, ((says t).accepted n e).size.words)

module _ (t : List ℕ) (n row : ℕ) (words : Region) (k : ℕ) where
  pub row-none : n ≤ row → fill_row t n row words k ≡ refused NoSuchRow t
  unfolding fill_row
  row-none h = rw (le-leb n row h)

  module _ (h : row < n) where
    pub row-in-use : is_used t row ≡ true → fill_row t n row words k ≡ refused RowInUse t
    unfolding fill_row
    row-in-use u = rw (lt-leb n row h, u)

    pub row-unfit : is_used t row ≡ false → fit words ≡ false → fill_row t n row words k ≡ refused Unfit t
    unfolding fill_row
    row-unfit u f = rw (lt-leb n row h, u, f)

    pub row_done : is_used t row ≡ false → fit words ≡ true → fill_row t n row words k ≡ done t row words k
    unfolding fill_row
    row_done u f = rw (lt-leb n row h, u, f)

module _ (m t : List ℕ) (row : ℕ) (words : Region) (k : ℕ) where
  pub fill-image : (why : Image-as-Refusal) → image.check m ≡ Err why → fill m t row words k ≡ refused (Image why) t
  unfolding fill
  fill-image why e = rw e

  module _ (rows : ℕ) (i : image.check m ≡ Ok rows) where
    pub fill-table : (why : Refusal) → check t ≡ Err why → fill m t row words k ≡ refused (Table why) t
    unfolding fill
    fill-table why e = rw (i, e)

    pub fill-goes-on : (n : ℕ) → check t ≡ Ok n → fill m t row words k ≡ fill_row t n row words k
    unfolding fill
    fill-goes-on n e = rw (i, e)

-- what holds of the outcome that a case has holds of the fill
pub as_given : {o o' : Outcome (List ℕ) (Result Filling FillRefusal)} {t' : List ℕ} {r : (Result Filling FillRefusal)} → o ≡ o' → Gives o' t' r → Gives o t' r
as_given e g = rw e g

-- and its stores, and what they are told to have left, are the case of the stores
pub meets-done : (t : List ℕ) (row : ℕ) {words : Region} (k : ℕ) {t' : List ℕ} {due : List Store} {r : Filling} → due ≡ fill_stores row words
    → r ≡ report_of (length due) k → t' ≡ after_stores k due t → Gives (done t row words k) t' (Ok r)
unfolding report report_of
meets-done t row {words} k {t'} {due} {r} d e f =
    let told : r ≡ report k = rw d at e in
    let left : t' ≡ after_stores k (fill_stores row words) t = rw d at f in
    record { answers = ap Ok told; leaves = left }

-- they go into the row
pub stores_within : (t : List ℕ) (row : ℕ) (words : Region) → 2 * row + 2 ≤ length t → Within (length t) (fill_stores row words)
stores_within t row words h = (omega arith, (omega arith, tt))
