-- A fill, case by case: what it answers and leaves once the image's check and the tests before the stores are known.
-- Assumes nothing.
use mathlib.Core.Path.{◌≡◌, sym, ap, ◌∙◌}
use mathlib.Core.Bool.{true, false, not}
use mathlib.Core.List.{List}
use Prim.Native.Nat.{ℕ, ◌+◌, ◌*◌, ◌≤◌, ◌<◌}
use native.Mathlib.Omega.{arith}
use lib.ListN.{length, get_or}
use borrow.Author.Tests.{eq-eqb, ne_eqb, le-leb, lt-leb}
use Rattle.stores.specs.declared.Store.{Store}
use Rattle.stores.specs.Stores.{after_stores, Within}
use Rattle.words.specs.Outcomes.{Outcome, with, Gives}
use Rattle.rows.specs.declared.Row.{Row}
use Rattle.image.specs.declared.Refusal.{Refusal}
use Rattle.std.specs.Prelude.{Err, Ok, Result}
use Rattle.fills.specs.declared.FillRefusal.{FillRefusal}
use Rattle.image.specs.Image.{row_at, is_used, check}
use Rattle.image.proofs.Checks.{says}
use Rattle.doubles.specs.Doubles.{doubled}
use Rattle.fills.specs.declared.FillRefusal.TheVariants.{Image, NoSuchRow, RowInUse, Unfit, Doubled}
use Rattle.fills.specs.declared.Filling.{Filling}
use Rattle.fills.specs.Fills.{fill_stores, fit, report, report_of, refused, fill}

-- carried out under an allowance of k
abbrev pub done : List ℕ → ℕ → Row → ℕ → Outcome (List ℕ) (Result Filling FillRefusal)
done m row words k = with (Ok (report k)) (after_stores k (fill_stores row words) m)

-- the row is used by its word 0
module _ (m : List ℕ) (row : ℕ) where
  pub used : (get_or m (4 * row + 1) 0 ≡ 0 → ⊥) → is_used m row ≡ true
  unfolding is_used row_at
  used d = ap not (ne_eqb (get_or m (4 * row + 1) 0) 0 d)

  pub unused : get_or m (4 * row + 1) 0 ≡ 0 → is_used m row ≡ false
  unfolding is_used row_at
  unused e = ap not (eq-eqb (get_or m (4 * row + 1) 0) 0 e)

  -- a row of an accepted image lies within it
  pub inside : (n : ℕ) → check m ≡ Ok n → row < n → 4 * row + 5 ≤ length m
  inside n e h = omega (arith, ((says m).accepted n e).size.words)

-- as it is asked for once the check has answered
pub room : (m : List ℕ) {row n : ℕ} {r : Result ℕ Refusal} → r ≡ check m → r ≡ Ok n → row < n → 4 * row + 5 ≤ length m
room m {row} {n} told was h = inside m row n (sym told ∙ was) h

-- and so do all of them
pub whole : (m : List ℕ) (n : ℕ) → check m ≡ Ok n → 4 * n + 1 ≤ length m
whole m n e = omega (arith, ((says m).accepted n e).size.words)

module _ (m : List ℕ) (row : ℕ) (words : Row) (k : ℕ) where
  pub fill-image : (why : Refusal) → check m ≡ Err why → fill m row words k ≡ refused (Image why) m
  unfolding fill
  fill-image why e = rw e

  module _ (n : ℕ) (e : check m ≡ Ok n) where
    pub fill-no-row : n ≤ row → fill m row words k ≡ refused NoSuchRow m
    unfolding fill
    fill-no-row h = rw (e, le-leb n row h)

    module _ (h : row < n) where
      pub fill-in-use : is_used m row ≡ true → fill m row words k ≡ refused RowInUse m
      unfolding fill
      fill-in-use u = rw (e, lt-leb n row h, u)

      pub fill-unfit : is_used m row ≡ false → fit words ≡ false → fill m row words k ≡ refused Unfit m
      unfolding fill
      fill-unfit u t = rw (e, lt-leb n row h, u, t)

      pub fill-doubled : is_used m row ≡ false → fit words ≡ true → doubled m n words ≡ true → fill m row words k ≡ refused Doubled m
      unfolding fill
      fill-doubled u t d = rw (e, lt-leb n row h, u, t, d)

      pub fill_done : is_used m row ≡ false → fit words ≡ true → doubled m n words ≡ false → fill m row words k ≡ done m row words k
      unfolding fill
      fill_done u t d = rw (e, lt-leb n row h, u, t, d)

-- the stores of a fill, and what they are told to have left, are the contract met
pub meets-done : (m : List ℕ) (row : ℕ) {words : Row} (k : ℕ) {m' : List ℕ} {due : List Store} {r : Filling} → due ≡ fill_stores row words
    → r ≡ report_of (length due) k → m' ≡ after_stores k due m → fill m row words k ≡ done m row words k → Gives (fill m row words k) m' (Ok r)
unfolding report report_of
meets-done m row {words} k {m'} {due} {r} d e f g =
    let told : r ≡ report k = rw d at e in
    let left : m' ≡ after_stores k (fill_stores row words) m = rw d at f in
    record { answers = rw g (ap Ok told); leaves = rw g left }

-- they go into the row
pub stores_within : (m : List ℕ) (row : ℕ) (words : Row) → 4 * row + 5 ≤ length m → Within (length m) (fill_stores row words)
stores_within m row words h = (omega arith, (omega arith, (omega arith, (omega arith, tt))))
