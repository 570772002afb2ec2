-- What a single store leaves as it was, and that the image stays accepted.
-- Assumes nothing.
use mathlib.Core.Path.{◌≡◌, refl, sym, ap, ◌∙◌}
use mathlib.Core.Bool.{true, not}
use mathlib.Core.List.{List}
use Prim.Native.Nat.{ℕ, suc, ◌+◌, ◌*◌, ◌≤◌, ◌<◌}
use native.Mathlib.Decide.{ℕ_discrete}
use native.Mathlib.Omega.{arith}
use lib.Dec.{eqb}
use lib.ListN.{length, get_or, set, length-set}
use lib.Seq.{get_or-set_same, get_or-set_other}
use Rattle.words.proofs.Search.{count_same, count_less}
use Rattle.control.specs.Control as control
use Rattle.rows.specs.declared.Row.{Row}
use Rattle.rows.specs.Rows.{is_empty}
use Rattle.row_forms.specs.WellFormed as rows
use Rattle.image.specs.Image.{control_of, row_at, is_used, used_rows}
use Rattle.image.proofs.Checks.{Long, Accepts}

-- a word of row j
pub record InRow (j p : ℕ) : Type 0 where
  pub from : 4 * j + 1 ≤ p
  pub to : p ≤ 4 * j + 4

module _ (m : List ℕ) (p v : ℕ) where
  -- a store outside a row leaves it
  pub row_kept : (j : ℕ) → (InRow j p → ⊥) → row_at (set m p v) j ≡ row_at m j
  unfolding row_at
  row_kept j out =
      let kept : (k : ℕ) → 1 ≤ k → k ≤ 4 → get_or (set m p v) (4 * j + k) 0 ≡ get_or m (4 * j + k) 0 =
      λ k a b. get_or-set_other m p (4 * j + k) v 0 (λ e. out (record { from = omega arith; to = omega arith })) in
      rw (kept 1 (omega arith) (omega arith), kept 2 (omega arith) (omega arith), kept 3 (omega arith) (omega arith), kept 4 (omega arith) (omega arith))

  -- a store into a row leaves the control word
  pub control_kept : (p ≡ 0 → ⊥) → control_of (set m p v) ≡ control_of m
  control_kept h = get_or-set_other m p 0 v 0 (λ e. h (sym e))

-- row i with word 0 emptied
pub emptied : Row → Row
emptied row = record { w0 = 0; w1 = row.w1; w2 = row.w2; w3 = row.w3 }

abbrev pub cleared : List ℕ → ℕ → List ℕ
cleared m i = set m (4 * i + 1) 0

module _ (m : List ℕ) (i : ℕ) where
  pub cleared-row : 4 * i + 1 < length m → row_at (cleared m i) i ≡ emptied (row_at m i)
  unfolding row_at emptied
  cleared-row h =
      let kept : (k : ℕ) → 2 ≤ k → get_or (set m (4 * i + 1) 0) (4 * i + k) 0 ≡ get_or m (4 * i + k) 0 =
      λ k a. get_or-set_other m (4 * i + 1) (4 * i + k) 0 0 (omega arith) in
      rw (get_or-set_same m (4 * i + 1) 0 0 h, kept 2 (omega arith), kept 3 (omega arith), kept 4 (omega arith))

  pub cleared-other : (j : ℕ) → (j ≡ i → ⊥) → row_at (cleared m i) j ≡ row_at m j
  cleared-other j d = row_kept m (4 * i + 1) 0 j (λ r. absurd (d (omega (arith, r.from, r.to))))

  pub cleared-control : control_of (cleared m i) ≡ control_of m
  cleared-control = control_kept m (4 * i + 1) 0 (omega arith)

-- an emptied row is empty, and an empty row well formed
pub emptied-empty : (row : Row) → is_empty (emptied row) ≡ true
unfolding emptied
emptied-empty row = refl

pub empty-formed : (row : Row) → is_empty row ≡ true → rows.well_formed row ≡ true
unfolding rows.well_formed_by
empty-formed row e = rw e

module _ (m : List ℕ) (n : ℕ) (a : Accepts m n) where
  same_length : (p v : ℕ) → Long (set m p v) n
  same_length p v = record { words = length-set m p v ∙ a.size.words; some = a.size.some; few = a.size.few }

  -- a well-formed control word may take the place of another
  pub control-stored : (v : ℕ) → control.well_formed v ≡ true → Accepts (set m 0 v) n
  control-stored v e =
      record {
        size = same_length 0 v;
        control_formed = rw (get_or-set_same m 0 v 0 (omega (arith, a.size.words))) e;
        rows-formed = λ i h. rw (row_kept m 0 v i (λ r. omega (arith, r.from))) (a.rows-formed i h);
      }

  -- a store into row i keeps the image accepted if it keeps that row well formed
  pub row-stored : (i p v : ℕ) → InRow i p → rows.well_formed (row_at (set m p v) i) ≡ true → Accepts (set m p v) n
  row-stored i p v r e =
      record {
        size = same_length p v;
        control_formed = rw (control_kept m p v (omega (arith, r.from))) a.control_formed;
        rows-formed = λ j h. each j h (ℕ_discrete j i);
      }
    where
      each : (j : ℕ) → j < n → Dec (j ≡ i) → rows.well_formed (row_at (set m p v) j) ≡ true
      each j h (yes s) = rw s e
      each j h (no d) = rw (row_kept m p v j (λ q. d (omega (arith, q.from, q.to, r.from, r.to)))) (a.rows-formed j h)

  pub row-cleared : (i : ℕ) → i < n → Accepts (cleared m i) n
  row-cleared i h =
      row-stored i (4 * i + 1) 0 (record { from = omega arith; to = omega arith })
      (empty-formed (row_at (cleared m i) i) (rw (cleared-row m i (omega (arith, a.size.words))) (emptied-empty (row_at m i))))

-- used rows: a store into a row's other words, or to the control word, keeps their number; clearing a used row takes one off
module _ (m : List ℕ) (n : ℕ) where
  pub used-kept : (p v : ℕ) → ((i : ℕ) → i < n → p ≡ 4 * i + 1 → ⊥) → used_rows (set m p v) n ≡ used_rows m n
  unfolding is_used row_at
  used-kept p v other =
      count_same (is_used (set m p v)) (is_used m) n
      (λ i h. ap (λ (w : ℕ). not (eqb w 0)) (get_or-set_other m p (4 * i + 1) v 0 (λ e. other i h (sym e))))

  pub used-cleared : (i : ℕ) → i < n → 4 * i + 1 < length m → is_used m i ≡ true → used_rows m n ≡ suc (used_rows (cleared m i) n)
  unfolding is_used
  used-cleared i h room u =
      count_less (is_used m) (is_used (cleared m i)) n i h u
      (ap (λ (row : Row). not (is_empty row)) (cleared-row m i room) ∙ ap not (emptied-empty (row_at m i)))
      (λ j l d. ap (λ (row : Row). not (is_empty row)) (cleared-other m i j d))
