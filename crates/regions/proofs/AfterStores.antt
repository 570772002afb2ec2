-- What a single store leaves as it was, and that the table stays accepted.
-- Assumes nothing.
use mathlib.Core.Path.{◌≡◌, refl, sym, ap, ◌∙◌}
use mathlib.Core.Bool.{true, not}
use mathlib.Core.List.{List}
use Prim.Native.Nat.{ℕ, suc, ◌+◌, ◌*◌, ◌≤◌, ◌<◌}
use native.Mathlib.Decide.{ℕ_discrete}
use native.Mathlib.Omega.{arith}
use lib.Dec.{eqb}
use lib.ListN.{length, get_or, set, length-set}
use lib.Seq.{get_or-set_same, get_or-set_other}
use Rattle.words.proofs.Search.{count_same, count_less}
use Rattle.regions.specs.declared.Region.{Region}
use Rattle.regions.specs.Regions.{is_empty, well_formed}
use Rattle.regions.specs.Table.{row_at, is_used, used_rows}
use Rattle.regions.proofs.Checks.{Accepts}

-- a word of row j
pub record InRow (j p : ℕ) : Type 0 where
  pub from : 2 * j ≤ p
  pub to : p ≤ 2 * j + 1

-- a store outside a row leaves it
pub row_kept : (t : List ℕ) (p v j : ℕ) → (InRow j p → ⊥) → row_at (set t p v) j ≡ row_at t j
unfolding row_at
row_kept t p v j out =
    let kept : (q : ℕ) → 2 * j ≤ q → q ≤ 2 * j + 1 → get_or (set t p v) q 0 ≡ get_or t q 0 =
    λ q a b. get_or-set_other t p q v 0 (λ e. out (record { from = omega arith; to = omega arith })) in
    rw (kept (2 * j) (omega arith) (omega arith), kept (2 * j + 1) (omega arith) (omega arith))

-- row i with word 0 emptied
pub emptied : Region → Region
emptied row = record { w0 = 0; w1 = row.w1 }

abbrev pub cleared : List ℕ → ℕ → List ℕ
cleared t i = set t (2 * i) 0

module _ (t : List ℕ) (i : ℕ) where
  pub cleared-row : 2 * i < length t → row_at (cleared t i) i ≡ emptied (row_at t i)
  unfolding row_at emptied
  cleared-row h = rw (get_or-set_same t (2 * i) 0 0 h, get_or-set_other t (2 * i) (2 * i + 1) 0 0 (omega arith))

  pub cleared-other : (j : ℕ) → (j ≡ i → ⊥) → row_at (cleared t i) j ≡ row_at t j
  cleared-other j d = row_kept t (2 * i) 0 j (λ r. absurd (d (omega (arith, r.from, r.to))))

-- an emptied row is empty, and an empty row well formed
pub emptied-empty : (row : Region) → is_empty (emptied row) ≡ true
unfolding emptied
emptied-empty row = refl

pub empty-formed : (row : Region) → is_empty row ≡ true → well_formed row ≡ true
unfolding well_formed
empty-formed row e = rw e

module _ (t : List ℕ) (n : ℕ) (a : Accepts t n) where
  -- a store into row i keeps the table accepted if it keeps that row well formed
  pub row-stored : (i p v : ℕ) → InRow i p → well_formed (row_at (set t p v) i) ≡ true → Accepts (set t p v) n
  row-stored i p v r e =
      record {
        size = record { words = length-set t p v ∙ a.size.words; some = a.size.some; few = a.size.few };
        rows-formed = λ j h. each j h (ℕ_discrete j i);
      }
    where
      each : (j : ℕ) → j < n → Dec (j ≡ i) → well_formed (row_at (set t p v) j) ≡ true
      each j h (yes s) = rw s e
      each j h (no d) = rw (row_kept t p v j (λ q. d (omega (arith, q.from, q.to, r.from, r.to)))) (a.rows-formed j h)

  pub row-cleared : (i : ℕ) → i < n → Accepts (cleared t i) n
  row-cleared i h =
      row-stored i (2 * i) 0 (record { from = omega arith; to = omega arith })
      (empty-formed (row_at (cleared t i) i) (rw (cleared-row t i (omega (arith, a.size.words))) (emptied-empty (row_at t i))))

-- used rows: a store to another word than a row's word 0 keeps their number; clearing a used row takes one off
module _ (t : List ℕ) (n : ℕ) where
  pub used-kept : (p v : ℕ) → ((i : ℕ) → i < n → p ≡ 2 * i → ⊥) → used_rows (set t p v) n ≡ used_rows t n
  unfolding is_used row_at
  used-kept p v other =
      count_same (is_used (set t p v)) (is_used t) n
      (λ i h. ap (λ (w : ℕ). not (eqb w 0)) (get_or-set_other t p (2 * i) v 0 (λ e. other i h (sym e))))

  pub used-cleared : (i : ℕ) → i < n → 2 * i < length t → is_used t i ≡ true → used_rows t n ≡ suc (used_rows (cleared t i) n)
  unfolding is_used
  used-cleared i h room u =
      count_less (is_used t) (is_used (cleared t i)) n i h u
      (ap (λ (row : Region). not (is_empty row)) (cleared-row t i room) ∙ ap not (emptied-empty (row_at t i)))
      (λ j l d. ap (λ (row : Region). not (is_empty row)) (cleared-other t i j d))
