-- The lowest row that one of two batches alone removes, block by block.
-- Assumes nothing.
use mathlib.Core.Path.{◌≡◌, sym, ap, ap₂, ◌∙◌}
use mathlib.Core.Bool.{Bool, false}
use mathlib.Core.List.{List}
use mathlib.Core.Logic.{⊎_elim}
use Prim.Native.Nat.{ℕ, ◌+◌, ◌-◌, ◌≤◌, ◌<◌}
use native.Mathlib.Omega.{arith}
use lib.ListN.{replicate, get_or-replicate}
use Rattle.words.specs.Search.{lowest}
use Rattle.std.specs.Prelude.{None, Option, Some}
use Rattle.words.proofs.Search.{Searching, from_zero, found, none, found_lowest, is_none, lowest-same, passes}
use Rattle.words.proofs.Truth.{less_or_not}
use Rattle.commands.specs.declared.Features.{Features}
use Rattle.memory.specs.Memory.{Memory, rows_in}
use Rattle.batches.specs.Blocks.{taken, one, apart, block_rows, in_block, mark, Marks}

-- the rows of a block that differ by their marks
abbrev pub by_marks : List Bool → List Bool → ℕ → ℕ → Bool
by_marks a b base i = one (mark a (i - base)) (mark b (i - base))

-- no row is marked at first
pub unmarked : (m : Memory) (base : ℕ) → Marks m base (λ i. false) (replicate block_rows false)
unmarked m base = record { at = λ j h l. get_or-replicate block_rows j false false h }

-- marks say which rows went
module _ (f : Features) (original proposed : List ℕ) (m : Memory) (base n : ℕ) (a b : List Bool)
    (few : n ≤ block_rows) (there : base + n ≤ rows_in m) (by-original : Marks m base (taken f original m) a) (by-proposed : Marks m base (taken f proposed m) b) where
  pub by-their-marks : lowest (by_marks a b base) n base ≡ lowest (apart f original proposed m) n base
  unfolding apart
  by-their-marks = lowest-same (by_marks a b base) (apart f original proposed m) n base same
    where
      same : (i : ℕ) → base ≤ i → i < n + base → by_marks a b base i ≡ one (taken f original m i) (taken f proposed m i)
      same i from to =
          let place : base + (i - base) ≡ i = omega arith in
          ap₂ one
          (by-original.at (i - base) (omega arith) (omega arith) ∙ ap (taken f original m) place)
          (by-proposed.at (i - base) (omega arith) (omega arith) ∙ ap (taken f proposed m) place)

-- blocks one after the other: none below base differs
pub record Blocks (p : ℕ → Bool) (rows base : ℕ) : Type 0 where
  pub within : base ≤ rows
  pub none_below : (j : ℕ) → j < base → p j ≡ false

pub no_block : (p : ℕ → Bool) (rows : ℕ) → Blocks p rows 0
no_block p rows = record { within = omega arith; none_below = λ j h. absurd (omega arith) }

module _ {p : ℕ → Bool} {rows base : ℕ} (s : Blocks p rows base) where
  -- a block is in the table, and has a row
  pub block_within : {n : ℕ} → n ≡ in_block rows base → base < rows → (n ≤ block_rows) × (base + n ≤ rows) × (0 < n)
  block_within e h = (omega (arith, e), omega (arith, e), omega (arith, e))

  -- the search of the n rows from base on, as the laws of searches have it
  part : (n : ℕ) → lowest p n base ≡ lowest p (base + n - base) base
  part n = ap (λ (k : ℕ). lowest p k base) (let e : n ≡ base + n - base = omega arith in e)

  pub found-in-block : (n : ℕ) {i : ℕ} {x : (Option ℕ)} → base + n ≤ rows → x ≡ lowest p n base → x ≡ Some i → Some i ≡ lowest p rows 0
  found-in-block n {i} h e g =
      let low = found p (base + n) base i (omega arith) (sym (part n) ∙ sym e ∙ g) in
      sym
      (from_zero p rows
      ∙ found_lowest p rows 0 i
      (record {
        from = omega arith;
        below = omega (arith, low.below);
        passes = low.passes;
        first = λ j a b. ⊎_elim (λ l. s.none_below j l) (λ l. low.first j l b) (less_or_not j base);
      }))

  pub none-in-block : (n : ℕ) {x : (Option ℕ)} → base + n ≤ rows → x ≡ lowest p n base → x ≡ None → Blocks p rows (base + n)
  none-in-block n h e g =
      record {
        within = h;
        none_below = λ j b. ⊎_elim (λ l. s.none_below j l) (λ l. none p (base + n) base (omega arith) (sym (part n) ∙ sym e ∙ g) j l b) (less_or_not j base);
      }

  pub no_more : rows ≤ base → None ≡ lowest p rows 0
  no_more h = sym (from_zero p rows ∙ is_none p rows 0 (omega arith) (λ j a b. s.none_below j (omega arith)))
