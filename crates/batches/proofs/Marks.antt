-- Marks of a block of rows, as the loops make them.
-- Assumes nothing.
use mathlib.Core.Path.{◌≡◌, refl, sym, ap, ◌∙◌}
use mathlib.Core.Bool.{Bool, true, false, not, ◌&&◌, ◌||◌}
use mathlib.Core.List.{List}
use mathlib.Core.Logic.{⊎_elim}
use Prim.Native.Nat.{ℕ, ◌+◌, ◌-◌, ◌≤◌, ◌<◌}
use native.Mathlib.Decide.{ℕ_discrete}
use native.Mathlib.Numerals.{add-one}
use native.Mathlib.Omega.{arith}
use lib.Dec.{ltb}
use lib.ListN.{length, set, length-set}
use lib.Seq.{get_or-set_same, get_or-set_other}
use borrow.Author.Tests.{lt-ltb, le-ltb, not-false}
use Rattle.words.specs.Choice.{pick}
use Rattle.words.specs.Search.{lowest}
use Rattle.std.specs.Prelude.{None, Some}
use Rattle.words.proofs.Search.{Lowest, found, none}
use Rattle.words.proofs.Truth.{less_or_not}
use Rattle.commands.specs.declared.Features.{Features}
use Rattle.commands.specs.declared.Command.{Command}
use Rattle.commands.specs.declared.Reason.{Reason}
use Rattle.commands.specs.declared.Decoded.{Decoded}
use Rattle.commands.specs.declared.Decoded.TheVariants.{Legal, Illegal}
use Rattle.commands.specs.Decoding.{decode_at}
use Rattle.scopes.specs.Scopes.{idle}
use Rattle.region_scopes.specs.Scopes.{is_regional}
use Rattle.memory.specs.Memory.{Memory, kept_rows, table_rows, rows_in, scoped_at}
use Rattle.memory.proofs.Laws.{idle-unscoped, first_alone}
use Rattle.batches.specs.Blocks.{taken_by, block_rows, in_block, mark, Marks, AddsBelow, Adds}

or_right : (a : Bool) → true ≡ (a || true)
or_right true = refl
or_right false = refl

pub or_false : (a : Bool) {b : Bool} → b ≡ false → a ≡ (a || b)
or_false true e = refl
or_false false e = sym e

-- the rows of a block up to row `end`, those in scope one after the other: below row i they are marked, the others as before
pub record Marking (p : ℕ → Bool) (rows base end : ℕ) (before marks : List Bool) (i : ℕ) : Type 0 where
  pub count : end ≡ base + in_block rows base
  pub from : base ≤ i
  pub within : i ≤ end
  pub whole : length before ≡ block_rows
  pub long : length marks ≡ length before
  pub marked : (k : ℕ) → base + k < i → mark marks k ≡ (mark before k || p (base + k))
  pub rest : (k : ℕ) → i ≤ base + k → mark marks k ≡ mark before k

pub begins : {p : ℕ → Bool} {rows base end : ℕ} {before : List Bool} → end ≡ base + in_block rows base → length before ≡ block_rows → Marking p rows base end before before base
begins count whole =
    record {
      count = count;
      from = omega arith;
      within = omega (arith, count);
      whole = whole;
      long = refl;
      marked = λ k h. absurd (omega arith);
      rest = λ k h. refl;
    }

module _ {p : ℕ → Bool} {rows base end : ℕ} {before marks : List Bool} {i : ℕ} (s : Marking p rows base end before marks i) where
  pub in_rows : i < end → end ≤ rows
  in_rows h = omega (arith, h, s.count, s.from)

  -- where none from row i on is left, all are marked
  all-marked : ((j : ℕ) → i ≤ j → j < end → p j ≡ false) → AddsBelow rows base p before marks
  all-marked none_left = record { at = λ k l. ⊎_elim (below k l) (above k l) (less_or_not (base + k) rows) }
    where
      below : (k : ℕ) → k < block_rows → base + k < rows → mark marks k ≡ (mark before k || (ltb (base + k) rows && p (base + k)))
      below k l b =
          rw (lt-ltb (base + k) rows b)
          (⊎_elim (λ h. s.marked k h)
          (λ h. s.rest k h ∙ or_false (mark before k) (none_left (base + k) h (omega (arith, s.count, l, b))))
          (less_or_not (base + k) i))

      above : (k : ℕ) → k < block_rows → rows ≤ base + k → mark marks k ≡ (mark before k || (ltb (base + k) rows && p (base + k)))
      above k l b = s.rest k (omega (arith, s.count, s.within, s.from, b)) ∙ or_false (mark before k) (rw (le-ltb (base + k) rows b))

  pub at-end : end ≤ i → AddsBelow rows base p before marks
  at-end h = all-marked (λ j a b. absurd (omega (arith, h, a, b)))

  pub none_more : lowest p (end - i) i ≡ None → AddsBelow rows base p before marks
  none_more e = all-marked (none p end i s.within e)

  -- the next row in scope
  module _ {row : ℕ} (e : lowest p (end - i) i ≡ Some row) where
    next : Lowest p end i row
    next = found p end i row s.within e

    pub row_from : base ≤ row
    row_from = omega (arith, s.from, next.from)

    pub row_below : row < end
    row_below = next.below

    pub row-past : i < row + 1
    row-past = omega (arith, next.from)

    pub in-marks : row - base < length marks
    in-marks = omega (arith, s.count, s.whole, s.long, row_from, row_below)

    pub continues : Marking p rows base end before (set marks (row - base) true) (row + 1)
    continues =
        record {
          count = s.count;
          from = omega (arith, row_from);
          within = omega (arith, row_below);
          whole = s.whole;
          long = length-set marks (row - base) true ∙ s.long;
          marked = λ k l. by_place k l (ℕ_discrete k (row - base));
          rest = λ k l. get_or-set_other marks (row - base) k true false (omega (arith, row_from, l)) ∙ s.rest k (omega (arith, l, next.from));
        }
      where
        by_place : (k : ℕ) → base + k < row + 1 → Dec (k ≡ row - base) → mark (set marks (row - base) true) k ≡ (mark before k || p (base + k))
        by_place k l (yes q) =
            let at : base + k ≡ row = omega (arith, q, row_from) in
            rw (at, next.passes, q) (get_or-set_same marks (row - base) true false in-marks ∙ or_right (mark before (row - base)))
        by_place k l (no d) =
            get_or-set_other marks (row - base) k true false d
            ∙ ⊎_elim (λ h. s.marked k h)
            (λ h. s.rest k h ∙ or_false (mark before k) (next.first (base + k) h (omega (arith, l, d, row_from))))
            (less_or_not (base + k) i)

-- a command: the rows that are looked at are enough, since those behind them are in the scope of none but 70 and 73
module _ {f : Features} {m : Memory} {base : ℕ} {before : List Bool} {d : Decoded} where
  pub adds-illegal : {why : Reason} → d ≡ Illegal why → Adds f d m base before before
  adds-illegal e = rw e (record { at = λ j h l. or_false (mark before j) refl })

  pub adds-idle : {c : Command} {t : Bool} → d ≡ Legal c → t ≡ idle f c → not t ≡ false → Adds f d m base before before
  adds-idle {c} {t} e is yes' =
      rw e (record { at = λ j h l. or_false (mark before j) (idle-unscoped f c m (base + j) (sym is ∙ not-false t yes')) })

  pub adds-rows : {c : Command} {rows : ℕ} {marks : List Bool} → d ≡ Legal c → rows ≡ pick (is_regional c) (kept_rows m + table_rows m) (kept_rows m)
      → AddsBelow rows base (scoped_at f c m) before marks → Adds f d m base before marks
  adds-rows {c} {rows} {marks} e is adds =
      rw e
      (record {
        at = λ j h l. adds.at j h ∙ ap (λ (b : Bool). mark before j || b) (⊎_elim (below j) (above j l) (less_or_not (base + j) rows));
      })
    where
      below : (j : ℕ) → base + j < rows → (ltb (base + j) rows && scoped_at f c m (base + j)) ≡ scoped_at f c m (base + j)
      below j b = rw (lt-ltb (base + j) rows b)

      above : (j : ℕ) → base + j < rows_in m → rows ≤ base + j → (ltb (base + j) rows && scoped_at f c m (base + j)) ≡ scoped_at f c m (base + j)
      above j l b = rw (le-ltb (base + j) rows b) (sym (by_table (is_regional c) refl is))
        where
          by_table : (t : Bool) → is_regional c ≡ t → rows ≡ pick t (kept_rows m + table_rows m) (kept_rows m) → scoped_at f c m (base + j) ≡ false
          by_table true r q = absurd (omega (arith, q, l, b))
          by_table false r q = first_alone f c m r (base + j) (omega (arith, q, b))

pub rows-within : (m : Memory) (c : Command) (rows : ℕ) → rows ≡ pick (is_regional c) (kept_rows m + table_rows m) (kept_rows m) → rows ≤ rows_in m
rows-within m c rows is = by_table (is_regional c) is
  where
    by_table : (t : Bool) → rows ≡ pick t (kept_rows m + table_rows m) (kept_rows m) → rows ≤ rows_in m
    by_table true q = omega (arith, q)
    by_table false q = omega (arith, q)

-- a batch, command by command
pub record Going (f : Features) (batch : List ℕ) (m : Memory) (base n : ℕ) (before marks : List Bool) (k : ℕ) : Type 0 where
  pub within : k ≤ n
  pub long : length marks ≡ length before
  pub marked : Marks m base (taken_by f batch k m) marks

pub none_yet : (f : Features) (batch : List ℕ) (m : Memory) (base n : ℕ) (marks : List Bool) → Marks m base (λ i. false) marks → Going f batch m base n marks marks 0
unfolding taken_by
none_yet f batch m base n marks s = record { within = omega arith; long = refl; marked = record { at = s.at } }

module _ {f : Features} {batch : List ℕ} {m : Memory} {base n : ℕ} {before marks : List Bool} {k : ℕ} (s : Going f batch m base n before marks k) where
  pub one_more : {marks' : List Bool} {d : Decoded} → k < n → d ≡ decode_at f batch k → length marks' ≡ length marks
      → Adds f d m base marks marks' → Going f batch m base n before marks' (k + 1)
  unfolding taken_by
  one_more h is same adds =
      record {
        within = omega arith;
        long = same ∙ s.long;
        marked = record { at = λ j b l. adds.at j b l ∙ rw (add-one k, s.marked.at j b l, is) };
      }

  pub all-commands : n ≤ k → Marks m base (taken_by f batch n m) marks
  all-commands h = let e : k ≡ n = omega (arith, s.within) in rw e at s.marked
