-- How many records wait, and what full and empty say of them.
-- Assumes nothing.
use mathlib.Core.Path.{◌≡◌, refl, sym, ap, ap₂, ◌∙◌}
use mathlib.Core.Bool.{true}
use mathlib.Core.List.{List, []}
use Prim.Native.Nat.{ℕ, zero, suc, ◌≤◌}
use lib.ListN.{length}
use borrow.Author.Tests.{eq-eqb, eqb-true}
use Rattle.indexes.specs.Indexes as indexes
use Rattle.indexes.proofs.Laws as indexed
use Rattle.events.specs.Word.{rd, wr, wr_bits, log2size_bits, is_empty, is_full, oldest, free, distance}
use Rattle.events.specs.Stores.{read_out}
use Rattle.events.specs.Events.{index_of, records_from, waiting}
use Rattle.events.proofs.Checks.{Accepts}
use Rattle.events.proofs.Index.{is_held, read_keeps}
use Rattle.events.proofs.Waiting.{waiting_by}

records_count : (n : ℕ) (m : List ℕ) (k i : ℕ) → length (records_from n m k i) ≡ k
unfolding records_from
records_count n m zero i = refl
records_count n m (suc k) i = ap suc (records_count n m k (indexes.next n i))

module _ (m : List ℕ) (n : ℕ) (a : Accepts m n) where
  abbrev w : ℕ
  w = index_of m

  pub waiting-count : length (waiting m) ≡ indexes.distance n (rd w) (wr w)
  waiting-count = ap length (waiting_by n m a.size.few a.index) ∙ records_count n m (indexes.distance n (rd w) (wr w)) (rd w)

  -- at most as many as there are slots
  pub waiting-fits : length (waiting m) ≤ indexes.slots n
  waiting-fits = rw waiting-count a.index.waiting.apart

  -- full exactly if each slot holds one
  pub full-count : is_full w ≡ true → length (waiting m) ≡ indexes.slots n
  full-count e = waiting-count ∙ is_held n w a.size.few a.index e

  pub count-full : length (waiting m) ≡ indexes.slots n → is_full w ≡ true
  unfolding is_full distance
  count-full e = rw a.index.size (eq-eqb (indexes.distance n (rd w) (wr w)) (indexes.slots n) (sym waiting-count ∙ e))

  -- empty exactly if none waits
  pub empty-none : is_empty w ≡ true → waiting m ≡ []
  unfolding is_empty records_from
  empty-none e =
      let none : indexes.distance n (rd w) (wr w) ≡ 0 =
      ap (λ (i : ℕ). indexes.distance n i (wr w)) (eqb-true (rd w) (wr w) e) ∙ indexed.distance_self n (wr w) in
      waiting_by n m a.size.few a.index ∙ rw none

  pub none-empty : waiting m ≡ [] → is_empty w ≡ true
  unfolding is_empty
  none-empty e =
      eq-eqb (rd w) (wr w) (indexed.none-waits n (rd w) (wr w) a.index.waiting.rd_in a.index.waiting.wr_in (sym waiting-count ∙ ap length e))

  -- on a full ring the next slot is the oldest's, and it still is once that has been read
  pub free-oldest : is_full w ≡ true → free (read_out w) ≡ oldest w
  unfolding free oldest
  free-oldest e =
      ap₂ indexes.slot (read_keeps w log2size_bits tt) (read_keeps w wr_bits tt)
      ∙ rw a.index.size (sym (indexed.slot-full n (rd w) (wr w) (is_held n w a.size.few a.index e)))
