-- What a well-formed index word is, part by part.
-- Assumes nothing.
use mathlib.Core.Path.{◌≡◌}
use mathlib.Core.Bool.{true, ◌&&◌}
use Prim.Native.Nat.{ℕ, ◌<◌}
use lib.Dec.{eqb}
use borrow.Author.Tests.{eqb-true, eq-eqb}
use Rattle.words.specs.Ranges.{get}
use Rattle.words.proofs.Truth.{left, right, and_true}
use Rattle.indexes.specs.Indexes as indexes
use Rattle.indexes.proofs.Laws as indexed
use Rattle.events.specs.Word.{zero_bits, rd, wr, log2size, well_formed, oldest, free}

pub record Formed (n w : ℕ) : Type 0 where
  pub zeroes : get zero_bits w ≡ 0
  pub size : log2size w ≡ n
  pub waiting : indexed.Formed n (rd w) (wr w)

module _ (n w : ℕ) where
  pub formed : well_formed n w ≡ true → Formed n w
  unfolding well_formed
  formed p =
      let a = eqb (get zero_bits w) 0 in
      let b = eqb (log2size w) n in
      let c = indexes.well_formed n (rd w) (wr w) in
      let two = left (a && b) c p in
      record {
        zeroes = eqb-true (get zero_bits w) 0 (left a b two);
        size = eqb-true (log2size w) n (right a b two);
        waiting = indexed.formed n (rd w) (wr w) (right (a && b) c p);
      }

  pub is_formed : Formed n w → well_formed n w ≡ true
  unfolding well_formed
  is_formed f =
      and_true (and_true (eq-eqb (get zero_bits w) 0 f.zeroes) (eq-eqb (log2size w) n f.size))
      (indexed.is_formed n (rd w) (wr w) f.waiting)

  -- the two slots are of the ring
  pub oldest_lt : Formed n w → oldest w < indexes.slots n
  unfolding oldest
  oldest_lt f = rw f.size (indexed.slot_lt n (rd w))

  pub free_lt : Formed n w → free w < indexes.slots n
  unfolding free
  free_lt f = rw f.size (indexed.slot_lt n (wr w))
