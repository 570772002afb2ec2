-- What a well-formed control word is, part by part.
-- Assumes nothing.
use mathlib.Core.Path.{◌≡◌}
use mathlib.Core.Bool.{Bool, true, not, ◌&&◌, ◌||◌}
use Prim.Native.Nat.{ℕ, ◌^◌, ◌≤◌, ◌<◌}
use lib.Dec.{eqb, leb}
use borrow.Author.Tests.{eqb-true, eq-eqb, leb-true, le-leb}
use Rattle.words.specs.Ranges.{get}
use Rattle.words.proofs.Truth.{left, right, and_true, then_true, true_then}
use Rattle.indexes.specs.Indexes as indexes
use Rattle.indexes.proofs.Laws as indexed
use Rattle.control.specs.Control.{zero_bits, rd, wr, err, log2size, max_log2, active, well_formed, slot}

pub record Formed (w : ℕ) : Type 0 where
  pub zeroes : get zero_bits w ≡ 0
  pub small : log2size w ≤ max_log2
  pub waiting : indexed.Formed (log2size w) (rd w) (wr w)
  pub known : err w ≤ 1
  pub told : active w ≡ true → err w ≡ 1

five : (a b c d e : Bool) → (a && b && c && d && e) ≡ true → (a ≡ true) × (b ≡ true) × (c ≡ true) × (d ≡ true) × (e ≡ true)
five a b c d e p =
    let four = left (a && b && c && d) e p in
    let three = left (a && b && c) d four in
    let two = left (a && b) c three in
    (left a b two, right a b two, right (a && b) c three, right (a && b && c) d four, right (a && b && c && d) e p)

module _ (w : ℕ) where
  pub formed : well_formed w ≡ true → Formed w
  unfolding well_formed
  formed p =
      let t =
      five (eqb (get zero_bits w) 0) (leb (log2size w) max_log2) (indexes.well_formed (log2size w) (rd w) (wr w)) (leb (err w) 1)
      (not (active w) || eqb (err w) 1) p in
      record {
        zeroes = eqb-true (get zero_bits w) 0 t.0;
        small = leb-true (log2size w) max_log2 t.1;
        waiting = indexed.formed (log2size w) (rd w) (wr w) t.2;
        known = leb-true (err w) 1 t.3;
        told = λ on. eqb-true (err w) 1 (then_true t.4 on);
      }

  pub is_formed : Formed w → well_formed w ≡ true
  unfolding well_formed
  is_formed f =
      and_true
      (and_true
      (and_true
      (and_true (eq-eqb (get zero_bits w) 0 f.zeroes) (le-leb (log2size w) max_log2 f.small))
      (indexed.is_formed (log2size w) (rd w) (wr w) f.waiting))
      (le-leb (err w) 1 f.known))
      (true_then (active w) (λ on. eq-eqb (err w) 1 (f.told on)))

-- the slot is one of the queue's
pub slot_lt : (w : ℕ) → slot w < 2 ^ log2size w
unfolding slot
slot_lt w = indexed.slot_lt (log2size w) (rd w)
