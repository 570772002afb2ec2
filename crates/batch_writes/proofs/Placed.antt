-- The queue with commands placed in it, one after the other.
-- Assumes nothing.
use mathlib.Core.Path.{◌≡◌, refl, ap, ◌∙◌}
use mathlib.Core.List.{List}
use Prim.Native.Nat.{ℕ, zero, suc, ◌+◌, ◌-◌, ◌*◌, ◌%◌, ◌^◌, ◌≤◌, ◌<◌}
use native.Mathlib.Numerals.{add-one}
use native.Mathlib.Omega.{arith}
use lib.ListN.{length, take, drop, set}
use lib.Pow.{pow-lt}
use Rattle.words.proofs.Parts.{part_lt}
use Rattle.indexes.specs.Indexes as indexes
use Rattle.indexes.proofs.Laws as indexed
use Rattle.control.specs.Control as control
use Rattle.control.specs.Control.{wr_bits, log2size_bits, rd, wr, log2size}
use Rattle.control_stores.specs.Stores.{rung}
use Rattle.commands.specs.declared.Coded.{Coded}
use Rattle.writer.specs.Layouts.{wide}
use Rattle.writer.specs.Writing.{encoded, split, slot_size, with_command}
use Rattle.writer.proofs.Slots.{command-length}
use Rattle.batch_writes.specs.Batch.{words_of, free_in, slot_at, placed, moved_on}

-- a slot lies in the queue, and no sum on the way is too large
pub slot_inside : (w i : ℕ) → slot_at w i < 2 ^ log2size w
slot_inside w i = indexed.slot_lt (log2size w) (wr w + i)

pub few-slots : (w : ℕ) → 2 ^ log2size w < 2 ^ 32
few-slots w = pow-lt (part_lt log2size_bits w)

pub wr-small : (w : ℕ) → wr w < 2 ^ 20
wr-small w = part_lt wr_bits w

module _ (ws : List ℕ) (w : ℕ) (queue : List ℕ) where
  pub placed-length : (n : ℕ) → length (placed ws w queue n) ≡ length queue
  unfolding placed
  placed-length zero = refl
  placed-length (suc n) = command-length (placed ws w queue n) (slot_size * slot_at w n) (split (encoded (words_of ws n))) ∙ placed-length n

  -- the first i are in their slots
  pub record Placing (n i : ℕ) (now : List ℕ) : Type 0 where
    pub within : i ≤ n
    pub so_far : now ≡ placed ws w queue i

  pub begins : (n : ℕ) → Placing n 0 queue
  unfolding placed
  begins n = record { within = omega arith; so_far = refl }

  module _ (n i : ℕ) (now : List ℕ) (p : Placing n i now) where
    pub same_size : length now ≡ length queue
    same_size = ap length p.so_far ∙ placed-length i

    pub again : (next : List ℕ) → i < n → next ≡ with_command now (slot_size * slot_at w i) (split (encoded (words_of ws i))) → Placing n (i + 1) next
    unfolding placed
    again next h e =
        record {
          within = omega arith;
          so_far = rw add-one (e ∙ ap (λ (l : List ℕ). with_command l (slot_size * slot_at w i) (split (encoded (words_of ws i)))) p.so_far);
        }

    pub all_placed : n ≤ i → now ≡ placed ws w queue n
    all_placed h = let same : i ≡ n = omega (arith, p.within) in p.so_far ∙ ap (placed ws w queue) same

-- as the code comes to them: the free slots, a slot's place, the words of a command, the doorbell's word
module _ (w n r v d s : ℕ) (a : n ≡ log2size w) (b : r ≡ rd w) (c : v ≡ wr w) (e : d ≡ indexes.distance n r v) (f : s ≡ 2 ^ n) where
  pub free-is : s - d ≡ free_in w
  unfolding control.distance
  free-is = rw (f, e, c, b, a)

  pub free-none : s < d → 0 ≡ free_in w
  free-none h = let z : 0 ≡ s - d = omega arith in z ∙ free-is

module _ (w i s : ℕ) (is : s ≡ slot_at w i) where
  pub slot-fits : slot_size * s < 2 ^ 64
  slot-fits = omega (arith, is, slot_inside w i, few-slots w)

  pub slot-room : (queue : List ℕ) → length queue ≡ slot_size * 2 ^ log2size w → slot_size * s + slot_size ≤ length queue
  slot-room queue long = omega (arith, is, slot_inside w i)

  pub one_placed : (queue ws now : List ℕ) (c : Coded) → c ≡ split (encoded (take (wide * i + wide - wide * i) (drop (wide * i) ws)))
      → now ≡ with_command queue (slot_size * s) c → now ≡ with_command queue (slot_size * slot_at w i) (split (encoded (words_of ws i)))
  one_placed queue ws now c e leaves =
      let sixteen : wide * i + wide - wide * i ≡ wide = omega arith in
      rw (leaves, is, e, sixteen)

pub rings : (l : List ℕ) (w n v g p x : ℕ) → v ≡ wr w → g ≡ log2size w → p ≡ 2 ^ (g + 1) → x ≡ rung w ((v + n) % p) → set l 0 x ≡ set l 0 (moved_on w n)
unfolding moved_on
rings l w n v g p x a b c e = rw (e, c, b, a)
