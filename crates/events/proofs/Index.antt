-- Each store to the index word: the part it sets, that it keeps every part beside that, and that the word stays well formed.
-- Assumes nothing.
use mathlib.Core.Path.{◌≡◌, sym, ap, ap₂, ◌∙◌}
use mathlib.Core.Bool.{true, false, not}
use Prim.Native.Nat.{ℕ, ◌-◌, ◌^◌, ◌≤◌, ◌<◌}
use native.Mathlib.Nat.{lt_of_lt_of_le}
use native.Mathlib.Omega.{arith}
use lib.Dec.{T, eqb}
use lib.Pow.{pow_mono}
use borrow.Author.Tests.{eq-eqb, ne_eqb, eqb-true, eqb-false, not-false}
use Rattle.words.specs.Ranges.{Range, get}
use Rattle.words.proofs.Parts.{apart, keeps, reads_back, part_lt}
use Rattle.indexes.specs.Indexes as indexes
use Rattle.indexes.proofs.Laws as indexed
use Rattle.events.specs.Word.{rd_bits, wr_bits, overflow_bits, overflow_ack_bits, log2size_bits, zero_bits, rd, wr, overflow, overflow_ack, log2size, outstanding, distance, is_empty, is_full}
use Rattle.events.specs.Stores.{written, read_out, flipped, acknowledged}
use Rattle.events.specs.Events.{max_log2}
use Rattle.events.proofs.Formed.{Formed}

-- outstanding goes by the two flags alone
pub same-outstanding : (w w' : ℕ) → overflow w' ≡ overflow w → overflow_ack w' ≡ overflow_ack w → outstanding w' ≡ outstanding w
unfolding outstanding
same-outstanding w w' p q = ap₂ (λ (x y : ℕ). not (eqb x y)) p q

module _ (w : ℕ) where
  -- a record written
  pub written_keeps : (r : Range) → T (apart wr_bits r) → get r (written w) ≡ get r w
  unfolding written
  written_keeps r t = keeps wr_bits (indexes.next (log2size w) (wr w)) w r t

  pub written-outstanding : outstanding (written w) ≡ outstanding w
  written-outstanding = same-outstanding w (written w) (written_keeps overflow_bits tt) (written_keeps overflow_ack_bits tt)

  -- the oldest read
  pub read_keeps : (r : Range) → T (apart rd_bits r) → get r (read_out w) ≡ get r w
  unfolding read_out
  read_keeps r t = keeps rd_bits (indexes.next (log2size w) (rd w)) w r t

  pub read-outstanding : outstanding (read_out w) ≡ outstanding w
  read-outstanding = same-outstanding w (read_out w) (read_keeps overflow_bits tt) (read_keeps overflow_ack_bits tt)

  -- the flag flipped: what was quiet is outstanding
  pub flipped-keeps : (r : Range) → T (apart overflow_bits r) → get r (flipped w) ≡ get r w
  unfolding flipped
  flipped-keeps r t = keeps overflow_bits (1 - overflow w) w r t

  pub flipped-flips : overflow (flipped w) ≡ 1 - overflow w
  unfolding flipped
  flipped-flips = reads_back overflow_bits (1 - overflow w) w tt (omega arith)

  pub flipped-outstanding : outstanding w ≡ false → outstanding (flipped w) ≡ true
  unfolding outstanding
  flipped-outstanding e =
      let same : overflow w ≡ overflow_ack w = eqb-true (overflow w) (overflow_ack w) (not-false (eqb (overflow w) (overflow_ack w)) e) in
      ap not
      (ne_eqb (overflow (flipped w)) (overflow_ack (flipped w))
      (λ q. omega (arith, q, flipped-flips, flipped-keeps overflow_ack_bits tt, same, part_lt overflow_bits w)))

  -- the overflow acknowledged
  pub acknowledged-keeps : (r : Range) → T (apart overflow_ack_bits r) → get r (acknowledged w) ≡ get r w
  unfolding acknowledged
  acknowledged-keeps r t = keeps overflow_ack_bits (overflow w) w r t

  pub acknowledged-sets : overflow_ack (acknowledged w) ≡ overflow w
  unfolding acknowledged
  acknowledged-sets = reads_back overflow_ack_bits (overflow w) w tt (part_lt overflow_bits w)

  pub acknowledged-quiet : outstanding (acknowledged w) ≡ false
  unfolding outstanding
  acknowledged-quiet =
      ap not (eq-eqb (overflow (acknowledged w)) (overflow_ack (acknowledged w)) (acknowledged-keeps overflow_bits tt ∙ sym acknowledged-sets))

module _ (n w : ℕ) (small : n ≤ max_log2) (f : Formed n w) where
  abbrev pub held : ℕ
  held = indexes.distance n (rd w) (wr w)

  -- an index in range fits its part
  index-fits : (i : ℕ) → i < indexes.turn n → i < 2 ^ 20
  index-fits i h = lt_of_lt_of_le h (pow_mono {j = 20} (omega arith))

  pub distance-held : distance w ≡ held
  unfolding distance
  distance-held = ap (λ (k : ℕ). indexes.distance k (rd w) (wr w)) f.size

  -- what the tests for full and empty say
  pub has_room : is_full w ≡ false → held < indexes.slots n
  unfolding is_full distance
  has_room e =
      let other : (held ≡ indexes.slots n → ⊥) = rw f.size at (eqb-false (indexes.distance (log2size w) (rd w) (wr w)) (indexes.slots (log2size w)) e) in
      omega (arith, other, f.waiting.apart)

  pub is_held : is_full w ≡ true → held ≡ indexes.slots n
  unfolding is_full distance
  is_held e = rw f.size at (eqb-true (indexes.distance (log2size w) (rd w) (wr w)) (indexes.slots (log2size w)) e)

  pub some-waits : is_empty w ≡ false → rd w ≡ wr w → ⊥
  unfolding is_empty
  some-waits e = eqb-false (rd w) (wr w) e

  pub written-sets : wr (written w) ≡ indexes.next n (wr w)
  unfolding written
  written-sets =
      reads_back wr_bits (indexes.next (log2size w) (wr w)) w tt (rw f.size (index-fits (indexes.next n (wr w)) (indexed.next-lt n (wr w))))
      ∙ ap (λ (k : ℕ). indexes.next k (wr w)) f.size

  pub read-sets : rd (read_out w) ≡ indexes.next n (rd w)
  unfolding read_out
  read-sets =
      reads_back rd_bits (indexes.next (log2size w) (rd w)) w tt (rw f.size (index-fits (indexes.next n (rd w)) (indexed.next-lt n (rd w))))
      ∙ ap (λ (k : ℕ). indexes.next k (rd w)) f.size

  pub written-formed : is_full w ≡ false → Formed n (written w)
  written-formed e =
      record {
        zeroes = written_keeps w zero_bits tt ∙ f.zeroes;
        size = written_keeps w log2size_bits tt ∙ f.size;
        waiting = rw (written_keeps w rd_bits tt, written-sets) (indexed.formed-more n (rd w) (wr w) f.waiting (has_room e));
      }

  pub read-formed : is_empty w ≡ false → Formed n (read_out w)
  read-formed e =
      record {
        zeroes = read_keeps w zero_bits tt ∙ f.zeroes;
        size = read_keeps w log2size_bits tt ∙ f.size;
        waiting = rw (read-sets, read_keeps w wr_bits tt) (indexed.formed-next n (rd w) (wr w) f.waiting (some-waits e));
      }

  pub flipped-formed : Formed n (flipped w)
  flipped-formed =
      record {
        zeroes = flipped-keeps w zero_bits tt ∙ f.zeroes;
        size = flipped-keeps w log2size_bits tt ∙ f.size;
        waiting = rw (flipped-keeps w rd_bits tt, flipped-keeps w wr_bits tt) f.waiting;
      }

  pub acknowledged-formed : Formed n (acknowledged w)
  acknowledged-formed =
      record {
        zeroes = acknowledged-keeps w zero_bits tt ∙ f.zeroes;
        size = acknowledged-keeps w log2size_bits tt ∙ f.size;
        waiting = rw (acknowledged-keeps w rd_bits tt, acknowledged-keeps w wr_bits tt) f.waiting;
      }
