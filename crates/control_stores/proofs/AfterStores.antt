-- Each store to the control word: the part it sets, that it keeps every part beside that, and that the word stays well formed.
-- Assumes nothing.
use mathlib.Core.Path.{◌≡◌, sym, ap, ap₂, ◌∙◌}
use mathlib.Core.Bool.{Bool, true, false, not}
use mathlib.Core.List.{List, [], ◌∷◌}
use Prim.Native.Nat.{ℕ, ◌-◌, ◌^◌, ◌<◌}
use native.Mathlib.Nat.{lt_of_lt_of_le}
use native.Mathlib.Omega.{arith}
use lib.Dec.{T, eqb, leb, lit<}
use lib.Pow.{pow_mono}
use borrow.Author.Tests.{eq-eqb, ne_eqb, eqb-true, not-false}
use Rattle.words.specs.Choice.{pick}
use Rattle.words.specs.Ranges.{Range, get, set}
use Rattle.words.proofs.Parts.{apart, keeps, reads_back, part_lt, all_apart, puts_keep}
use Rattle.words.proofs.Truth.{left, clash}
use Rattle.indexes.specs.Indexes as indexes
use Rattle.indexes.proofs.Laws as indexed
use Rattle.control.specs.Control.{rd_bits, wr_bits, err_bits, gerror_bits, gerrorn_bits, cmdqen_bits, log2size_bits, pending_bits, zero_bits, rd, wr, err, gerror, gerrorn, cmdqen, log2size, pending, active, distance}
use Rattle.control_stores.specs.Stores.{consumed, raised, may_ring, rung, acknowledged, pended, switched}
use Rattle.control.proofs.Formed.{Formed}

-- the parts that raising the error touches
abbrev pub raises : List Range
raises = err_bits ∷ gerror_bits ∷ []

-- an index in range fits its part
index-fits : (w i : ℕ) → Formed w → i < indexes.turn (log2size w) → i < 2 ^ 20
index-fits w i f h = lt_of_lt_of_le h (pow_mono {j = 20} (omega (arith, f.small)))

-- active goes by the two error bits alone
pub same-active : (w w' : ℕ) → gerror w' ≡ gerror w → gerrorn w' ≡ gerrorn w → active w' ≡ active w
unfolding active
same-active w w' p q = ap₂ (λ (x y : ℕ). not (eqb x y)) p q

module _ (w : ℕ) where
  -- consuming
  pub consumed-keeps : (r : Range) → T (apart rd_bits r) → get r (consumed w) ≡ get r w
  unfolding consumed
  consumed-keeps r t = keeps rd_bits (indexes.next (log2size w) (rd w)) w r t

  pub consumed-sets : Formed w → rd (consumed w) ≡ indexes.next (log2size w) (rd w)
  unfolding consumed
  consumed-sets f =
      reads_back rd_bits (indexes.next (log2size w) (rd w)) w tt
      (index-fits w (indexes.next (log2size w) (rd w)) f (indexed.next-lt (log2size w) (rd w)))

  pub consumed-formed : Formed w → (rd w ≡ wr w → ⊥) → Formed (consumed w)
  consumed-formed f some =
      let n = consumed-keeps log2size_bits tt in
      record {
        zeroes = consumed-keeps zero_bits tt ∙ f.zeroes;
        small = rw n f.small;
        waiting = rw (n, consumed-sets f, consumed-keeps wr_bits tt) (indexed.formed-next (log2size w) (rd w) (wr w) f.waiting some);
        known = rw (consumed-keeps err_bits tt) f.known;
        told = λ on. consumed-keeps err_bits tt
            ∙ f.told (sym (same-active w (consumed w) (consumed-keeps gerror_bits tt) (consumed-keeps gerrorn_bits tt)) ∙ on);
      }

  -- raising
  pub raised_keeps : (r : Range) → T (all_apart raises r) → get r (raised w) ≡ get r w
  unfolding raised
  raised_keeps r t = puts_keep (record { at = err_bits; value = 1 } ∷ record { at = gerror_bits; value = 1 - gerror w } ∷ []) w r t

  pub raised-err : err (raised w) ≡ 1
  unfolding raised
  raised-err = keeps gerror_bits (1 - gerror w) (set err_bits 1 w) err_bits tt ∙ reads_back err_bits 1 w tt (lit< tt)

  pub raised-flips : gerror (raised w) ≡ 1 - gerror w
  unfolding raised
  raised-flips = reads_back gerror_bits (1 - gerror w) (set err_bits 1 w) tt (omega arith)

  pub raised-formed : Formed w → Formed (raised w)
  raised-formed f =
      let n = raised_keeps log2size_bits tt in
      record {
        zeroes = raised_keeps zero_bits tt ∙ f.zeroes;
        small = rw n f.small;
        waiting = rw (n, raised_keeps rd_bits tt, raised_keeps wr_bits tt) f.waiting;
        known = rw raised-err (omega arith);
        told = λ on. raised-err;
      }

  -- what was quiet is now active
  pub raised-active : active w ≡ false → active (raised w) ≡ true
  unfolding active
  raised-active e =
      let same : gerror w ≡ gerrorn w = eqb-true (gerror w) (gerrorn w) (not-false (eqb (gerror w) (gerrorn w)) e) in
      ap not
      (ne_eqb (gerror (raised w)) (gerrorn (raised w))
      (λ q. omega (arith, q, raised-flips, raised_keeps gerrorn_bits tt, same, part_lt gerror_bits w)))

  -- ringing
  pub rung-keeps : (v : ℕ) (r : Range) → T (apart wr_bits r) → get r (rung w v) ≡ get r w
  unfolding rung
  rung-keeps v r t = keeps wr_bits v w r t

  -- what the doorbell's test says of the new WR
  pub may-ring : (v : ℕ) → may_ring w v ≡ true → indexed.Formed (log2size w) (rd w) v
  unfolding may_ring
  may-ring v e =
      indexed.formed (log2size w) (rd w) v
      (left (indexes.well_formed (log2size w) (rd w) v) (leb (distance w) (indexes.distance (log2size w) (rd w) v)) e)

  pub rung-sets : (v : ℕ) → Formed w → may_ring w v ≡ true → wr (rung w v) ≡ v
  unfolding rung
  rung-sets v f e = reads_back wr_bits v w tt (index-fits w v f (may-ring v e).wr_in)

  pub rung-formed : (v : ℕ) → Formed w → may_ring w v ≡ true → Formed (rung w v)
  rung-formed v f e =
      let n = rung-keeps v log2size_bits tt in
      record {
        zeroes = rung-keeps v zero_bits tt ∙ f.zeroes;
        small = rw n f.small;
        waiting = rw (n, rung-keeps v rd_bits tt, rung-sets v f e) (may-ring v e);
        known = rw (rung-keeps v err_bits tt) f.known;
        told = λ on. rung-keeps v err_bits tt
            ∙ f.told (sym (same-active w (rung w v) (rung-keeps v gerror_bits tt) (rung-keeps v gerrorn_bits tt)) ∙ on);
      }

  -- acknowledging
  pub acknowledged-keeps : (r : Range) → T (apart gerrorn_bits r) → get r (acknowledged w) ≡ get r w
  unfolding acknowledged
  acknowledged-keeps r t = keeps gerrorn_bits (gerror w) w r t

  pub acknowledged-sets : gerrorn (acknowledged w) ≡ gerror w
  unfolding acknowledged
  acknowledged-sets = reads_back gerrorn_bits (gerror w) w tt (part_lt gerror_bits w)

  pub acknowledged-quiet : active (acknowledged w) ≡ false
  unfolding active
  acknowledged-quiet =
      ap not (eq-eqb (gerror (acknowledged w)) (gerrorn (acknowledged w)) (acknowledged-keeps gerror_bits tt ∙ sym acknowledged-sets))

  pub acknowledged-formed : Formed w → Formed (acknowledged w)
  acknowledged-formed f =
      let n = acknowledged-keeps log2size_bits tt in
      record {
        zeroes = acknowledged-keeps zero_bits tt ∙ f.zeroes;
        small = rw n f.small;
        waiting = rw (n, acknowledged-keeps rd_bits tt, acknowledged-keeps wr_bits tt) f.waiting;
        known = rw (acknowledged-keeps err_bits tt) f.known;
        told = λ on. clash on acknowledged-quiet;
      }

  -- enabling and disabling
  pub switched-keeps : (on : Bool) (r : Range) → T (apart cmdqen_bits r) → get r (switched w on) ≡ get r w
  unfolding switched
  switched-keeps on r t = keeps cmdqen_bits (pick on 1 0) w r t

  pub switched-sets : (on : Bool) → cmdqen (switched w on) ≡ pick on 1 0
  unfolding switched
  switched-sets true = reads_back cmdqen_bits 1 w tt (lit< tt)
  switched-sets false = reads_back cmdqen_bits 0 w tt (lit< tt)

  pub switched-formed : (on : Bool) → Formed w → Formed (switched w on)
  switched-formed on f =
      let n = switched-keeps on log2size_bits tt in
      record {
        zeroes = switched-keeps on zero_bits tt ∙ f.zeroes;
        small = rw n f.small;
        waiting = rw (n, switched-keeps on rd_bits tt, switched-keeps on wr_bits tt) f.waiting;
        known = rw (switched-keeps on err_bits tt) f.known;
        told = λ up. switched-keeps on err_bits tt
            ∙ f.told (sym (same-active w (switched w on) (switched-keeps on gerror_bits tt) (switched-keeps on gerrorn_bits tt)) ∙ up);
      }

  -- the interrupt pending, or no longer
  pub pended-keeps : (on : Bool) (r : Range) → T (apart pending_bits r) → get r (pended w on) ≡ get r w
  unfolding pended
  pended-keeps on r t = keeps pending_bits (pick on 1 0) w r t

  pub pended-sets : (on : Bool) → pending (pended w on) ≡ pick on 1 0
  unfolding pended
  pended-sets true = reads_back pending_bits 1 w tt (lit< tt)
  pended-sets false = reads_back pending_bits 0 w tt (lit< tt)

  pub pended-formed : (on : Bool) → Formed w → Formed (pended w on)
  pended-formed on f =
      let n = pended-keeps on log2size_bits tt in
      record {
        zeroes = pended-keeps on zero_bits tt ∙ f.zeroes;
        small = rw n f.small;
        waiting = rw (n, pended-keeps on rd_bits tt, pended-keeps on wr_bits tt) f.waiting;
        known = rw (pended-keeps on err_bits tt) f.known;
        told = λ up. pended-keeps on err_bits tt
            ∙ f.told (sym (same-active w (pended w on) (pended-keeps on gerror_bits tt) (pended-keeps on gerrorn_bits tt)) ∙ up);
      }
