-- Packing and unpacking undo each other: fields that fit come back whole, and so does a word with nothing above the pending bit.
-- Assumes nothing.
use mathlib.Core.Path.{◌≡◌, refl, sym, ap, ◌∙◌}
use mathlib.Core.Bool.{Bool, true, ◌&&◌}
use mathlib.Core.List.{[], ◌∷◌}
use Prim.Native.Nat.{ℕ, ◌+◌, ◌-◌, ◌/◌, ◌%◌, ◌^◌, ◌≤◌, ◌<◌}
use native.Mathlib.Nat.{mod-lt, mod-eq_of_lt, mod-one, div-eq_of_lt, lt_of_lt_of_le, zero-mul, zero-add}
use native.Mathlib.Omega.{arith}
use lib.Dec.{lit<}
use lib.Pow.{pow_pos, pow_mono, mod-pow-add}
use borrow.Author.Tests.{ltb-true, lt-ltb}
use Rattle.words.specs.Parts.{part, put}
use Rattle.words.specs.Ranges.{Range, get, set, Field}
use Rattle.words.proofs.Parts.{puts_keep, puts-read, puts_lt}
use Rattle.words.proofs.Truth.{left, right, and_true}
use Rattle.control.specs.declared.Fields.{Fields}
use Rattle.control.specs.Control.{rd_bits, wr_bits, err_bits, gerror_bits, gerrorn_bits, cmdqen_bits, log2size_bits, pending_bits, zero_bits, fields_of}
use Rattle.registers.specs.Registers.{in_parts, packed, fits_in, fits}

-- what fitting says, field by field
pub record Fit (f : Fields) : Type 0 where
  pub rd : f.rd < 2 ^ 20
  pub wr : f.wr < 2 ^ 20
  pub err : f.err < 2 ^ 7
  pub gerror : f.gerror < 2
  pub gerrorn : f.gerrorn < 2
  pub cmdqen : f.cmdqen < 2
  pub log2size : f.log2size < 2 ^ 5
  pub pending : f.pending < 2

module _ (f : Fields) where
  abbrev a : Bool
  a = fits_in rd_bits f.rd

  abbrev b : Bool
  b = a && fits_in wr_bits f.wr

  abbrev c : Bool
  c = b && fits_in err_bits f.err

  abbrev d : Bool
  d = c && fits_in gerror_bits f.gerror

  abbrev e : Bool
  e = d && fits_in gerrorn_bits f.gerrorn

  abbrev g : Bool
  g = e && fits_in cmdqen_bits f.cmdqen

  abbrev i : Bool
  i = g && fits_in log2size_bits f.log2size

  pub fit : fits f ≡ true → Fit f
  unfolding fits
  fit p =
      let pi = left i (fits_in pending_bits f.pending) p in
      let pg = left g (fits_in log2size_bits f.log2size) pi in
      let pe = left e (fits_in cmdqen_bits f.cmdqen) pg in
      let pd = left d (fits_in gerrorn_bits f.gerrorn) pe in
      let pc = left c (fits_in gerror_bits f.gerror) pd in
      let pb = left b (fits_in err_bits f.err) pc in
      record {
        rd = ltb-true f.rd (2 ^ 20) (left a (fits_in wr_bits f.wr) pb);
        wr = ltb-true f.wr (2 ^ 20) (right a (fits_in wr_bits f.wr) pb);
        err = ltb-true f.err (2 ^ 7) (right b (fits_in err_bits f.err) pc);
        gerror = ltb-true f.gerror 2 (right c (fits_in gerror_bits f.gerror) pd);
        gerrorn = ltb-true f.gerrorn 2 (right d (fits_in gerrorn_bits f.gerrorn) pe);
        cmdqen = ltb-true f.cmdqen 2 (right e (fits_in cmdqen_bits f.cmdqen) pg);
        log2size = ltb-true f.log2size (2 ^ 5) (right g (fits_in log2size_bits f.log2size) pi);
        pending = ltb-true f.pending 2 (right i (fits_in pending_bits f.pending) p);
      }

  pub is_fit : Fit f → fits f ≡ true
  unfolding fits
  is_fit h =
      and_true
      (and_true
      (and_true
      (and_true
      (and_true
      (and_true
      (and_true (lt-ltb f.rd (2 ^ 20) h.rd) (lt-ltb f.wr (2 ^ 20) h.wr))
      (lt-ltb f.err (2 ^ 7) h.err))
      (lt-ltb f.gerror 2 h.gerror))
      (lt-ltb f.gerrorn 2 h.gerrorn))
      (lt-ltb f.cmdqen 2 h.cmdqen))
      (lt-ltb f.log2size (2 ^ 5) h.log2size))
      (lt-ltb f.pending 2 h.pending)

  -- nothing stands above the pending bit
  pub packed_zero : get zero_bits (packed f) ≡ 0
  unfolding packed part
  packed_zero = puts_keep (in_parts f) 0 zero_bits tt ∙ refl

  pub packed_lt : packed f < 2 ^ 64
  unfolding packed
  packed_lt = puts_lt (in_parts f) 0 tt (lit< tt)

  -- fields that fit come back
  pub unpacked : fits f ≡ true → fields_of (packed f) ≡ f
  unfolding fields_of packed
  unpacked p =
      let h = fit p in
      let field : Range → ℕ → Field = λ r v. record { at = r; value = v } in
      let rd = field rd_bits f.rd in
      let wr = field wr_bits f.wr in
      let err = field err_bits f.err in
      let gerror = field gerror_bits f.gerror in
      let gerrorn = field gerrorn_bits f.gerrorn in
      let cmdqen = field cmdqen_bits f.cmdqen in
      let size = field log2size_bits f.log2size in
      let pend = field pending_bits f.pending in
      rw (
        puts-read [] rd (wr ∷ err ∷ gerror ∷ gerrorn ∷ cmdqen ∷ size ∷ pend ∷ []) 0 tt tt h.rd,
        puts-read (rd ∷ []) wr (err ∷ gerror ∷ gerrorn ∷ cmdqen ∷ size ∷ pend ∷ []) 0 tt tt h.wr,
        puts-read (rd ∷ wr ∷ []) err (gerror ∷ gerrorn ∷ cmdqen ∷ size ∷ pend ∷ []) 0 tt tt h.err,
        puts-read (rd ∷ wr ∷ err ∷ []) gerror (gerrorn ∷ cmdqen ∷ size ∷ pend ∷ []) 0 tt tt h.gerror,
        puts-read (rd ∷ wr ∷ err ∷ gerror ∷ []) gerrorn (cmdqen ∷ size ∷ pend ∷ []) 0 tt tt h.gerrorn,
        puts-read (rd ∷ wr ∷ err ∷ gerror ∷ gerrorn ∷ []) cmdqen (size ∷ pend ∷ []) 0 tt tt h.cmdqen,
        puts-read (rd ∷ wr ∷ err ∷ gerror ∷ gerrorn ∷ cmdqen ∷ []) size (pend ∷ []) 0 tt tt h.log2size,
        puts-read (rd ∷ wr ∷ err ∷ gerror ∷ gerrorn ∷ cmdqen ∷ size ∷ []) pend [] 0 tt tt h.pending,
      )

-- a part put on top of all that stands below it
grows : (h l w : ℕ) → l ≤ h → put h l (part h l w) (w % 2 ^ l) ≡ w % 2 ^ (h + 1)
unfolding put part
grows h l w ordered =
    let width : (h + 1 - l) + l ≡ h + 1 = omega arith in
    let small : w % 2 ^ l < 2 ^ l = mod-lt w (pow_pos l) in
    let under : w % 2 ^ l < 2 ^ (h + 1) = lt_of_lt_of_le small (pow_mono {j = h + 1} (omega arith)) in
    rw (div-eq_of_lt under, mod-eq_of_lt small, mod-eq_of_lt (mod-lt (w / 2 ^ l) (pow_pos (h + 1 - l))), zero-mul, zero-add)
    (sym (mod-pow-add w (h + 1 - l) l) ∙ ap (λ (n : ℕ). w % 2 ^ n) width)

module _ (w : ℕ) where
  -- the fields of a word make what it has below bit 56
  repacked : packed (fields_of w) ≡ w % 2 ^ 56
  unfolding packed fields_of
  repacked =
      let first : set rd_bits (get rd_bits w) 0 ≡ w % 2 ^ 20 = ap (set rd_bits (get rd_bits w)) (sym (mod-one w)) ∙ grows 19 0 w (omega arith) in
      rw (first, grows 39 20 w (omega arith), grows 46 40 w (omega arith), grows 47 47 w (omega arith), grows 48 48 w (omega arith), grows 49 49 w (omega arith), grows 54 50 w (omega arith), grows 55 55 w (omega arith))

  -- a word with nothing there comes back
  pub packed-again : w < 2 ^ 56 → packed (fields_of w) ≡ w
  packed-again small = repacked ∙ mod-eq_of_lt small

  -- as a machine word with the zero part 0 has
  pub below : w < 2 ^ 64 → get zero_bits w ≡ 0 → w < 2 ^ 56
  unfolding part
  below fits zeroes = omega (arith, zeroes)
