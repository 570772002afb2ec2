-- Document 02, T-10: what was written is read back as it was asked for; and what was read, written again, is the same command, but for
-- the bits of 01, 02 and 46 that are not looked at, which are 0.
-- Assumes nothing.
use mathlib.Core.Path.{◌≡◌, refl, sym, ap, ◌∙◌}
use mathlib.Core.Bool.{Bool, true, false, not, ◌&&◌, ◌||◌}
use mathlib.Core.List.{List}
use mathlib.Core.Logic.{⊎_elim}
use Prim.Native.Nat.{ℕ, zero, suc, ◌^◌, ◌<◌}
use native.Mathlib.Nat.{mod-lt, zero-div}
use native.Mathlib.Omega.{arith}
use lib.Dec.{eqb, ltb}
use lib.ListN.{length}
use lib.Pow.{pow_pos, shr_lt}
use lib.Seq.{ext_get_or}
use borrow.Author.Tests.{eqb-true, eqb-false, lt-ltb}
use Rattle.words.specs.Choice.{pick}
use Rattle.words.specs.Parts.{part, is_set, put, joined}
use Rattle.words.specs.Ranges.{Field, get, named, puts, width, set_only}
use Rattle.words.proofs.Truth.{clash, either}
use Rattle.words.proofs.Table.{all-at, at_all}
use Rattle.words.proofs.Parts.{part_lt, puts-within}
use Rattle.words.proofs.Masks.{same_bits}
use Rattle.words.proofs.Bits.{copies, copied, joined_lt}
use Rattle.commands.specs.declared.Features.{Features}
use Rattle.commands.specs.declared.Command.{Command}
use Rattle.commands.specs.declared.Command.TheVariants.{PrefetchConfig, PrefetchAddr, CfgiSte, CfgiSteRange, CfgiCd, CfgiCdAll, TlbiNhAll, TlbiNhAsid, TlbiNhVa, TlbiNhVaa, TlbiEl2All, TlbiEl2Asid, TlbiEl2Va, TlbiEl2Vaa, TlbiS12Vmall, TlbiS2Ipa, TlbiNsnhAll, Sync, DptiAll, DptiPa}
use Rattle.commands.specs.declared.Decoded.{Decoded}
use Rattle.commands.specs.declared.Decoded.TheVariants.{Legal, Illegal}
use Rattle.commands.specs.Formats.{code_bits, cs_bits, shape_of}
use Rattle.commands.specs.Decoding.{code_of, place_in, known_code, feature_present, clean, parameter_good, command_of, decode, is_illegal}
use Rattle.commands.proofs.Legality.{clean_means}
use Rattle.commands.specs.declared.Coded.{Coded}
use Rattle.writer.specs.declared.Fault.TheVariants.{Missing, Unfit}
use Rattle.std.specs.Prelude.{Err, Ok}
use Rattle.writer.specs.Layouts.{wide, layout_of, ranges, width_at, read_at, fields_of}
use Rattle.writer.specs.RoundTrip.{ReadsBack, is_blind}
use Rattle.writer.specs.Writing.{asked, entries, encoded, split, read_back, lacks, fits, judged}
use Rattle.writer.proofs.ByCode.{split-whole}
use Rattle.writer.proofs.Reading.{read_fits, copied-entries, entries-low}
use Rattle.writer.proofs.Lines.{says, is_sound, looked_at}
use Rattle.writer.proofs.Judging.{told, agree, same-fits}

-- a command is sixteen words
pub sixteen : (m : Command) → length (fields_of m) ≡ wide
unfolding fields_of
sixteen PrefetchConfig = refl
sixteen PrefetchAddr = refl
sixteen (CfgiSte s l) = refl
sixteen (CfgiSteRange s r) = refl
sixteen (CfgiCd u s l) = refl
sixteen (CfgiCdAll s) = refl
sixteen (TlbiNhAll v) = refl
sixteen (TlbiNhAsid v a) = refl
sixteen (TlbiNhVa v a t) = refl
sixteen (TlbiNhVaa v t) = refl
sixteen TlbiEl2All = refl
sixteen (TlbiEl2Asid a) = refl
sixteen (TlbiEl2Va a t) = refl
sixteen (TlbiEl2Vaa t) = refl
sixteen (TlbiS12Vmall v) = refl
sixteen (TlbiS2Ipa v t) = refl
sixteen TlbiNsnhAll = refl
sixteen (Sync c) = refl
sixteen DptiAll = refl
sixteen (DptiPa p s l) = refl

-- what is written fits two words
pub encoded_lt : (d : List ℕ) → encoded d < 2 ^ 128
unfolding encoded
encoded_lt d = puts-within 128 (entries (layout_of (asked d 0)) d) 0 (entries-low (layout_of (asked d 0)) d (is_sound (asked d 0)).lies_low) (pow_pos 128)

pub low_lt : (d : List ℕ) → (split (encoded d)).lo < 2 ^ 64
low_lt d = mod-lt (encoded d) (pow_pos 64)

pub high_lt : (d : List ℕ) → (split (encoded d)).hi < 2 ^ 64
high_lt d = shr_lt 64 64 (encoded_lt d)

-- what a verdict says of the tests
record Fits (f : Features) (d : List ℕ) (x : Coded) : Type 0 where
  command : Command
  reads : read_back f d ≡ Legal command
  fit : fits d ≡ true
  is_coded : x ≡ split (encoded d)

fits_means : (f : Features) (d : List ℕ) (x : Coded) → judged f d ≡ Ok x → Fits f d x
unfolding judged
fits_means f d x e = by_tests (lacks f d) (fits d) (read_back f d) refl refl e
  where
    by_tests : (a b : Bool) (r : Decoded) → fits d ≡ b → read_back f d ≡ r
        → pick a (Err Missing) (pick (not b || is_illegal r) (Err Unfit) (Ok (split (encoded d)))) ≡ Ok x → Fits f d x
    by_tests true b r p q j = let z : ◌≡◌ {A = ℕ} 0 1 = cc in absurd (omega arith)
    by_tests false false r p q j = let z : ◌≡◌ {A = ℕ} 0 1 = cc in absurd (omega arith)
    by_tests false true (Illegal why) p q j = let z : ◌≡◌ {A = ℕ} 0 1 = cc in absurd (omega arith)
    by_tests false true (Legal m) p q j = record { command = m; reads = q; fit = p; is_coded = cc }

-- what is written is what the definition encodes
pub coded_as : (f : Features) (d : List ℕ) (x : Coded) → judged f d ≡ Ok x → x ≡ split (encoded d)
coded_as f d x e = (fits_means f d x e).is_coded

-- reading back: the same command, with the same fields
pub reads_back : (f : Features) (d : List ℕ) (x : Coded) → length d ≡ wide → judged f d ≡ Ok x → ReadsBack f d x
unfolding read_back
reads_back f d x long e =
    let t = fits_means f d x e in
    let m = t.command in
    let same = same-fits f d m t.reads ∙ t.fit in
    record {
      command = m;
      decodes = ap (λ (y : Coded). decode f y.lo y.hi) t.is_coded ∙ t.reads;
      same_fields = ext_get_or 0 (fields_of m) d (sixteen m ∙ sym long)
          (λ k h. eqb-true (asked (fields_of m) k) (asked d k) (all-at wide (agree (fields_of m) d) same k (rw (sixteen m) at h)));
      low_fits = rw t.is_coded (low_lt d);
      high_fits = rw t.is_coded (high_lt d);
    }

-- 01, 02 and 46 by themselves, as they are written
reads_01 : (f : Features) → read_back f (fields_of PrefetchConfig) ≡ Legal PrefetchConfig
unfolding fields_of encoded read_back put part joined is_set set_only known_code feature_present clean parameter_good command_of decode
reads_01 f = refl

reads_02 : (f : Features) → read_back f (fields_of PrefetchAddr) ≡ Legal PrefetchAddr
unfolding fields_of encoded read_back put part joined is_set set_only known_code feature_present clean parameter_good command_of decode
reads_02 f = refl

reads_46 : (f : Features) (cs : ℕ) → cs < 3 → read_back f (fields_of (Sync cs)) ≡ Legal (Sync cs)
unfolding fields_of encoded read_back put part joined is_set set_only known_code feature_present clean parameter_good command_of decode
reads_46 f zero h = refl
reads_46 f (suc zero) h = refl
reads_46 f (suc (suc zero)) h = refl
reads_46 f (suc (suc (suc cs))) h = absurd (omega arith)

unset : (i : ℕ) → is_set i 0 ≡ false
unfolding is_set
unset i = rw (zero-div (2 ^ i))

-- writing what was read
module _ (f : Features) (lo hi : ℕ) (m : Command) (e : decode f lo hi ≡ Legal m) (p : lo < 2 ^ 64) (q : hi < 2 ^ 64) where
  abbrev c : ℕ
  c = joined lo hi

  abbrev d : List ℕ
  d = fields_of m

  asks : (k : ℕ) → k < wide → asked d k ≡ read_at (layout_of (code_of c)) c k
  asks k h = let t = told f lo hi m e in ap (λ (x : Command). asked (fields_of x) k) t.is_command ∙ says c t.tests.known k h

  its-code : asked d 0 ≡ code_of c
  its-code = asks 0 (omega arith)

  all_fit : fits d ≡ true
  unfolding fits
  all_fit =
      at_all wide (λ k. ltb (asked d k) (2 ^ width_at (layout_of (asked d 0)) k))
      (λ k h. lt-ltb (asked d k) (2 ^ width_at (layout_of (asked d 0)) k) (rw (its-code, asks k h) (read_fits (layout_of (code_of c)) c k)))

  is-copied : encoded d ≡ puts (copies (ranges (layout_of (code_of c))) c) 0
  unfolding encoded
  is-copied =
      let s = is_sound (code_of c) in
      ap (λ (x : ℕ). puts (entries (layout_of x) d) 0) its-code
      ∙ ap (λ (es : List Field). puts es 0) (copied-entries (layout_of (code_of c)) d c s.differs (λ k i. asks k (s.numbered k i)))

  -- each bit of the command that its fields have is written, and every other one is 0
  pub written-bit : (i : ℕ) → is_set i (encoded (fields_of m)) ≡ pick (named (ranges (layout_of (code_of (joined lo hi)))) i) (is_set i (joined lo hi)) false
  written-bit i =
      ap (is_set i) is-copied ∙ copied (ranges (layout_of (code_of c))) c 0 i (is_sound (code_of c)).in_order
      ∙ ap (λ (b : Bool). pick (named (ranges (layout_of (code_of c))) i) (is_set i c) b) (unset i)

  -- if its bits are all looked at, it is the same
  same-command : is_blind (code_of c) ≡ false → encoded d ≡ c
  same-command seen = same_bits 128 (encoded d) c (encoded_lt d) (joined_lt lo hi p q) (λ i h. written-bit i ∙ by_bit i h (is_set i c) refl)
    where
      by_bit : (i : ℕ) → i < 128 → (b : Bool) → is_set i c ≡ b → pick (named (ranges (layout_of (code_of c))) i) b false ≡ b
      by_bit i h true s =
          let t = (told f lo hi m e).tests in
          rw (looked_at f (shape_of c) c t.known seen i (clean_means f (place_in c) c t.spotless i h s))
      by_bit i h false s = neither (named (ranges (layout_of (code_of c))) i)
        where
          neither : (a : Bool) → pick a false false ≡ false
          neither true = refl
          neither false = refl

  fit_of : read_back f d ≡ Legal m → judged f d ≡ Ok (split (encoded d))
  unfolding judged lacks
  fit_of r = rw (r, all_fit) (no-matter (ltb (asked d 0) (2 ^ width code_bits)))
    where
      no-matter : (a : Bool) → pick (a && false) (Err Missing) (Ok (split (encoded d))) ≡ Ok (split (encoded d))
      no-matter true = refl
      no-matter false = refl

  pub writes-back : is_blind (code_of (joined lo hi)) ≡ false → judged f (fields_of m) ≡ Ok (record { lo = lo; hi = hi })
  unfolding read_back
  writes-back seen =
      let is : split (encoded d) ≡ record { lo = lo; hi = hi } = ap split (same-command seen) ∙ split-whole lo hi p in
      fit_of (ap (λ (y : Coded). decode f y.lo y.hi) is ∙ e) ∙ ap Ok is

  -- CS of a legal 46 is not 3
  good-cs : code_of c ≡ 0x46 → get cs_bits c < 3
  unfolding parameter_good
  good-cs is = by_test (eqb (get cs_bits c) 3) refl
    where
      good : parameter_good (code_of c) c ≡ true
      good = (told f lo hi m e).tests.sound

      by_test : (b : Bool) → eqb (get cs_bits c) 3 ≡ b → get cs_bits c < 3
      by_test true s = clash refl (sym (rw (is, s) at good))
      by_test false s = let other = eqb-false (get cs_bits c) 3 s in let small = part_lt cs_bits c in omega arith

  of_code : (x : ℕ) → code_of c ≡ x → m ≡ command_of x c
  of_code x is = (told f lo hi m e).is_command ∙ ap (λ (n : ℕ). command_of n c) is

  reads-blind : is_blind (code_of c) ≡ true → read_back f d ≡ Legal m
  unfolding command_of
  reads-blind b =
      ⊎_elim
      (λ first. ⊎_elim
      (λ s. let is = of_code 0x01 (eqb-true (code_of c) 0x01 s) in rw is (reads_01 f))
      (λ s. let is = of_code 0x02 (eqb-true (code_of c) 0x02 s) in rw is (reads_02 f))
      (either (eqb (code_of c) 0x01) (eqb (code_of c) 0x02) first))
      (λ s. let at = eqb-true (code_of c) 0x46 s in let is = of_code 0x46 at in rw is (reads_46 f (get cs_bits c) (good-cs at)))
      (either (eqb (code_of c) 0x01 || eqb (code_of c) 0x02) (eqb (code_of c) 0x46) b)

  -- every legal command is written from what was read of it
  pub writes_again : judged f (fields_of m) ≡ Ok (split (encoded (fields_of m)))
  writes_again = by_code (is_blind (code_of c)) refl
    where
      by_code : (b : Bool) → is_blind (code_of c) ≡ b → judged f d ≡ Ok (split (encoded d))
      by_code true s = fit_of (reads-blind s)
      by_code false s = writes-back s ∙ ap Ok (sym (ap split (same-command s) ∙ split-whole lo hi p))
