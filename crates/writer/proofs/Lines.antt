-- The table of fields, line by line: it says what decoding reads, and its fields are apart.
-- Assumes nothing.
use mathlib.Core.Path.{◌≡◌, refl, sym, ap, ◌∙◌}
use mathlib.Core.Bool.{Bool, true, false, ◌&&◌, ◌||◌}
use mathlib.Core.List.{List, [], ◌∷◌, map}
use mathlib.Core.Logic.{⊎_elim}
use Prim.Native.Nat.{ℕ, ◌<◌}
use native.Mathlib.Nat.{zero-add}
use native.Mathlib.Omega.{arith}
use lib.Dec.{T, eqb, leb, ltb}
use lib.ListN.{length, get_or, get_or-eq_default}
use borrow.Author.Tests.{eqb-true, eqb-false, ltb-true}
use Rattle.words.specs.Ranges.{Range, bits, get, width, named}
use Rattle.words.specs.Search.{place_of}
use Rattle.words.proofs.Truth.{passed, truth, clash, left, right, or_left, or_right, either, less_or_not}
use Rattle.words.proofs.Table.{all-at}
use Rattle.words.proofs.Parts.{part_lt}
use Rattle.words.proofs.Bits.{all_ordered}
use Rattle.words.proofs.Search.{Each, done, ◌also◌, each_key, every, every_key}
use Rattle.commands.specs.declared.Features.{Features}
use Rattle.commands.specs.declared.Shape.{Shape}
use Rattle.commands.specs.Formats.{stream_bits, substream_bits, range_bits, leaf_bits, vmid_bits, asid_bits, page_bits, ipa_page_bits, dpt_page_bits, cs_bits, size_bits, ttl128_bits, is_set_in, target_of, codes, how_many, named_at}
use Rattle.commands.specs.Decoding.{code_of, place_in, known_code, command_of}
use Rattle.writer.specs.Layouts.{wide, Named, field, code, stream, substream, range, leaf, vmid, asid, page, ipa_page, dpt_page, cs, size, ranged_by, bit, value_at, asking, layouts, fields_in, keys, layout_of, ranges, read_at, fields_of}
use Rattle.writer.specs.RoundTrip.{is_blind}
use Rattle.writer.specs.Writing.{asked}
use Rattle.writer.proofs.Reading.{spread_at, tidy, low, is_in, distinct}

-- a bit as a number is its part
bit_back : (r : Range) (c : ℕ) → width r ≡ 1 → bit (is_set_in r c) ≡ get r c
bit_back r c one = by_test (eqb (get r c) 1) refl
  where
    small : get r c < 2
    small = rw one at (part_lt r c)

    by_test : (b : Bool) → eqb (get r c) 1 ≡ b → bit b ≡ get r c
    by_test true e = sym (eqb-true (get r c) 1 e)
    by_test false e = let none = eqb-false (get r c) 1 e in omega (arith, small, none)

-- the words that ask for the command of code x say what the command's bits say
abbrev Says : ℕ → Type 0
Says x = (c : ℕ) → code_of c ≡ x → (k : ℕ) → k < wide → asked (fields_of (command_of x c)) k ≡ read_at (layout_of x) c k

asks : (x : ℕ) (vs : List (Named × ℕ)) (k : ℕ) → k < wide → asked (asking x vs) k ≡ value_at ((code, x) ∷ vs) k
asks x vs k h = spread_at (value_at ((code, x) ∷ vs)) wide 0 k h ∙ ap (value_at ((code, x) ∷ vs)) (zero-add k)

says_01 : Says 0x01
unfolding fields_of command_of
says_01 c e k h = asks 0x01 [] k h ∙ rw e

says_02 : Says 0x02
unfolding fields_of command_of
says_02 c e k h = asks 0x02 [] k h ∙ rw e

says_03 : Says 0x03
unfolding fields_of command_of
says_03 c e k h = asks 0x03 ((stream, get stream_bits c) ∷ (leaf, bit (is_set_in leaf_bits c)) ∷ []) k h ∙ rw (e, bit_back leaf_bits c refl)

says_04 : Says 0x04
unfolding fields_of command_of
says_04 c e k h = asks 0x04 ((stream, get stream_bits c) ∷ (range, get range_bits c) ∷ []) k h ∙ rw e

says_05 : Says 0x05
unfolding fields_of command_of
says_05 c e k h = asks 0x05 ((stream, get stream_bits c) ∷ (substream, get substream_bits c) ∷ (leaf, bit (is_set_in leaf_bits c)) ∷ []) k h ∙ rw (e, bit_back leaf_bits c refl)

says_06 : Says 0x06
unfolding fields_of command_of
says_06 c e k h = asks 0x06 ((stream, get stream_bits c) ∷ []) k h ∙ rw e

says_10 : Says 0x10
unfolding fields_of command_of
says_10 c e k h = asks 0x10 ((vmid, get vmid_bits c) ∷ []) k h ∙ rw e

says_11 : Says 0x11
unfolding fields_of command_of
says_11 c e k h = asks 0x11 ((vmid, get vmid_bits c) ∷ (asid, get asid_bits c) ∷ []) k h ∙ rw e

says_12 : Says 0x12
unfolding fields_of command_of
says_12 c e k h = asks 0x12 ((vmid, get vmid_bits c) ∷ (asid, get asid_bits c) ∷ (page, get page_bits c) ∷ ranged_by (target_of (get page_bits c) c)) k h ∙ rw (e, bit_back leaf_bits c refl, bit_back ttl128_bits c refl)

says_13 : Says 0x13
unfolding fields_of command_of
says_13 c e k h = asks 0x13 ((vmid, get vmid_bits c) ∷ (page, get page_bits c) ∷ ranged_by (target_of (get page_bits c) c)) k h ∙ rw (e, bit_back leaf_bits c refl, bit_back ttl128_bits c refl)

says_20 : Says 0x20
unfolding fields_of command_of
says_20 c e k h = asks 0x20 [] k h ∙ rw e

says_21 : Says 0x21
unfolding fields_of command_of
says_21 c e k h = asks 0x21 ((asid, get asid_bits c) ∷ []) k h ∙ rw e

says_22 : Says 0x22
unfolding fields_of command_of
says_22 c e k h = asks 0x22 ((asid, get asid_bits c) ∷ (page, get page_bits c) ∷ ranged_by (target_of (get page_bits c) c)) k h ∙ rw (e, bit_back leaf_bits c refl, bit_back ttl128_bits c refl)

says_23 : Says 0x23
unfolding fields_of command_of
says_23 c e k h = asks 0x23 ((page, get page_bits c) ∷ ranged_by (target_of (get page_bits c) c)) k h ∙ rw (e, bit_back leaf_bits c refl, bit_back ttl128_bits c refl)

says_28 : Says 0x28
unfolding fields_of command_of
says_28 c e k h = asks 0x28 ((vmid, get vmid_bits c) ∷ []) k h ∙ rw e

says_2_a : Says 0x2A
unfolding fields_of command_of
says_2_a c e k h = asks 0x2A ((vmid, get vmid_bits c) ∷ (ipa_page, get ipa_page_bits c) ∷ ranged_by (target_of (get ipa_page_bits c) c)) k h ∙ rw (e, bit_back leaf_bits c refl, bit_back ttl128_bits c refl)

says_30 : Says 0x30
unfolding fields_of command_of
says_30 c e k h = asks 0x30 [] k h ∙ rw e

says_46 : Says 0x46
unfolding fields_of command_of
says_46 c e k h = asks 0x46 ((cs, get cs_bits c) ∷ []) k h ∙ rw e

says_70 : Says 0x70
unfolding fields_of command_of
says_70 c e k h = asks 0x70 [] k h ∙ rw e

says_73 : Says 0x73
unfolding fields_of command_of
says_73 c e k h = asks 0x73 ((leaf, bit (is_set_in leaf_bits c)) ∷ (dpt_page, get dpt_page_bits c) ∷ (size, get size_bits c) ∷ []) k h ∙ rw (e, bit_back leaf_bits c refl)

each-says : Each Says codes
each-says =
    says_01
    also says_02
    also says_03
    also says_04
    also says_05
    also says_06
    also says_10
    also says_11
    also says_12
    also says_13
    also says_20
    also says_21
    also says_22
    also says_23
    also says_28
    also says_2_a
    also says_30
    also says_46
    also says_70
    also says_73
    also done

pub says : (c : ℕ) → known_code c ≡ true → (k : ℕ) → k < wide → asked (fields_of (command_of (code_of c) c)) k ≡ read_at (layout_of (code_of c)) c k
unfolding known_code
says c known = each_key Says codes (code_of c) each-says (ltb-true (place_in c) how_many known) c refl

-- of every code the fields share no bit and no number, and lie in a command's bits and words
abbrev few : List Named → Bool
few [] = true
few (field n r ∷ fs) = ltb n wide && few fs

abbrev sound : List Named → Bool
sound fs = tidy fs && low fs && distinct fs && all_ordered (ranges fs) && few fs

line : ℕ → Bool
line j = sound (code ∷ get_or (map fields_in layouts) j [])

each_line : (j : ℕ) → line j ≡ true
unfolding line
each_line j =
    ⊎_elim (λ h. all-at (length layouts) line (passed tt) j h)
    (λ h. rw (get_or-eq_default (map fields_in layouts) [] {n = j} h))
    (less_or_not j (length layouts))

is_few : (fs : List Named) (k : ℕ) → few fs ≡ true → is_in k fs ≡ true → k < wide
is_few [] k e i = clash i refl
is_few (field n r ∷ fs) k e i =
    ⊎_elim
    (λ same. rw (eqb-true k n same) (ltb-true n wide (left (ltb n wide) (few fs) e)))
    (λ later. is_few fs k (right (ltb n wide) (few fs) e) later)
    (either (eqb k n) (is_in k fs) i)

pub record Sound (fs : List Named) : Type 0 where
  pub tidied : T (tidy fs)
  pub lies_low : T (low fs)
  pub differs : T (distinct fs)
  pub in_order : T (all_ordered (ranges fs))
  pub numbered : (k : ℕ) → is_in k fs ≡ true → k < wide

pub is_sound : (x : ℕ) → Sound (layout_of x)
unfolding line
is_sound x =
    let fs = layout_of x in
    let e = each_line (place_of keys x) in
    let p = left (tidy fs && low fs && distinct fs && all_ordered (ranges fs)) (few fs) e in
    let q = left (tidy fs && low fs && distinct fs) (all_ordered (ranges fs)) p in
    let r = left (tidy fs && low fs) (distinct fs) q in
    record {
      tidied = truth (left (tidy fs) (low fs) r);
      lies_low = truth (right (tidy fs) (low fs) r);
      differs = truth (right (tidy fs && low fs) (distinct fs) q);
      in_order = truth (right (tidy fs && low fs && distinct fs) (all_ordered (ranges fs)) p);
      numbered = λ k i. is_few fs k (right (tidy fs && low fs && distinct fs && all_ordered (ranges fs)) (few fs) e) i;
    }

-- but for 01, 02 and 46, every bit that a code names is one of its fields'
abbrev one_of : List Range → Range → Bool
one_of [] r = false
one_of (bits h l ∷ rs) (bits h' l') = (eqb h h' && eqb l l') || one_of rs (bits h' l')

abbrev held : List Range → List Range → Bool
held rs [] = true
held rs (r ∷ ss) = one_of rs r && held rs ss

one-named : (rs : List Range) (h l i : ℕ) → one_of rs (bits h l) ≡ true → (leb l i && leb i h) ≡ true → named rs i ≡ true
one-named [] h l i e n = clash e refl
one-named (bits h' l' ∷ rs) h l i e n =
    ⊎_elim
    (λ same. let a : h' ≡ h = eqb-true h' h (left (eqb h' h) (eqb l' l) same) in
    let b : l' ≡ l = eqb-true l' l (right (eqb h' h) (eqb l' l) same) in
    or_left (leb l' i && leb i h') (named rs i) (rw (a, b) n))
    (λ later. or_right (leb l' i && leb i h') (named rs i) (one-named rs h l i later n))
    (either (eqb h' h && eqb l' l) (one_of rs (bits h l)) e)

held-named : (rs ss : List Range) (i : ℕ) → held rs ss ≡ true → named ss i ≡ true → named rs i ≡ true
held-named rs [] i e n = clash n refl
held-named rs (bits h l ∷ ss) i e n =
    ⊎_elim
    (λ here. one-named rs h l i (left (one_of rs (bits h l)) (held rs ss) e) here)
    (λ later. held-named rs ss i (right (one_of rs (bits h l)) (held rs ss) e) later)
    (either (leb l i && leb i h) (named ss i) n)

sighted : Features → Shape → ℕ → Bool
sighted f s x = is_blind x || held (ranges (layout_of x)) (named_at f s (place_of codes x))

each-sighted : (f : Features) (s : Shape) → every (sighted f s) codes ≡ true
unfolding sighted
each-sighted f s = by_bits f.s1p f.s2p f.asid16 f.vmid16 f.hyp f.e2h f.ril f.dpt s.ranged s.hinted
  where
    by_bits : (s1p s2p asid16 vmid16 hyp e2h ril dpt ranged hinted : Bool)
        → every
        (sighted record { s1p = s1p; s2p = s2p; asid16 = asid16; vmid16 = vmid16; hyp = hyp; e2h = e2h; ril = ril; dpt = dpt }
        record { ranged = ranged; hinted = hinted })
        codes
        ≡ true
    by_bits s1p true asid16 vmid16 hyp e2h false dpt ranged hinted = passed tt
    by_bits s1p true asid16 vmid16 hyp e2h true dpt false hinted = passed tt
    by_bits s1p true asid16 vmid16 hyp e2h true dpt true false = passed tt
    by_bits s1p true asid16 vmid16 hyp e2h true dpt true true = passed tt
    by_bits s1p false asid16 vmid16 hyp e2h false dpt ranged hinted = passed tt
    by_bits s1p false asid16 vmid16 hyp e2h true dpt false hinted = passed tt
    by_bits s1p false asid16 vmid16 hyp e2h true dpt true false = passed tt
    by_bits s1p false asid16 vmid16 hyp e2h true dpt true true = passed tt

pub looked_at : (f : Features) (s : Shape) (c : ℕ) → known_code c ≡ true → is_blind (code_of c) ≡ false → (i : ℕ)
    → named (named_at f s (place_in c)) i ≡ true → named (ranges (layout_of (code_of c))) i ≡ true
unfolding known_code sighted
looked_at f s c known seen i n =
    let x = code_of c in
    held-named (ranges (layout_of x)) (named_at f s (place_in c)) i
    (rw seen at (every_key (sighted f s) codes x (each-sighted f s) (ltb-true (place_in c) how_many known))) n
