-- The laws of `part` and `put`: a part is bounded by its width; a part that was put is read back, and every other part stays.
-- Assumes nothing.
use mathlib.Core.Path.{◌≡◌, refl, sym, ap, ap₂, ◌∙◌, subst}
use mathlib.Core.Bool.{Bool, true, false, ◌&&◌, ◌||◌}
use mathlib.Core.List.{List, [], ◌∷◌, ◌++◌, map}
use Prim.Native.Nat.{ℕ, ◌+◌, ◌-◌, ◌*◌, ◌/◌, ◌%◌, ◌^◌, ◌≤◌, ◌<◌}
use native.Mathlib.Nat.{mod-lt, mod-eq_of_lt, lt_of_lt_of_le, mul_assoc, mul_comm}
use native.Mathlib.Omega.{arith}
use lib.Arith.{digits_lt}
use lib.Dec.{T, ltb, leb, leb→le}
use borrow.Author.Tests.{leb-true, ltb-true}
use lib.Pow.{pow_pos, pow_mono, pow-add, shr-shr, shr_lt, high, low, field, mod-mod-pow}
use Rattle.words.specs.Parts.{part, put}
use Rattle.words.specs.Ranges.{Range, bits, get, set, width, Field, puts}
use Rattle.words.proofs.Truth.{left, right, passed, T-left, T-right}

pub part_lt : (r : Range) (w : ℕ) → get r w < 2 ^ width r
unfolding part
part_lt (bits h l) w = mod-lt (w / 2 ^ l) (pow_pos (h + 1 - l))

-- what is above bit h, by way of the bits from h on
pub above_top : (h w : ℕ) → w / 2 ^ h / 2 * 2 * 2 ^ h ≡ w / 2 ^ (h + 1) * 2 ^ (h + 1)
above_top h w =
    ap (λ (x : ℕ). x * 2 * 2 ^ h) (shr-shr w h 1) ∙ mul_assoc (w / 2 ^ (h + 1)) 2 (2 ^ h)
    ∙ ap (λ (x : ℕ). w / 2 ^ (h + 1) * x) (mul_comm 2 (2 ^ h) ∙ sym (pow-add 2 h 1))

-- `put`, by the width d of the part and the bits l below it
module _ (d l v w : ℕ) where
  abbrev inner : ℕ
  inner = v % 2 ^ d * 2 ^ l + w % 2 ^ l

  abbrev whole : ℕ
  whole = w / 2 ^ (d + l) * 2 ^ (d + l) + inner

  inner-lt : inner < 2 ^ (d + l)
  inner-lt = rw pow-add (digits_lt (mod-lt v (pow_pos d)) (mod-lt w (pow_pos l)))

  over : whole / 2 ^ (d + l) ≡ w / 2 ^ (d + l)
  over = high (w / 2 ^ (d + l)) (d + l) inner-lt

  under : whole % 2 ^ (d + l) ≡ inner
  under = low (w / 2 ^ (d + l)) (d + l) inner-lt

  middle : whole / 2 ^ l % 2 ^ d ≡ v % 2 ^ d
  middle = sym (field whole d l) ∙ ap (λ (x : ℕ). x / 2 ^ l) under ∙ high (v % 2 ^ d) l (mod-lt w (pow_pos l))

  bottom : whole % 2 ^ l ≡ w % 2 ^ l
  bottom = sym (mod-mod-pow whole d l) ∙ ap (λ (x : ℕ). x % 2 ^ l) under ∙ low (v % 2 ^ d) l (mod-lt w (pow_pos l))

  fits : (k : ℕ) → w < 2 ^ (k + (d + l)) → whole < 2 ^ (k + (d + l))
  fits k h = rw (pow-add 2 k (d + l)) (digits_lt (shr_lt k (d + l) h) inner-lt)

module _ (h l : ℕ) (ordered : l ≤ h) (v w : ℕ) where
  top : (h + 1 - l) + l ≡ h + 1
  top = omega arith

  is_whole : put h l v w ≡ whole (h + 1 - l) l v w
  unfolding put
  is_whole = rw top

  pub put-within : (n : ℕ) → w < 2 ^ n → h < n → put h l v w < 2 ^ n
  put-within n fit small =
      let total : (n - (h + 1)) + ((h + 1 - l) + l) ≡ n = omega arith in
      rw is_whole
      (subst (λ (k : ℕ). whole (h + 1 - l) l v w < 2 ^ k) total
      (fits (h + 1 - l) l v w (n - (h + 1)) (subst (λ (k : ℕ). w < 2 ^ k) (sym total) fit)))

  pub put-lt : w < 2 ^ 64 → h < 64 → put h l v w < 2 ^ 64
  put-lt fit small = put-within 64 fit small

  pub inner-fits : h < 64 → v % 2 ^ (h + 1 - l) * 2 ^ l + w % 2 ^ l < 2 ^ 64
  inner-fits small = lt_of_lt_of_le (inner-lt (h + 1 - l) l v w) (pow_mono {j = 64} (omega arith))

  pub put_same : part h l (put h l v w) ≡ v % 2 ^ (h + 1 - l)
  unfolding part
  put_same = rw is_whole (middle (h + 1 - l) l v w)

  -- a part that lies above
  put-above : (h' l' : ℕ) → h < l' → part h' l' (put h l v w) ≡ part h' l' w
  unfolding part
  put-above h' l' apart =
      let sum : ((h + 1 - l) + l) + (l' - (h + 1)) ≡ l' = omega arith in
      let split : (x : ℕ) → x / 2 ^ l' ≡ x / 2 ^ ((h + 1 - l) + l) / 2 ^ (l' - (h + 1)) =
      λ x. sym (shr-shr x ((h + 1 - l) + l) (l' - (h + 1)) ∙ ap (λ (n : ℕ). x / 2 ^ n) sum) in
      rw is_whole
      (ap (λ (x : ℕ). x % 2 ^ (h' + 1 - l'))
      (split (whole (h + 1 - l) l v w) ∙ ap (λ (x : ℕ). x / 2 ^ (l' - (h + 1))) (over (h + 1 - l) l v w) ∙ sym (split w)))

  -- a part that lies below
  put-below : (h' l' : ℕ) → l' ≤ h' → h' < l → part h' l' (put h l v w) ≡ part h' l' w
  unfolding part
  put-below h' l' ordered' apart =
      let sum : (l - (h' + 1)) + ((h' + 1 - l') + l') ≡ l = omega arith in
      let cut : (x : ℕ) → x / 2 ^ l' % 2 ^ (h' + 1 - l') ≡ x % 2 ^ l % 2 ^ ((h' + 1 - l') + l') / 2 ^ l' =
      λ x. sym
      (ap (λ (n : ℕ). x % 2 ^ n % 2 ^ ((h' + 1 - l') + l') / 2 ^ l') (sym sum)
      ∙ ap (λ (y : ℕ). y / 2 ^ l') (mod-mod-pow x (l - (h' + 1)) ((h' + 1 - l') + l')) ∙ field x (h' + 1 - l') l') in
      rw is_whole
      (cut (whole (h + 1 - l) l v w)
      ∙ ap (λ (x : ℕ). x % 2 ^ ((h' + 1 - l') + l') / 2 ^ l') (bottom (h + 1 - l) l v w) ∙ sym (cut w))

-- a range has its high bit first
abbrev pub ordered : Range → Bool
ordered (bits h l) = leb l h

-- a number that fits is read back
pub reads_back : (r : Range) (v w : ℕ) → T (ordered r) → v < 2 ^ width r → get r (set r v w) ≡ v
reads_back (bits h l) v w t fit = put_same h l (leb→le l h t) v w ∙ mod-eq_of_lt fit

-- two ranges, each with its high bit first, that share no bit
abbrev pub apart : Range → Range → Bool
apart (bits h l) (bits h' l') = leb l h && leb l' h' && (ltb h l' || ltb h' l)

-- every other part stays
pub keeps : (r : Range) (v w : ℕ) (r' : Range) → T (apart r r') → get r' (set r v w) ≡ get r' w
keeps (bits h l) v w (bits h' l') t = side (ltb h l') refl
  where
    ordered : (leb l h && leb l' h') ≡ true
    ordered = left (leb l h && leb l' h') (ltb h l' || ltb h' l) (passed t)

    first : l ≤ h
    first = leb-true l h (left (leb l h) (leb l' h') ordered)

    second : l' ≤ h'
    second = leb-true l' h' (right (leb l h) (leb l' h') ordered)

    side : (b : Bool) → ltb h l' ≡ b → part h' l' (put h l v w) ≡ part h' l' w
    side true e = put-above h l first v w h' l' (ltb-true h l' e)
    side false e =
        put-below h l first v w h' l' second
        (ltb-true h' l (rw e at (right (leb l h && leb l' h') (ltb h l' || ltb h' l) (passed t))))

-- put again, it changes nothing more
whole_again : (d l v w : ℕ) → whole d l v (whole d l v w) ≡ whole d l v w
whole_again d l v w = ap₂ (λ (x y : ℕ). x * 2 ^ (d + l) + (v % 2 ^ d * 2 ^ l + y)) (over d l v w) (bottom d l v w)

pub put-again : (r : Range) (v w : ℕ) → T (ordered r) → set r v (set r v w) ≡ set r v w
put-again (bits h l) v w t =
    let o = leb→le l h t in
    is_whole h l o v (put h l v w) ∙ ap (whole (h + 1 - l) l v) (is_whole h l o v w) ∙ whole_again (h + 1 - l) l v w ∙ sym (is_whole h l o v w)

-- a range of the lowest n bits, in which a number put there leaves the word; and of a machine word
abbrev pub within : ℕ → Range → Bool
within n (bits h l) = leb l h && ltb h n

pub set-within : (n : ℕ) (r : Range) (v w : ℕ) → T (within n r) → w < 2 ^ n → set r v w < 2 ^ n
set-within n (bits h l) v w t fit =
    put-within h l (leb-true l h (left (leb l h) (ltb h n) (passed t))) v w n fit (ltb-true h n (right (leb l h) (ltb h n) (passed t)))

abbrev pub in_word : Range → Bool
in_word r = within 64 r

pub set_lt : (r : Range) (v w : ℕ) → T (in_word r) → w < 2 ^ 64 → set r v w < 2 ^ 64
set_lt r v w t fit = set-within 64 r v w t fit

-- Several fields, one after the other.
abbrev pub all_apart : List Range → Range → Bool
all_apart [] r = true
all_apart (t ∷ ts) r = apart t r && all_apart ts r

abbrev pub places : List Field → List Range
places fs = map (λ (f : Field). f.at) fs

abbrev pub all_within : ℕ → List Field → Bool
all_within n [] = true
all_within n (f ∷ fs) = within n f.at && all_within n fs

abbrev pub all_in : List Field → Bool
all_in fs = all_within 64 fs

-- they keep every range that is apart from all of theirs
pub puts_keep : (fs : List Field) (w : ℕ) (r : Range) → T (all_apart (places fs) r) → get r (puts fs w) ≡ get r w
puts_keep [] w r t = refl
puts_keep (f ∷ fs) w r t =
    puts_keep fs (set f.at f.value w) r (T-right (apart f.at r) (all_apart (places fs) r) t)
    ∙ keeps f.at f.value w r (T-left (apart f.at r) (all_apart (places fs) r) t)

-- each that fits is read back, if those after it are apart from it
pub puts-read : (before : List Field) (f : Field) (after : List Field) (w : ℕ) → T (ordered f.at) → T (all_apart (places after) f.at) → f.value < 2 ^ width f.at
    → get f.at (puts (before ++ f ∷ after) w) ≡ f.value
puts-read [] f after w o t fit = puts_keep after (set f.at f.value w) f.at t ∙ reads_back f.at f.value w o fit
puts-read (b ∷ before) f after w o t fit = puts-read before f after (set b.at b.value w) o t fit

pub puts-within : (n : ℕ) (fs : List Field) (w : ℕ) → T (all_within n fs) → w < 2 ^ n → puts fs w < 2 ^ n
puts-within n [] w t fit = fit
puts-within n (f ∷ fs) w t fit =
    puts-within n fs (set f.at f.value w) (T-right (within n f.at) (all_within n fs) t)
    (set-within n f.at f.value w (T-left (within n f.at) (all_within n fs) t) fit)

pub puts_lt : (fs : List Field) (w : ℕ) → T (all_in fs) → w < 2 ^ 64 → puts fs w < 2 ^ 64
puts_lt fs w t fit = puts-within 64 fs w t fit
