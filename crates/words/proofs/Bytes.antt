-- Bytes in a list, element by element; a word that was stored is read back, and every other byte stays.
-- Assumes nothing.
use mathlib.Core.Path.{◌≡◌, refl, sym, ap, ap₂, ◌∙◌}
use mathlib.Core.List.{List, [], ◌∷◌, ◌++◌, append_assoc}
use mathlib.Core.Logic.{◌⊎◌, inl, inr, ⊎_elim}
use Prim.Native.Nat.{ℕ, zero, suc, ◌+◌, ◌*◌, ◌/◌, ◌%◌, ◌^◌, ◌≤◌, ◌<◌}
use native.Mathlib.Nat.{add-suc, div-add-mod', div-lt_iff_lt-mul, pow-suc, div-div-eq-div-mul}
use native.Mathlib.Omega.{arith}
use lib.Arith.{lt-one}
use Rattle.std.specs.Int.{w64, byte_at, bytes_low_first, from_le_bytes, to_le_bytes}
use lib.ListN.{length, get_or, take, drop, set}
use lib.Seq.{take_all, drop-cons, sets, length-sets, sets-eq, drop_at, take_at, length-take-le, get_or-set_other}
use Rattle.words.specs.Bytes.{little_endian, word_at, bytes_of, Bytes, none, one, with_word}

-- the n elements from place at + k on, read one by one
abbrev pub reading : ℕ → List ℕ → ℕ → ℕ → List ℕ
reading zero xs at k = []
reading (suc n) xs at k = get_or xs (at + k) 0 ∷ reading n xs at (suc k)

pub take_reads : (n : ℕ) (xs : List ℕ) (at k : ℕ) → at + k + n ≤ length xs → take n (drop (at + k) xs) ≡ reading n xs at k
take_reads zero xs at k h = refl
take_reads (suc n) xs at k h =
    rw (drop-cons xs (at + k) 0 (omega arith), ← add-suc at k) (ap (λ (l : List ℕ). get_or xs (at + k) 0 ∷ l) (take_reads n xs at (suc k) (omega arith)))

-- eight stores one after the other, as code counts their places
pub eight_stores : (l : List ℕ) (at a b c d e f g h : ℕ)
    → set (set (set (set (set (set (set (set l at a) (at + 1) b) (at + 2) c) (at + 3) d) (at + 4) e) (at + 5) f) (at + 6) g) (at + 7) h
    ≡ sets l at (a ∷ b ∷ c ∷ d ∷ e ∷ f ∷ g ∷ h ∷ [])
eight_stores l at a b c d e f g h =
    let e1 : at + 1 ≡ suc at = omega arith in
    let e2 : at + 2 ≡ suc (suc at) = omega arith in
    let e3 : at + 3 ≡ suc (suc (suc at)) = omega arith in
    let e4 : at + 4 ≡ suc (suc (suc (suc at))) = omega arith in
    let e5 : at + 5 ≡ suc (suc (suc (suc (suc at)))) = omega arith in
    let e6 : at + 6 ≡ suc (suc (suc (suc (suc (suc at))))) = omega arith in
    let e7 : at + 7 ≡ suc (suc (suc (suc (suc (suc (suc at)))))) = omega arith in
    rw (e1, e2, e3, e4, e5, e6, e7)

-- what std says of eight bytes, in these words: the number that they make, and those of a number
pub from_eight : (bs : List ℕ) → length bs ≡ 8 → from_le_bytes w64 bs ≡ little_endian bs
from_eight bs e =
    let whole : reading 8 bs 0 0 ≡ bs = sym (take_reads 8 bs 0 0 (omega arith)) ∙ take_all 8 bs (omega arith) in
    let added : from_le_bytes w64 bs ≡ little_endian (reading 8 bs 0 0) = omega arith in
    added ∙ ap little_endian whole

low_first : (i n w : ℕ) → bytes_low_first i n w ≡ bytes_of n (w / 256 ^ i)
low_first i zero w = refl
low_first i (suc n) w =
    let deeper : w / 256 ^ suc i ≡ w / 256 ^ i / 256 = ap (λ (x : ℕ). w / x) (pow-suc 256 i) ∙ sym (div-div-eq-div-mul w (256 ^ i) 256) in
    ap₂ (λ (b : ℕ) (bs : List ℕ). b ∷ bs) (byte i w) (low_first (suc i) n w ∙ ap (bytes_of n) deeper)
  where
    byte : (i w : ℕ) → byte_at i w ≡ w / 256 ^ i % 256
    byte zero w = omega arith
    byte (suc i) w = refl

pub to_eight : (w : ℕ) → to_le_bytes w64 w ≡ bytes_of 8 w
to_eight w = low_first 0 8 w ∙ ap (bytes_of 8) (omega arith)

-- the bytes of a word make that word, and a list of bytes is that of its word
pub joined_bytes : (n w : ℕ) → w < 256 ^ n → little_endian (bytes_of n w) ≡ w
joined_bytes zero w h = sym (lt-one h)
joined_bytes (suc n) w h =
    let low : w / 256 < 256 ^ n = (div-lt_iff_lt-mul {k = 256} (omega arith)).1 (rw pow-suc at h) in
    rw (joined_bytes n (w / 256) low) (omega (arith, div-add-mod' w 256))

pub taken-apart : (bs : List ℕ) → Bytes bs → bytes_of (length bs) (little_endian bs) ≡ bs
taken-apart [] none = refl
taken-apart (b ∷ bs) (one h rest) =
    let first : (b + 256 * little_endian bs) % 256 ≡ b = omega arith in
    let others : (b + 256 * little_endian bs) / 256 ≡ little_endian bs = omega arith in
    rw (first, others) (ap (λ (l : List ℕ). b ∷ l) (taken-apart bs rest))

pub little_lt : (bs : List ℕ) → Bytes bs → little_endian bs < 256 ^ length bs
little_lt [] none = omega arith
little_lt (b ∷ bs) (one h rest) = let below = little_lt bs rest in rw pow-suc (omega arith)

pub bytes_take : (n : ℕ) (bs : List ℕ) → Bytes bs → Bytes (take n bs)
bytes_take zero bs all = none
bytes_take (suc n) [] all = none
bytes_take (suc n) (b ∷ bs) (one h rest) = one h (bytes_take n bs rest)

pub bytes_drop : (n : ℕ) (bs : List ℕ) → Bytes bs → Bytes (drop n bs)
bytes_drop zero bs all = all
bytes_drop (suc n) [] all = all
bytes_drop (suc n) (b ∷ bs) (one h rest) = bytes_drop n bs rest

-- what stores leave: their own places hold what was stored, the others what they held
pub stored_there : (l vs : List ℕ) (at n : ℕ) → length vs ≡ n → at + n ≤ length l → take n (drop at (sets l at vs)) ≡ vs
stored_there l vs at n e h =
    let rest = drop (at + length vs) l in
    ap (λ (x : List ℕ). take n (drop at x)) (sets-eq vs l at (rw e h) ∙ append_assoc (take at l) vs rest)
    ∙ ap (take n) (drop_at (take at l) (vs ++ rest) at (length-take-le at l (omega arith))) ∙ take_at vs rest n e

pub kept_there : (l vs : List ℕ) (at k : ℕ) → (k < at) ⊎ (at + length vs ≤ k) → get_or (sets l at vs) k 0 ≡ get_or l k 0
kept_there l [] at k h = refl
kept_there l (v ∷ vs) at k h =
    kept_there (set l at v) vs (suc at) k (⊎_elim (λ a. inl (omega arith)) (λ b. inr (omega arith)) h)
    ∙ get_or-set_other l at k v 0 (⊎_elim (λ a e. omega arith) (λ b e. omega arith) h)

-- two lists that agree on the places read
same-reading : (n : ℕ) (xs ys : List ℕ) (at k : ℕ) → ((i : ℕ) → at ≤ i → i < at + k + n → get_or xs i 0 ≡ get_or ys i 0) → reading n xs at k ≡ reading n ys at k
same-reading zero xs ys at k f = refl
same-reading (suc n) xs ys at k f =
    ap₂ (λ (x : ℕ) (l : List ℕ). x ∷ l) (f (at + k) (omega arith) (omega arith)) (same-reading n xs ys at (suc k) (λ i a b. f i a (omega arith)))

pub same_word : (xs ys : List ℕ) (at : ℕ) → at + 8 ≤ length xs → length ys ≡ length xs → ((i : ℕ) → at ≤ i → i < at + 8 → get_or xs i 0 ≡ get_or ys i 0)
    → word_at xs at ≡ word_at ys at
unfolding word_at
same_word xs ys at h e f =
    let from : at ≡ at + 0 = omega arith in
    ap (λ (n : ℕ). little_endian (take 8 (drop n xs))) from
    ∙ ap little_endian
    (take_reads 8 xs at 0 (omega arith) ∙ same-reading 8 xs ys at 0 (λ i a b. f i a (omega arith)) ∙ sym (take_reads 8 ys at 0 (omega arith)))
    ∙ ap (λ (n : ℕ). little_endian (take 8 (drop n ys))) (sym from)

module _ (l : List ℕ) (at w : ℕ) where
  pub stored-length : length (with_word l at w) ≡ length l
  unfolding with_word
  stored-length = length-sets l at (bytes_of 8 w)

  pub stored-word : at + 8 ≤ length l → w < 2 ^ 64 → word_at (with_word l at w) at ≡ w
  unfolding word_at with_word
  stored-word h fit = ap little_endian (stored_there l (bytes_of 8 w) at 8 refl h) ∙ joined_bytes 8 w fit

  pub stored-others : (k : ℕ) → (k < at) ⊎ (at + 8 ≤ k) → get_or (with_word l at w) k 0 ≡ get_or l k 0
  unfolding with_word
  stored-others k h = kept_there l (bytes_of 8 w) at k h

  pub kept_word : (other : ℕ) → other + 8 ≤ length l → (other + 8 ≤ at) ⊎ (at + 8 ≤ other) → word_at (with_word l at w) other ≡ word_at l other
  kept_word other h apart =
      same_word (with_word l at w) l other (rw stored-length h) (sym stored-length)
      (λ i a b. stored-others i (⊎_elim (λ x. inl (omega arith)) (λ y. inr (omega arith)) apart))
