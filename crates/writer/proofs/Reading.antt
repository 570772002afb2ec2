-- Fields by their numbers: each that fits is read where it was put, and what is read, put again, is what was there.
-- Assumes nothing.
use mathlib.Core.Path.{◌≡◌, refl, sym, ap, ap₂, ◌∙◌}
use mathlib.Core.Bool.{Bool, true, false, not, ◌&&◌, ◌||◌}
use mathlib.Core.List.{List, [], ◌∷◌}
use Prim.Native.Nat.{ℕ, zero, suc, ◌+◌, ◌^◌, ◌<◌}
use native.Mathlib.Nat.{add-zero, add-suc, suc-add}
use native.Mathlib.Omega.{arith}
use lib.Arith.{lt-one}
use lib.Dec.{T, eqb}
use lib.ListN.{get_or}
use borrow.Author.Tests.{eqb-true, eq-eqb, not-true}
use Rattle.words.specs.Choice.{pick}
use Rattle.words.specs.Ranges.{Range, Field, get, set, width, puts}
use Rattle.words.proofs.Truth.{T-left, T-right, clash, passed, left, or_left, or_right}
use Rattle.words.proofs.Parts.{ordered, places, all_apart, within, all_within, part_lt, reads_back, puts_keep}
use Rattle.words.proofs.Bits.{copies}
use Rattle.writer.specs.Layouts.{Named, field, ranges, width_at, read_at, spread}
use Rattle.writer.specs.Writing.{asked, entries}

-- the sixteen words of a function are its values
pub spread_at : (g : ℕ → ℕ) (n i k : ℕ) → k < n → get_or (spread g n i) k 0 ≡ g (i + k)
spread_at g zero i k h = absurd (omega arith)
spread_at g (suc n) i zero h = ap g (sym (add-zero i))
spread_at g (suc n) i (suc k) h = spread_at g n (suc i) k (omega arith) ∙ ap g (suc-add i k ∙ sym (add-suc i k))

entry_places : (fs : List Named) (d : List ℕ) → places (entries fs d) ≡ ranges fs
entry_places [] d = refl
entry_places (field n r ∷ fs) d = ap (λ (rs : List Range). r ∷ rs) (entry_places fs d)

-- no two share a bit, and none lies above bit 127
abbrev pub tidy : List Named → Bool
tidy [] = true
tidy (field n r ∷ fs) = ordered r && all_apart (ranges fs) r && tidy fs

abbrev pub low : List Named → Bool
low [] = true
low (field n r ∷ fs) = within 128 r && low fs

pub entries-low : (fs : List Named) (d : List ℕ) → T (low fs) → T (all_within 128 (entries fs d))
entries-low [] d t = tt
entries-low (field n r ∷ fs) d t =
    both (within 128 r) (all_within 128 (entries fs d)) (T-left (within 128 r) (low fs) t) (entries-low fs d (T-right (within 128 r) (low fs) t))
  where
    both : (a b : Bool) → T a → T b → T (a && b)
    both true b p q = q
    both false b p q = p

module _ (d : List ℕ) (k : ℕ) where
  -- one that fits is read back; one without bits is 0
  pub reads : (fs : List Named) (w : ℕ) → T (tidy fs) → asked d k < 2 ^ width_at fs k → read_at fs (puts (entries fs d) w) k ≡ asked d k
  reads [] w t h = sym (lt-one h)
  reads (field n r ∷ fs) w t h =
      by_test (eqb k n) refl (reads fs (set r (asked d n) w) (T-right (ordered r && all_apart (ranges fs) r) (tidy fs) t))
    where
      own : T (ordered r && all_apart (ranges fs) r)
      own = T-left (ordered r && all_apart (ranges fs) r) (tidy fs) t

      by_test : (b : Bool) → eqb k n ≡ b → (asked d k < 2 ^ width_at fs k → read_at fs (puts (entries fs d) (set r (asked d n) w)) k ≡ asked d k)
          → pick b (get r (puts (entries fs d) (set r (asked d n) w))) (read_at fs (puts (entries fs d) (set r (asked d n) w)) k) ≡ asked d k
      by_test true e later =
          let same : k ≡ n = eqb-true k n e in
          let fit : asked d n < 2 ^ width r = rw (← same) (rw e at h) in
          puts_keep (entries fs d) (set r (asked d n) w) r (rw (entry_places fs d) (T-right (ordered r) (all_apart (ranges fs) r) own))
          ∙ reads_back r (asked d n) w (T-left (ordered r) (all_apart (ranges fs) r) own) fit ∙ ap (asked d) (sym same)
      by_test false e later = later (rw e at h)

-- what is read fits
pub read_fits : (fs : List Named) (c k : ℕ) → read_at fs c k < 2 ^ width_at fs k
read_fits [] c k = omega arith
read_fits (field n r ∷ fs) c k = by_test (eqb k n) (read_fits fs c k)
  where
    by_test : (b : Bool) → read_at fs c k < 2 ^ width_at fs k → pick b (get r c) (read_at fs c k) < 2 ^ pick b (width r) (width_at fs k)
    by_test true later = part_lt r c
    by_test false later = later

-- no number stands twice
abbrev pub is_in : ℕ → List Named → Bool
is_in k [] = false
is_in k (field n r ∷ fs) = eqb k n || is_in k fs

abbrev pub distinct : List Named → Bool
distinct [] = true
distinct (field n r ∷ fs) = not (is_in n fs) && distinct fs

-- so the words that say what c says copy its parts
pub copied-entries : (fs : List Named) (d : List ℕ) (c : ℕ) → T (distinct fs) → ((k : ℕ) → is_in k fs ≡ true → asked d k ≡ read_at fs c k) → entries fs d ≡ copies (ranges fs) c
copied-entries [] d c t h = refl
copied-entries (field n r ∷ fs) d c t h =
    ap₂ (λ (v : ℕ) (es : List Field). record { at = r; value = v } ∷ es) first
    (copied-entries fs d c (T-right (not (is_in n fs)) (distinct fs) t) (λ k i. h k (or_right (eqb k n) (is_in k fs) i) ∙ rw (others k i)))
  where
    self : eqb n n ≡ true
    self = eq-eqb n n refl

    first : asked d n ≡ get r c
    first = h n (or_left (eqb n n) (is_in n fs) self) ∙ rw self

    none : is_in n fs ≡ false
    none = not-true (is_in n fs) (left (not (is_in n fs)) (distinct fs) (passed t))

    others : (k : ℕ) → is_in k fs ≡ true → eqb k n ≡ false
    others k i = by_test (eqb k n) refl
      where
        by_test : (b : Bool) → eqb k n ≡ b → b ≡ false
        by_test true e = clash (rw (eqb-true k n e) at i) none
        by_test false e = refl
