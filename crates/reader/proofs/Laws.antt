-- What is read at an index, how many slots are left from it on, and where moving on leads.
-- Document 01, What goes between host and unit.
-- Assumes nothing.
use mathlib.Core.Path.{◌≡◌, refl, sym, ap, ◌∙◌}
use mathlib.Core.Bool.{true, false}
use mathlib.Core.List.{List}
use mathlib.Core.Logic.{⊎_elim}
use Prim.Native.Nat.{ℕ, zero, suc, ◌+◌, ◌*◌, ◌≤◌, ◌<◌}
use native.Mathlib.Numerals.{add-one}
use native.Mathlib.Omega.{arith}
use lib.Dec.{leb}
use lib.ListN.{length}
use borrow.Author.Tests.{le-leb, lt-leb, lt-ltb, le-ltb}
use denote.Ref.{Bor}
use Rattle.words.specs.Choice.{pick}
use Rattle.words.proofs.Truth.{less_or_not}
use Rattle.commands.specs.declared.Features.{Features}
use Rattle.commands.specs.Decoding.{decode_at}
use Rattle.reader.specs.declared.Reader.{Reader}
use Rattle.std.specs.Prelude.{None, Some}
use Rattle.reader.specs.Slots.{slot_end, is_inside, read_at, slots, slots_left, largest, after, begun, moved_on}

module _ (bytes : List ℕ) (at : ℕ) where
  is-inside : 16 * (at + 1) ≤ length bytes → is_inside bytes at ≡ true
  is-inside h = le-leb (slot_end at) (length bytes) (omega arith)

  not-inside : length bytes < 16 * (at + 1) → is_inside bytes at ≡ false
  not-inside h = lt-leb (slot_end at) (length bytes) (omega arith)

module _ (f : Features) (bytes : List ℕ) (at : ℕ) where
  -- a slot wholly inside: the decoder's command
  pub reads : 16 * (at + 1) ≤ length bytes → read_at f bytes at ≡ Some (decode_at f bytes at)
  unfolding read_at
  reads h = rw (is-inside bytes at h)

  -- any other: past the end, and only such
  pub past_end : length bytes < 16 * (at + 1) → read_at f bytes at ≡ None
  unfolding read_at
  past_end h = rw (not-inside bytes at h)

  pub past-end-only : read_at f bytes at ≡ None → length bytes < 16 * (at + 1)
  past-end-only e = ⊎_elim (λ l. l) (λ l. never (cc (reads l))) (less_or_not (length bytes) (16 * (at + 1)))
    where
      never : ◌≡◌ {A = ℕ} 0 1 → length bytes < 16 * (at + 1)
      never z = absurd (omega arith)

  -- the same, by the number of whole slots
  pub inside : at < slots bytes → read_at f bytes at ≡ Some (decode_at f bytes at)
  inside h = reads (omega arith)

  pub outside : slots bytes ≤ at → read_at f bytes at ≡ None
  outside h = past_end (omega arith)

  -- no slot is left exactly where reading is past the end
  pub none_left : read_at f bytes at ≡ None → slots_left bytes at ≡ 0
  unfolding slots_left
  none_left e = let h : length bytes < 16 * (at + 1) = past-end-only e in omega arith

  pub left-none : slots_left bytes at ≡ 0 → read_at f bytes at ≡ None
  unfolding slots_left
  left-none e = past_end (omega arith)

-- the next index: one more, but for the largest
pub continues : (at : ℕ) → at < largest → after at ≡ at + 1
unfolding after
continues at h = rw (lt-ltb at largest h)

pub stays : (at : ℕ) → largest ≤ at → after at ≡ at
unfolding after
stays at h = rw (le-ltb at largest h)

-- bytes as a machine can hold them
module _ (bytes : List ℕ) (held : length bytes ≤ largest) where
  -- moving on inside leaves one slot fewer
  pub one_fewer : (at : ℕ) → 16 * (at + 1) ≤ length bytes → slots_left bytes (after at) + 1 ≡ slots_left bytes at
  unfolding slots_left
  one_fewer at h = rw (continues at (omega arith)) (omega arith)

  -- past the end there is no way back
  pub stays-past : (f : Features) (at : ℕ) → read_at f bytes at ≡ None → read_at f bytes (after at) ≡ None
  stays-past f at e =
      let h : length bytes < 16 * (at + 1) = past-end-only f bytes at e in
      ⊎_elim (λ l. rw (continues at l) (past_end f bytes (at + 1) (omega arith))) (λ l. rw (stays at l) e) (less_or_not at largest)

-- moved on n times
abbrev pub times : ℕ → Reader → Reader
times zero r = r
times (suc n) r = moved_on (times n r)

-- the index after n moves from the first slot: n, and no more than the largest
abbrev capped : ℕ → ℕ
capped n = pick (leb n largest) n largest

low : (n : ℕ) → n ≤ largest → capped n ≡ n
low n h = rw (le-leb n largest h)

high : (n : ℕ) → largest < n → capped n ≡ largest
high n h = rw (lt-leb n largest h)

step : (n : ℕ) → after (capped n) ≡ capped (suc n)
step n =
    ⊎_elim
    (λ l. ap after (low n (omega arith)) ∙ continues n l ∙ add-one n ∙ sym (low (suc n) (omega arith)))
    (λ l. ap after (⊎_elim (λ m. high n m) (λ m. low n m ∙ omega arith) (less_or_not largest n)) ∙ stays largest (omega arith) ∙ sym (high (suc n) (omega arith)))
    (less_or_not n largest)

module _ (s : Bor (List ℕ)) where
  index : (n : ℕ) → times n (begun s) ≡ record { bytes = s; at = capped n }
  index zero = refl
  index (suc n) = ap moved_on (index n) ∙ ap (λ (i : ℕ). record { bytes = s; at = i }) (step n)

  -- while n fits, the reader stands at slot n
  pub stands_at : (n : ℕ) → n ≤ largest → times n (begun s) ≡ record { bytes = s; at = n }
  stands_at n h = index n ∙ ap (λ (i : ℕ). record { bytes = s; at = i }) (low n h)

  -- for every n it reads slot n: where n fits no more, both are past the end
  pub reads-slot : (f : Features) (n : ℕ) → length s.now ≤ largest → read_at f (times n (begun s)).bytes.now (times n (begun s)).at ≡ read_at f s.now n
  reads-slot f n held =
      ap (λ (r : Reader). read_at f r.bytes.now r.at) (index n)
      ∙ ⊎_elim
      (λ l. ap (read_at f s.now) (high n l) ∙ past_end f s.now largest (omega arith) ∙ sym (past_end f s.now n (omega arith)))
      (λ l. ap (read_at f s.now) (low n l))
      (less_or_not largest n)
