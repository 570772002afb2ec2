-- Document 02, T-10: a command in a slot of the queue is read there, and every other slot stays; reading back and writing back, of bytes.
-- Assumes nothing.
use mathlib.Core.Path.{◌≡◌, refl, sym, ap, ap₂, ◌∙◌}
use mathlib.Core.Bool.{false}
use mathlib.Core.List.{List, [], ◌++◌, append-nil}
use mathlib.Core.Logic.{◌⊎◌, inl, inr, ⊎_elim}
use Prim.Native.Nat.{ℕ, ◌+◌, ◌*◌, ◌^◌, ◌≤◌, ◌<◌}
use native.Mathlib.Omega.{arith}
use lib.ListN.{length, get_or, take, drop, length-drop, take-append-drop, drop_of_length-le}
use lib.Seq.{sets, sets-eq, length-sets, take_all, length-take-le}
use Rattle.words.specs.Bytes.{little_endian, word_at, bytes_of, Bytes, with_word}
use Rattle.words.specs.Outcomes.{with}
use Rattle.words.specs.Parts.{is_set, joined}
use Rattle.words.proofs.Bytes.{bytes_take, bytes_drop, little_lt, taken-apart, stored_there, stored-length, stored-word, stored-others, kept_word}
use Rattle.words.proofs.Truth.{less_or_not}
use Rattle.commands.specs.declared.Features.{Features}
use Rattle.commands.specs.declared.Command.{Command}
use Rattle.commands.specs.declared.Decoded.TheVariants.{Legal}
use Rattle.commands.specs.Decoding.{code_of, decode, decode_at}
use Rattle.commands.specs.declared.Coded.{Coded}
use Rattle.std.specs.Prelude.{Ok}
use Rattle.writer.specs.Layouts.{wide, fields_of}
use Rattle.writer.specs.RoundTrip.{SlotReadsBack, WritesAgain, is_blind}
use Rattle.writer.specs.Writing.{encoded, split, slot_size, with_command, write}
use Rattle.writer.proofs.ByCode.{whole_split}
use Rattle.writer.proofs.Judging.{wrote, writing}
use Rattle.writer.proofs.RoundTrip.{low_lt, high_lt, reads_back, written-bit, writes-back, writes_again}

module _ (l : List ℕ) (at : ℕ) (x : Coded) where
  abbrev half : List ℕ
  half = with_word l at x.lo

  pub command-length : length (with_command l at x) ≡ length l
  unfolding with_command
  command-length = stored-length half (at + 8) x.hi ∙ stored-length l at x.lo

  pub command-others : (k : ℕ) → (k < at) ⊎ (at + 16 ≤ k) → get_or (with_command l at x) k 0 ≡ get_or l k 0
  unfolding with_command
  command-others k side =
      stored-others half (at + 8) x.hi k (⊎_elim (λ a. inl (omega arith)) (λ b. inr (omega arith)) side)
      ∙ stored-others l at x.lo k (⊎_elim (λ a. inl a) (λ b. inr (omega arith)) side)

  low-there : at + 16 ≤ length l → x.lo < 2 ^ 64 → word_at (with_command l at x) at ≡ x.lo
  unfolding with_command
  low-there h fit =
      kept_word half (at + 8) x.hi at (rw (stored-length l at x.lo) (omega arith)) (inl (omega arith)) ∙ stored-word l at x.lo (omega arith) fit

  high-there : at + 16 ≤ length l → x.hi < 2 ^ 64 → word_at (with_command l at x) (at + 8) ≡ x.hi
  unfolding with_command
  high-there h fit = stored-word half (at + 8) x.hi (rw (stored-length l at x.lo) (omega arith)) fit

  word_kept : (other : ℕ) → other + 8 ≤ length l → (other + 8 ≤ at) ⊎ (at + 16 ≤ other) → word_at (with_command l at x) other ≡ word_at l other
  unfolding with_command
  word_kept other h apart =
      kept_word half (at + 8) x.hi other (rw (stored-length l at x.lo) h) (⊎_elim (λ a. inl (omega arith)) (λ b. inr (omega arith)) apart)
      ∙ kept_word l at x.lo other h (⊎_elim (λ a. inl a) (λ b. inr (omega arith)) apart)

-- a word of bytes is one of 64 bits
word_lt : (bs : List ℕ) (at : ℕ) → Bytes bs → at + 8 ≤ length bs → word_at bs at < 2 ^ 64
unfolding word_at
word_lt bs at all h =
    let n : length (take 8 (drop at bs)) ≡ 8 = length-take-le 8 (drop at bs) (simp length-drop (omega arith)) in
    rw n at (little_lt (take 8 (drop at bs)) (bytes_take 8 (drop at bs) (bytes_drop at bs all)))

module _ (f : Features) (queue : List ℕ) (slot : ℕ) (x : Coded) where
  pub decodes-there : 16 * slot + 16 ≤ length queue → x.lo < 2 ^ 64 → x.hi < 2 ^ 64 → decode_at f (with_command queue (16 * slot) x) slot ≡ decode f x.lo x.hi
  unfolding decode_at
  decodes-there h p q = ap₂ (decode f) (low-there queue (16 * slot) x h p) (high-there queue (16 * slot) x h q)

  pub decodes-elsewhere : (other : ℕ) → 16 * other + 16 ≤ length queue → (other ≡ slot → ⊥) → decode_at f (with_command queue (16 * slot) x) other ≡ decode_at f queue other
  unfolding decode_at
  decodes-elsewhere other h d =
      ap₂ (decode f)
      (word_kept queue (16 * slot) x (16 * other) (omega arith) (⊎_elim (λ a. inl (omega arith)) (λ b. inr (omega (arith, d))) (less_or_not other slot)))
      (word_kept queue (16 * slot) x (16 * other + 8) (omega arith) (⊎_elim (λ a. inl (omega arith)) (λ b. inr (omega (arith, d))) (less_or_not other slot)))

-- the two words of sixteen bytes, stored into any slot, are those bytes
module _ (bs slot : List ℕ) (all : Bytes bs) (long : length bs ≡ slot_size) (room : length slot ≡ slot_size) where
  abbrev its : Coded
  its = record { lo = word_at bs 0; hi = word_at bs 8 }

  first-half : bytes_of 8 (word_at bs 0) ≡ take 8 bs
  unfolding word_at
  first-half =
      let n : length (take 8 bs) ≡ 8 = length-take-le 8 bs (omega arith) in
      ap (λ (k : ℕ). bytes_of k (little_endian (take 8 bs))) (sym n) ∙ taken-apart (take 8 bs) (bytes_take 8 bs all)

  second-half : bytes_of 8 (word_at bs 8) ≡ drop 8 bs
  unfolding word_at
  second-half =
      let n : length (drop 8 bs) ≡ 8 = simp length-drop (omega arith) in
      let whole : take 8 (drop 8 bs) ≡ drop 8 bs = take_all 8 (drop 8 bs) (omega arith) in
      ap (λ (l : List ℕ). bytes_of 8 (little_endian l)) whole
      ∙ ap (λ (k : ℕ). bytes_of k (little_endian (drop 8 bs))) (sym n) ∙ taken-apart (drop 8 bs) (bytes_drop 8 bs all)

  pub same_bytes : with_command slot 0 its ≡ bs
  unfolding with_command with_word
  same_bytes =
      let a = bytes_of 8 (word_at bs 0) in
      let b = bytes_of 8 (word_at bs 8) in
      let half = sets slot 0 a in
      let size : length half ≡ slot_size = length-sets slot 0 a ∙ room in
      let front : take 8 half ≡ a = stored_there slot a 0 8 refl (omega arith) in
      let end : drop 16 half ≡ [] = drop_of_length-le half {i = 16} (omega arith) in
      sets-eq b half 8 (omega arith)
      ∙ ap₂ (λ (y z : List ℕ). (y ++ b) ++ z) front end ∙ append-nil (a ++ b)
      ∙ ap₂ (λ (y z : List ℕ). y ++ z) first-half second-half ∙ take-append-drop 8 bs

-- reading back, of bytes: what lies in the slot is the command that was asked for
pub slot-reads_back : (f : Features) (d slot : List ℕ) → length d ≡ wide → (write f d slot).answer ≡ Ok tt → SlotReadsBack f d (write f d slot).memory
slot-reads_back f d slot long e =
    let w = wrote f d slot e in
    let r = reads_back f d w.coded long w.fit in
    let room : 16 ≤ length slot = omega (arith, w.long) in
    record {
      command = r.command;
      decodes = rw w.leaves (decodes-there f slot 0 w.coded room r.low_fits r.high_fits ∙ r.decodes);
      same_fields = r.same_fields;
    }

-- writing back, of bytes: sixteen of a legal command whose bits are all looked at
pub slot_writes_back : (f : Features) (bs slot : List ℕ) (m : Command) → Bytes bs → length bs ≡ slot_size → length slot ≡ slot_size → decode_at f bs 0 ≡ Legal m
    → is_blind (code_of (joined (word_at bs 0) (word_at bs 8))) ≡ false → write f (fields_of m) slot ≡ with (Ok tt) bs
unfolding decode_at
slot_writes_back f bs slot m all long room e seen =
    let low = word_lt bs 0 all (omega arith) in
    let high = word_lt bs 8 all (omega arith) in
    writing f (fields_of m) slot (record { lo = word_at bs 0; hi = word_at bs 8 }) room (writes-back f (word_at bs 0) (word_at bs 8) m e low high seen)
    ∙ ap (with (Ok tt)) (same_bytes bs slot all long room)

-- and of every legal command: it is written, each bit that a field of its code has as it was, and every other 0
pub slot_writes_again : (f : Features) (bs slot : List ℕ) (m : Command) → Bytes bs → length bs ≡ slot_size → length slot ≡ slot_size → decode_at f bs 0 ≡ Legal m → WritesAgain f bs slot m
unfolding decode_at
slot_writes_again f bs slot m all long room e =
    let low = word_lt bs 0 all (omega arith) in
    let high = word_lt bs 8 all (omega arith) in
    let x = split (encoded (fields_of m)) in
    let w = writing f (fields_of m) slot x room (writes_again f (word_at bs 0) (word_at bs 8) m e low high) in
    let there : joined (word_at (with_command slot 0 x) 0) (word_at (with_command slot 0 x) 8) ≡ encoded (fields_of m) =
    ap₂ joined (low-there slot 0 x (omega arith) (low_lt (fields_of m))) (high-there slot 0 x (omega arith) (high_lt (fields_of m))) ∙ whole_split (encoded (fields_of m)) in
    record {
      written = rw w;
      bit = λ i. rw w (ap (is_set i) there ∙ written-bit f (word_at bs 0) (word_at bs 8) m e low high i);
    }
