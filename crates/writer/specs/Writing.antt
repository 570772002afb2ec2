-- Document 02, T-10: what is written for a command that is asked for, and refusals 19, 20 and 21. Whether it is legal is what decoding
-- says of it.
-- Assumes nothing.
use Rattle.std.specs.Prelude.{Bool, true, false, not, ◌&&◌, ◌||◌, List, map, ℕ, ◌+◌, ◌/◌, ◌%◌, ◌^◌, eqb, ltb, length, get_or, Err, Ok, Result, ⊤}
use Rattle.words.specs.Bytes.{with_word}
use Rattle.words.specs.Choice.{pick}
use Rattle.words.specs.Outcomes.{Outcome, with}
use Rattle.words.specs.Parts.{joined}
use Rattle.words.specs.Ranges.{Field, puts, all, width}
use Rattle.commands.specs.declared.Features.{Features}
use Rattle.commands.specs.declared.Decoded.{Decoded}
use Rattle.commands.specs.declared.Decoded.TheVariants.{Legal, Illegal}
use Rattle.commands.specs.declared.Reason.TheVariants.{UnknownCode, FeatureAbsent, ReservedBit, BadParameter}
use Rattle.commands.specs.Formats.{code_bits}
use Rattle.commands.specs.Decoding.{decode, is_illegal}
use Rattle.commands.specs.declared.Coded.{Coded}
use Rattle.writer.specs.declared.Fault.{Fault}
use Rattle.writer.specs.declared.Fault.TheVariants.{Missing, Unfit}
use Rattle.writer.specs.declared.WriteRefusal.{WriteRefusal}
use Rattle.writer.specs.declared.WriteRefusal.TheVariants.{BadSlot, Bad}
use Rattle.writer.specs.Layouts.{wide, Named, number_of, bits_of, layout_of, width_at}

-- the word of a field, of the sixteen in d
abbrev pub asked : List ℕ → ℕ → ℕ
asked d k = get_or d k 0

-- each field at its bits, and every other bit 0; what does not fit is left out, and is refused below
abbrev pub entries : List Named → List ℕ → List Field
entries fs d = map (λ (n : Named). record { at = bits_of n; value = asked d (number_of n) }) fs

unfoldable pub encoded : List ℕ → ℕ
encoded d = puts (entries (layout_of (asked d 0)) d) 0

-- a command's two words, as one number and from one
abbrev pub whole : Coded → ℕ
whole c = joined c.lo c.hi

abbrev pub split : ℕ → Coded
split n = record { lo = n % 2 ^ 64; hi = n / 2 ^ 64 }

-- what decoding will say of it
unfoldable pub read_back : Features → List ℕ → Decoded
read_back f d = let c = split (encoded d) in decode f c.lo c.hi

-- 20: a feature that the code needs is missing
abbrev pub is_absent : Decoded → Bool
is_absent (Legal command) = false
is_absent (Illegal UnknownCode) = false
is_absent (Illegal FeatureAbsent) = true
is_absent (Illegal ReservedBit) = false
is_absent (Illegal BadParameter) = false

unfoldable pub lacks : Features → List ℕ → Bool
lacks f d = ltb (asked d 0) (2 ^ width code_bits) && is_absent (read_back f d)

-- 21: a field is too wide, where one that the code does not have is so unless it is 0; or the command would be illegal
unfoldable pub fits : List ℕ → Bool
fits d = all wide (λ k. ltb (asked d k) (2 ^ width_at (layout_of (asked d 0)) k))

abbrev pub unfit : Features → List ℕ → Bool
unfit f d = not (fits d) || is_illegal (read_back f d)

-- in their order
unfoldable pub judged : Features → List ℕ → Result Coded Fault
judged f d =
    pick (lacks f d) (Err Missing)
    (pick (unfit f d) (Err Unfit)
    (Ok (split (encoded d))))

-- the paper's numbers
abbrev pub fault_number : Fault → ℕ
fault_number Missing = 20
fault_number Unfit = 21

abbrev pub number : WriteRefusal → ℕ
number BadSlot = 19
number (Bad why) = fault_number why

-- how many bytes a slot has, and the bytes with a command in the slot from place at on
abbrev pub slot_size : ℕ
slot_size = 16

unfoldable pub with_command : List ℕ → ℕ → Coded → List ℕ
with_command bytes at c = with_word (with_word bytes at c.lo) (at + 8) c.hi

abbrev pub by_verdict : List ℕ → Result Coded Fault → Outcome (List ℕ) (Result ⊤ WriteRefusal)
by_verdict slot (Err why) = with (Err (Bad why)) slot
by_verdict slot (Ok c) = with (Ok tt) (with_command slot 0 c)

unfoldable pub write : Features → List ℕ → List ℕ → Outcome (List ℕ) (Result ⊤ WriteRefusal)
write f d slot = pick (not (eqb (length slot) slot_size)) (with (Err BadSlot) slot) (by_verdict slot (judged f d))
