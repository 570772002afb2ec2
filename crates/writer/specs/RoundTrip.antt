-- Document 02, T-10: what it means that a command is read back as it was asked for; and the codes of which decoding does not look at
-- every bit.
-- Assumes nothing.
use Rattle.std.specs.Prelude.{◌≡◌, Bool, false, ◌||◌, List, ℕ, ◌^◌, ◌<◌, eqb, Ok}
use Rattle.words.specs.Bytes.{word_at}
use Rattle.words.specs.Choice.{pick}
use Rattle.words.specs.Parts.{is_set, joined}
use Rattle.words.specs.Ranges.{named}
use Rattle.commands.specs.declared.Features.{Features}
use Rattle.commands.specs.declared.Command.{Command}
use Rattle.commands.specs.declared.Decoded.TheVariants.{Legal}
use Rattle.commands.specs.Decoding.{code_of, decode, decode_at}
use Rattle.commands.specs.declared.Coded.{Coded}
use Rattle.writer.specs.Layouts.{layout_of, ranges, fields_of}
use Rattle.writer.specs.Writing.{write}

-- the two words x, which are words of 64 bits, are the command that d asks for, with the same fields
pub record ReadsBack (f : Features) (d : List ℕ) (x : Coded) : Type 0 where
  pub command : Command
  pub decodes : decode f x.lo x.hi ≡ Legal command
  pub same_fields : fields_of command ≡ d
  pub low_fits : x.lo < 2 ^ 64
  pub high_fits : x.hi < 2 ^ 64

-- and so are the bytes of a slot
pub record SlotReadsBack (f : Features) (d bytes : List ℕ) : Type 0 where
  pub command : Command
  pub decodes : decode_at f bytes 0 ≡ Legal command
  pub same_fields : fields_of command ≡ d

-- 01, 02 and 46
abbrev pub is_blind : ℕ → Bool
is_blind x = eqb x 0x01 || eqb x 0x02 || eqb x 0x46

-- the command m of the bytes bs is written again: each bit that a field of its code has as it was, and every other 0
pub record WritesAgain (f : Features) (bs slot : List ℕ) (m : Command) : Type 0 where
  pub written : (write f (fields_of m) slot).answer ≡ Ok tt
  pub bit : (i : ℕ) → is_set i (joined (word_at (write f (fields_of m) slot).memory 0) (word_at (write f (fields_of m) slot).memory 8))
      ≡ pick (named (ranges (layout_of (code_of (joined (word_at bs 0) (word_at bs 8))))) i) (is_set i (joined (word_at bs 0) (word_at bs 8))) false
