-- The C interface: what a caller's words ask.
-- Assumes nothing.
use Rattle.std.specs.Prelude.{ℕ, Bool, eqb}
use Rattle.words.specs.Parts.{part}
use Rattle.attributes.specs.declared.Attributes.{Attributes}
use Rattle.transactions.specs.declared.Transaction.{Transaction}

-- bit i is 1
abbrev pub flag : ℕ → ℕ → Bool
flag i w = eqb (part i i w) 1

-- how: bit 0 write, 1 instruction, 2 privileged
unfoldable pub transaction_of : ℕ → ℕ → ℕ → ℕ → Attributes → Transaction
transaction_of stream substream address how a =
    record {
      stream = stream;
      substream = substream;
      address = address;
      write = flag 0 how;
      attributes = a;
      instruction = flag 1 how;
      privileged = flag 2 how;
    }
