-- `commands::decoding::decode_at` meets its contract.
-- Assumes nothing.
use Rattle.commands.specs.Decoding.{decode_at}
use Rattle.commands.proofs.decoding.decode_at.Goals as goal

pub returns : goal.returns
unfolding decode_at
returns c = rw (c.decode.ensures, c.word_at-2.ensures, c.word_at.ensures)
