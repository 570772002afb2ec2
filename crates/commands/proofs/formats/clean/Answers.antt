-- `commands::formats::clean` meets its contract.
-- Assumes nothing.
use Rattle.commands.proofs.Masks.{tests}
use Rattle.commands.proofs.formats.clean.Goals as goal

pub returns : goal.returns
returns c = search tests
