-- `screens::next` meets its contract: the loop of the screen answers, and where nobody passes none is found.
-- Assumes nothing.
use Rattle.screens.proofs.Groups.{nobody}
use Rattle.screens.proofs.next.Goals as goal

pub returns-in-Nobody : goal.returns-in-Nobody
returns-in-Nobody c = let s = c in rw c.in-Nobody.is (nobody s.args.from s.args.to s.requires.order)
