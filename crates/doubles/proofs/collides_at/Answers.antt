-- `doubles::collides_at` meets its contract.
-- Assumes nothing.
use Rattle.doubles.specs.Doubles.{collides_at}
use Rattle.doubles.proofs.collides_at.Goals as goal

pub returns : goal.returns
unfolding collides_at
returns c = rw (c.collides.ensures, c.row_at.ensures)
