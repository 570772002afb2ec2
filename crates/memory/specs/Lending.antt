-- The two tables as they are lent to be read.
-- Assumes nothing.
use Rattle.memory.specs.Memory.{Memory, both}
use Rattle.memory.specs.declared.Tables.{Tables}

abbrev pub lent : Tables → Memory
lent t = both t.kept.now t.table.now
