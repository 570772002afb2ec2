-- `due::find_first` meets its contract: rows that the screen does not let through are not in scope, nor are those of the second table.
-- Assumes nothing.
use Prim.Native.Nat.{◌-◌}
use Rattle.words.specs.Search.{lowest}
use Rattle.words.proofs.Search.{Searching}
use Rattle.memory.specs.Lending.{lent}
use Rattle.memory.specs.Memory.{scoped_at}
use Rattle.due.proofs.find_first.Given as goal

abbrev pub invariant-loop-i : goal.invariant-loop-i
invariant-loop-i l =
    Searching (scoped_at l.f l.c (lent l.m)) l.to (lowest (scoped_at l.f l.c (lent l.m)) (l.to - l.from) l.from) l.i

abbrev pub decreases-loop-i : goal.decreases-loop-i
decreases-loop-i l =
    l.to - l.i
