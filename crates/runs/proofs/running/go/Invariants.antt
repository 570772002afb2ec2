-- `runs::running::go` meets its contract: at each turn the rest of the run is the run from there.
-- Assumes nothing.
use Rattle.memory.specs.Memory.{both}
use Rattle.runs.proofs.Turns.{Rows, Turns}
use Rattle.runs.proofs.running.go.Given as goal

abbrev pub invariant-rows : goal.invariant-rows
invariant-rows l =
    Rows (both l.initial.kept l.initial.table) l.queue l.f l.allowance l.initial.left l.initial.consumed l.initial.stores l.initial.removed l.initial.syncs l.w l.d l.sync (both l.kept l.table) l.left l.consumed l.stores l.removed l.syncs l.from

abbrev pub decreases-rows : goal.decreases-rows
decreases-rows l =
    l.left

abbrev pub invariant-run : goal.invariant-run
invariant-run l =
    Turns (both l.initial.kept l.initial.table) l.queue l.f l.allowance (both l.kept l.table) l.left l.consumed l.stores l.removed l.syncs

abbrev pub decreases-run : goal.decreases-run
decreases-run l =
    l.left
