-- `runs::running::go` meets its contract: at each turn the rest of the run is the run from there.
-- Assumes nothing.
use Rattle.std.specs.Prelude.{Some}
use Rattle.runs.proofs.Turns.{go_remove, consumed-on, rest_end, cut-end, raise-end, from-fits}
use Rattle.runs.proofs.running.go.Goals as goal

pub overflow_add-from : goal.overflow_add-from
overflow_add-from c = search from-fits

pub rows-preserved : goal.rows-preserved
rows-preserved c = search go_remove

pub run-preserved : goal.run-preserved
run-preserved c = search consumed-on

pub returns-in-Some : goal.returns-in-Some
returns-in-Some c = search rest_end

pub returns-then-left-eq0 : goal.returns-then-left-eq0
returns-then-left-eq0 c = search cut-end

pub returns-in-DidRaise : goal.returns-in-DidRaise
returns-in-DidRaise c = search raise-end
