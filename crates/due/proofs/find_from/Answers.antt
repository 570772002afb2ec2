-- `due::find_from` meets its contract: a command that is no invalidation has no row in scope.
-- Assumes nothing.
use mathlib.Core.Path.{sym, ◌∙◌}
use Rattle.memory.specs.Memory.{both, rows_in}
use Rattle.due.proofs.Scans.{other-finds-nothing}
use Rattle.due.proofs.find_from.Goals as goal

pub returns-then-not-invalidates : goal.returns-then-not-invalidates
returns-then-not-invalidates c =
    let s = c in
    let m = both s.args.kept.now s.args.table.now in
    sym (other-finds-nothing s.args.f s.args.c m (rows_in m) s.args.from s.requires.1 (sym c.invalidates.ensures ∙ c.if-not-invalidates.true))
