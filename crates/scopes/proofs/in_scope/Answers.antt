-- `scopes::within_scope` meets its contract: an empty row, one of another kind, and the rest.
-- Assumes nothing.
use mathlib.Core.Path.{sym, ap, ◌∙◌}
use borrow.Author.Tests.{eq-eqb, ne_eqb}
use Rattle.scopes.specs.Scopes.{in_scope}
use Rattle.scopes.specs.Kinds.{is_about}
use Rattle.scopes.proofs.Laws.{not-removed, then-scoped}
use Rattle.scopes.proofs.OtherKinds.{kind-spares}
use Rattle.scopes.proofs.in_scope.Goals as goal

pub returns-then-row-eq0 : goal.returns-then-row-eq0
unfolding in_scope
returns-then-row-eq0 c = rw (eq-eqb _ _ c.if-row-eq0.true)

pub returns-then-not-is_about : goal.returns-then-not-is_about
returns-then-not-is_about c =
    let s = c in
    let told = c.is_about.ensures ∙ ap (is_about s.args.c) c.kind_of.ensures in
    sym (kind-spares s.args.row s.args.f s.args.c (sym told ∙ c.if-not-is_about.true))

pub returns-then-not-removes : goal.returns-then-not-removes
returns-then-not-removes c =
    let s = c in
    sym (not-removed s.args.f s.args.c s.args.row (sym c.removes.ensures ∙ c.if-not-removes.true))

pub returns : goal.returns
returns c =
    let asked = c in
    let s = asked in
    rw (c.in_regime.ensures, c.idle.ensures)
    (then-scoped s.args.f s.args.c s.args.row (ne_eqb _ _ asked.if-row-eq0.false)
    (sym asked.removes.ensures ∙ asked.if-not-removes.false))
