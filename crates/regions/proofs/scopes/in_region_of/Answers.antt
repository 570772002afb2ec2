-- `regions::scopes::in_region_of` meets its contract: a row that begins elsewhere, an empty one, one that lies elsewhere, and the others.
-- Assumes nothing.
use mathlib.Core.Path.{◌≡◌, sym, ◌∙◌}
use lib.Pow.{pow_pos}
use borrow.Author.Tests.{eq-eqb, ne_eqb}
use Rattle.regions.proofs.Containing.{before, past}
use Rattle.regions.proofs.Laws.{there, empty-stays, elsewhere-stays, there-goes}
use Rattle.regions.proofs.scopes.in_region_of.Goals as goal

pub returns-then-row-first : goal.returns-then-row-first
returns-then-row-first c = sym (elsewhere-stays _ _ _ _ (sym (before _ _ _ _ (rw c.requires.0 at c.if-row-first.true))))

pub returns-then-length-row : goal.returns-then-length-row
returns-then-length-row c =
    let s = c in
    sym (elsewhere-stays _ _ _ _ (sym (past _ _ _ _ (pow_pos _) (rw s.requires.0 at c.if-row-first.false) (rw (s.requires.0, s.requires.1) at c.if-length-row.true))))

pub returns-then-row-eq0 : goal.returns-then-row-eq0
returns-then-row-eq0 c = sym (empty-stays _ _ _ _ (eq-eqb _ _ c.if-row-eq0.true))

pub returns-then-not-lies_in : goal.returns-then-not-lies_in
returns-then-not-lies_in c =
    let told : let a = c.args in c.lies_in.result ≡ there a.row a.page a.size a.leaf =
    let s = c in
    rw (c.lies_in.ensures, c.bytes_of.ensures.0, c.size_code.ensures, s.requires.0, s.requires.1) in
    sym (elsewhere-stays _ _ _ _ (sym told ∙ c.if-not-lies_in.true))

pub returns : goal.returns
returns c =
    let told : let a = c.args in c.lies_in.result ≡ there a.row a.page a.size a.leaf =
    let s = c in
    rw (c.lies_in.ensures, c.bytes_of.ensures.0, c.size_code.ensures, s.requires.0, s.requires.1) in
    let test = c in
    rw (c.spared.ensures, c.names_region.ensures)
    (there-goes _ _ _ _ (ne_eqb _ _ test.if-row-eq0.false) (sym told ∙ c.if-not-lies_in.false))
