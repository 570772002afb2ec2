-- `scopes::ste_block` meets its contract.
-- Assumes nothing.
use mathlib.Core.Path.{sym, ap, ◌∙◌}
use Rattle.words.proofs.Parts.{part_lt}
use Rattle.rows.specs.declared.Parts.{Parts}
use Rattle.rows.specs.Rows.{span_bits, parts_of}
use borrow.Author.Rules.{rules}
use Rattle.scopes.proofs.ste_block.Goals as goal

pub returns-then-p : goal.returns-then-p
unfolding parts_of
returns-then-p c =
    let told = c.parts_of-p.ensures in
    (rw (told, ap (λ (p : Parts). p.last) (sym told) ∙ c.if-p.true), search rules)

pub returns : goal.returns
unfolding parts_of
returns c =
    let told = c.parts_of-p.ensures in
    (rw (told, ap (λ (p : Parts). p.last) (sym told) ∙ c.if-p.false), rw told (part_lt span_bits c.args.row.w0))
