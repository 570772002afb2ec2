-- `regions::check` meets its contract: each answer is the first rule that is broken.
-- Assumes nothing.
use mathlib.Core.Path.{◌≡◌, sym, ap, ◌∙◌}
use borrow.Author.Rules.{rules}
use borrow.Author.Tests.{eq-eqb, ne_eqb, le-leb, lt-leb}
use Rattle.words.specs.Search.{lowest}
use Rattle.words.proofs.Search.{from_zero}
use Rattle.regions.specs.Table.{rows_in, by_rows, check, length_good, is_bad}
use Rattle.regions.proofs.Checks.{of_long, rows_case}
use Rattle.regions.proofs.check.Goals as goal

pub returns-then-table-n : goal.returns-then-table-n
unfolding check length_good
returns-then-table-n c = rw (ne_eqb _ _ c.if-table-n.true)

pub returns-then-n-lt1 : goal.returns-then-n-lt1
unfolding check length_good
returns-then-n-lt1 c = rw (eq-eqb _ _ c.if-table-n.false, lt-leb _ _ c.if-n-lt1.true)

pub returns-then-n-gt-MAX_ROWS : goal.returns-then-n-gt-MAX_ROWS
unfolding check length_good
returns-then-n-gt-MAX_ROWS c = rw (eq-eqb _ _ c.if-table-n.false, le-leb _ _ c.if-n-lt1.false, lt-leb _ _ c.if-n-gt-MAX_ROWS.true)

pub returns-in-Some : goal.returns-in-Some
returns-in-Some c =
    let searched : c.lowest_in.result ≡ lowest (is_bad c.args.table.now) (rows_in c.args.table.now) 0 =
    c.lowest_in.ensures (is_bad c.args.table.now) (λ i b l h e. search rules) ∙ sym (from_zero _ _) in
    let continues : let t = c.args.table.now in check t ≡ by_rows (rows_in t) c.lowest_in.result =
    let t = c.args.table.now in
    rows_case t (of_long t (rows_in t) (record { words = c.if-table-n.false; some = c.if-n-lt1.false; few = c.if-n-gt-MAX_ROWS.false }))
    ∙ ap (by_rows _) (sym searched) in
    sym (continues ∙ ap (by_rows _) c.in-Some.is)

pub returns-in-None : goal.returns-in-None
returns-in-None c =
    let searched : c.lowest_in.result ≡ lowest (is_bad c.args.table.now) (rows_in c.args.table.now) 0 =
    c.lowest_in.ensures (is_bad c.args.table.now) (λ i b l h e. search rules) ∙ sym (from_zero _ _) in
    let continues : let t = c.args.table.now in check t ≡ by_rows (rows_in t) c.lowest_in.result =
    let t = c.args.table.now in
    rows_case t (of_long t (rows_in t) (record { words = c.if-table-n.false; some = c.if-n-lt1.false; few = c.if-n-gt-MAX_ROWS.false }))
    ∙ ap (by_rows _) (sym searched) in
    sym (continues ∙ ap (by_rows _) c.in-None.is)
