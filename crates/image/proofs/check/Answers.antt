-- `image::check` meets its contract: each answer is the first rule that is broken.
-- Assumes nothing.
use mathlib.Core.Path.{◌≡◌, sym, ap, ◌∙◌}
use mathlib.Core.Bool.{true}
use borrow.Author.Rules.{rules}
use borrow.Author.Tests.{eq-eqb, ne_eqb, le-leb, lt-leb}
use Rattle.words.specs.Search.{lowest}
use Rattle.words.proofs.Search.{from_zero}
use Rattle.image.specs.Image.{rows_in, by_rows, check, length_good, is_bad}
use Rattle.image.proofs.Checks.{of_long, bad_control, rows_case}
use Rattle.image.proofs.check.Goals as goal

pub returns-then-kept-n : goal.returns-then-kept-n
unfolding check length_good
returns-then-kept-n c = rw (ne_eqb _ _ c.if-kept-n.true)

pub returns-then-n-lt1 : goal.returns-then-n-lt1
unfolding check length_good
returns-then-n-lt1 c = rw (eq-eqb _ _ c.if-kept-n.false, lt-leb _ _ c.if-n-lt1.true)

pub returns-then-n-gt-MAX_ROWS : goal.returns-then-n-gt-MAX_ROWS
unfolding check length_good
returns-then-n-gt-MAX_ROWS c = rw (eq-eqb _ _ c.if-kept-n.false, le-leb _ _ c.if-n-lt1.false, lt-leb _ _ c.if-n-gt-MAX_ROWS.true)

pub returns-then-not-well_formed : goal.returns-then-not-well_formed
returns-then-not-well_formed c =
    let good : length_good c.args.kept.now ≡ true =
    let m = c.args.kept.now in
    of_long m (rows_in m) (record { words = c.if-kept-n.false; some = c.if-n-lt1.false; few = c.if-n-gt-MAX_ROWS.false }) in
    let told = c.well_formed-2.ensures in
    sym (bad_control _ good (sym told ∙ c.if-not-well_formed.true))

pub returns-in-Some : goal.returns-in-Some
returns-in-Some c =
    let searched : c.lowest_in.result ≡ lowest (is_bad c.args.kept.now) (rows_in c.args.kept.now) 0 =
    c.lowest_in.ensures (is_bad c.args.kept.now) (λ i b l h e. search rules) ∙ sym (from_zero _ _) in
    let good : length_good c.args.kept.now ≡ true =
    let m = c.args.kept.now in
    of_long m (rows_in m) (record { words = c.if-kept-n.false; some = c.if-n-lt1.false; few = c.if-n-gt-MAX_ROWS.false }) in
    let continues : let m = c.args.kept.now in check m ≡ by_rows (rows_in m) c.lowest_in.result =
    let told = c.well_formed-2.ensures in
    rows_case _ good (sym told ∙ c.if-not-well_formed.false) ∙ ap (by_rows _) (sym searched) in
    sym (continues ∙ ap (by_rows _) c.in-Some.is)

pub returns-in-None : goal.returns-in-None
returns-in-None c =
    let searched : c.lowest_in.result ≡ lowest (is_bad c.args.kept.now) (rows_in c.args.kept.now) 0 =
    c.lowest_in.ensures (is_bad c.args.kept.now) (λ i b l h e. search rules) ∙ sym (from_zero _ _) in
    let good : length_good c.args.kept.now ≡ true =
    let m = c.args.kept.now in
    of_long m (rows_in m) (record { words = c.if-kept-n.false; some = c.if-n-lt1.false; few = c.if-n-gt-MAX_ROWS.false }) in
    let continues : let m = c.args.kept.now in check m ≡ by_rows (rows_in m) c.lowest_in.result =
    let told = c.well_formed-2.ensures in
    rows_case _ good (sym told ∙ c.if-not-well_formed.false) ∙ ap (by_rows _) (sym searched) in
    sym (continues ∙ ap (by_rows _) c.in-None.is)
