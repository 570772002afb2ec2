-- `transactions::steps::translated` meets its contract: the steps follow the definition's, one by one.
-- Assumes nothing.
use mathlib.Core.Path.{◌≡◌, sym, ap, ◌∙◌}
use borrow.Author.Tests.{eq-eqb, ne_eqb}
use Rattle.lookups.specs.declared.Wanted.TheVariants.{Ste}
use Rattle.std.specs.Prelude.{Some}
use Rattle.lookups.specs.Lookups.{look}
use Rattle.transactions.specs.Steps.{overridden, stage1, stage2, onward, finished, translation}
use Rattle.transactions.proofs.Needs.{config-of, room}
use Rattle.transactions.proofs.steps.translated.Goals as goal

pub look-requires : goal.look-requires
look-requires c = room _ c.requires.0

pub returns-in_default : goal.returns-in_default
unfolding translation
returns-in_default c = rw (sym c.look.ensures ∙ c.in_default.is)

pub returns-then-p-eq0 : goal.returns-then-p-eq0
unfolding translation
returns-then-p-eq0 c =
    let ste : look c.args.kept.now (Ste c.args.t.stream) ≡ Some c.in-Some.ste =
    sym c.look.ensures ∙ c.in-Some.is in
    rw (ste, eq-eqb _ _ (sym (config-of _ c.parts_of-p.ensures) ∙ c.if-p-eq0.true))

pub staged-requires : goal.staged-requires
staged-requires c =
    let ste : look c.args.kept.now (Ste c.args.t.stream) ≡ Some c.in-Some.ste =
    sym c.look.ensures ∙ c.in-Some.is in
    (c.requires.0, c.requires.1, ste)

pub returns-in-Ok : goal.returns-in-Ok
unfolding translation
returns-in-Ok c =
    let ste : look c.args.kept.now (Ste c.args.t.stream) ≡ Some c.in-Some.ste =
    sym c.look.ensures ∙ c.in-Some.is in
    let continues : let m = c.args.kept.now in
    let t = c.args.t in
    let row = c.in-Some.ste in
    translation m t ≡ finished row t (onward (stage1 m t row (overridden row t)) (stage2 m row)) =
    rw (ste, ne_eqb _ _ (λ e. c.if-p-eq0.false (config-of _ c.parts_of-p.ensures ∙ e))) in
    sym (continues ∙ ap (finished _ _) (sym c.staged.ensures ∙ c.in-Ok.is) ∙ rw c.output.ensures)

pub returns-in-Err : goal.returns-in-Err
unfolding translation
returns-in-Err c =
    let ste : look c.args.kept.now (Ste c.args.t.stream) ≡ Some c.in-Some.ste =
    sym c.look.ensures ∙ c.in-Some.is in
    let continues : let m = c.args.kept.now in
    let t = c.args.t in
    let row = c.in-Some.ste in
    translation m t ≡ finished row t (onward (stage1 m t row (overridden row t)) (stage2 m row)) =
    rw (ste, ne_eqb _ _ (λ e. c.if-p-eq0.false (config-of _ c.parts_of-p.ensures ∙ e))) in
    sym (continues ∙ ap (finished _ _) (sym c.staged.ensures ∙ c.in-Err.is))
