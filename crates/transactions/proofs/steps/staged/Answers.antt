-- `transactions::steps::staged` meets its contract: what stage 1 hands on is typed, and its miss is the answer.
-- Assumes nothing.
use mathlib.Core.Path.{◌≡◌, sym, ap, ◌∙◌}
use Rattle.std.proofs.Common.{rules}
use Rattle.std.specs.Prelude.{Err}
use Rattle.lookups.proofs.Accepted.{ste-hit}
use Rattle.transactions.specs.Steps.{overridden, stage1}
use Rattle.transactions.proofs.Needs.{accepted, overridden_proper}
use Rattle.transactions.proofs.Stages.{from-stage1, stage1_proper}
use Rattle.transactions.proofs.steps.staged.Goals as goal

pub stage2-requires : goal.stage2-requires
stage2-requires c =
    let m = c.args.kept.now in
    let t = c.args.t in
    let row = c.args.ste in
    let ready = c.requires.0 in
    let said : stage1 m t row (overridden row t) ≡ c.stage1.result =
    sym (c.stage1.ensures ∙ ap (stage1 _ _ _) c.overridden.ensures) in
    let first = overridden_proper row t (ste-hit m _ (accepted m ready) row _ c.requires.2) c.requires.1 in
    (ready, (stage1_proper m ready row (overridden row t) t _ first (from-stage1 m t row (overridden row t) _ (said ∙ c.in_ok-a.was))).typed)

pub returns-in_err-a : goal.returns-in_err-a
returns-in_err-a c =
    let told : c.from_residual.result ≡ Err c.in_err-a.field-0.0 = search rules in
    let said : stage1 c.args.kept.now c.args.t c.args.ste (overridden c.args.ste c.args.t) ≡ c.stage1.result =
    sym (c.stage1.ensures ∙ ap (stage1 _ _ _) c.overridden.ensures) in
    told ∙ sym (rw (said ∙ c.in_err-a.was))

pub returns : goal.returns
returns c =
    let said : stage1 c.args.kept.now c.args.t c.args.ste (overridden c.args.ste c.args.t) ≡ c.stage1.result =
    sym (c.stage1.ensures ∙ ap (stage1 _ _ _) c.overridden.ensures) in
    c.stage2.ensures ∙ sym (rw (said ∙ c.in_ok-a.was))
