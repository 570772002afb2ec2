-- `transactions::steps::stage2` meets its contract.
-- Assumes nothing.
use mathlib.Core.Path.{◌≡◌, sym, ap, ◌∙◌}
use mathlib.Core.Bool.{true}
use Rattle.rows.specs.Rows.{vmid, config}
use Rattle.lookups.specs.declared.Wanted.TheVariants.{Stage2}
use Rattle.std.specs.Prelude.{Some}
use Rattle.lookups.specs.Lookups.{look}
use Rattle.lookups.proofs.Accepted.{StageHit, stage2-hit}
use Rattle.transactions.specs.Steps.{uses_stage2, stage2}
use Rattle.transactions.proofs.Needs.{config-of, vmid-of, accepted, room, movable, hit_proper}
use Rattle.transactions.proofs.steps.stage2.Goals as goal

pub returns-then-not-uses_stage2 : goal.returns-then-not-uses_stage2
unfolding stage2
returns-then-not-uses_stage2 c =
    let asks : c.uses_stage2.result ≡ uses_stage2 (config c.args.ste) =
    c.uses_stage2.ensures ∙ ap uses_stage2 (config-of _ c.parts_of-p.ensures) in
    rw (sym asks ∙ c.if-not-uses_stage2.true)

pub look-requires : goal.look-requires
look-requires c = room _ c.requires.0

pub returns-in_default : goal.returns-in_default
unfolding stage2
returns-in_default c =
    let asks : c.uses_stage2.result ≡ uses_stage2 (config c.args.ste) =
    c.uses_stage2.ensures ∙ ap uses_stage2 (config-of _ c.parts_of-p.ensures) in
    let uses : uses_stage2 (config c.args.ste) ≡ true =
    sym asks ∙ c.if-not-uses_stage2.false in
    let asked : c.look.result ≡ look c.args.kept.now (Stage2 (vmid c.args.ste) c.args.a.address) =
    rw (← vmid-of _ c.parts_of-p.ensures) c.look.ensures in
    rw (uses, sym asked ∙ c.in_default.is)

pub moved-requires : goal.moved-requires
moved-requires c =
    let asked : c.look.result ≡ look c.args.kept.now (Stage2 (vmid c.args.ste) c.args.a.address) =
    rw (← vmid-of _ c.parts_of-p.ensures) c.look.ensures in
    let row : look c.args.kept.now (Stage2 (vmid c.args.ste) c.args.a.address) ≡ Some c.in-Some.row =
    sym asked ∙ c.in-Some.is in
    let hit : StageHit c.in-Some.row c.args.a.address =
    let m = c.args.kept.now in stage2-hit m _ (accepted m c.requires.0) _ _ _ row in
    movable hit

pub combined-requires : goal.combined-requires
combined-requires c =
    let asked : c.look.result ≡ look c.args.kept.now (Stage2 (vmid c.args.ste) c.args.a.address) =
    rw (← vmid-of _ c.parts_of-p.ensures) c.look.ensures in
    let row : look c.args.kept.now (Stage2 (vmid c.args.ste) c.args.a.address) ≡ Some c.in-Some.row =
    sym asked ∙ c.in-Some.is in
    let hit : StageHit c.in-Some.row c.args.a.address =
    let m = c.args.kept.now in stage2-hit m _ (accepted m c.requires.0) _ _ _ row in
    (c.requires.1, rw c.attributes_of-b.ensures (hit_proper hit).typed)

pub returns : goal.returns
unfolding stage2
returns c =
    let asks : c.uses_stage2.result ≡ uses_stage2 (config c.args.ste) =
    c.uses_stage2.ensures ∙ ap uses_stage2 (config-of _ c.parts_of-p.ensures) in
    let uses : uses_stage2 (config c.args.ste) ≡ true =
    sym asks ∙ c.if-not-uses_stage2.false in
    let asked : c.look.result ≡ look c.args.kept.now (Stage2 (vmid c.args.ste) c.args.a.address) =
    rw (← vmid-of _ c.parts_of-p.ensures) c.look.ensures in
    let row : look c.args.kept.now (Stage2 (vmid c.args.ste) c.args.a.address) ≡ Some c.in-Some.row =
    sym asked ∙ c.in-Some.is in
    rw (uses, row, c.combined.ensures, c.moved.ensures, c.attributes_of-b.ensures)
