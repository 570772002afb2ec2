-- `transactions::steps::stage1` meets its contract: each search's answer leads to the step's next case.
-- Assumes nothing.
use mathlib.Core.Path.{◌≡◌, sym, ap, ◌∙◌}
use mathlib.Core.Bool.{true}
use Rattle.rows.specs.Rows.{vmid, asid, config}
use Rattle.lookups.specs.declared.Wanted.TheVariants.{Cd, Stage1}
use Rattle.std.specs.Prelude.{Some}
use Rattle.lookups.specs.Lookups.{look}
use Rattle.lookups.proofs.Accepted.{stage1-hit}
use Rattle.transactions.specs.Steps.{uses_stage1, stage1}
use Rattle.transactions.proofs.Needs.{config-of, vmid-of, asid-of, accepted, room, movable}
use Rattle.transactions.proofs.steps.stage1.Goals as goal

pub returns-then-not-uses_stage1 : goal.returns-then-not-uses_stage1
unfolding stage1
returns-then-not-uses_stage1 c =
    let asks : c.uses_stage1.result ≡ uses_stage1 (config c.args.ste) =
    c.uses_stage1.ensures ∙ ap uses_stage1 (config-of _ c.parts_of-p.ensures) in
    rw (sym asks ∙ c.if-not-uses_stage1.true)

pub look-requires : goal.look-requires
look-requires c = room _ c.requires

pub returns-in_default : goal.returns-in_default
unfolding stage1
returns-in_default c =
    let asks : c.uses_stage1.result ≡ uses_stage1 (config c.args.ste) =
    c.uses_stage1.ensures ∙ ap uses_stage1 (config-of _ c.parts_of-p.ensures) in
    let uses : uses_stage1 (config c.args.ste) ≡ true =
    sym asks ∙ c.if-not-uses_stage1.false in
    rw (uses, sym c.look.ensures ∙ c.in_default.is)

pub look-requires-2 : goal.look-requires-2
look-requires-2 c = room _ c.requires

pub returns-in_default-look : goal.returns-in_default-look
unfolding stage1
returns-in_default-look c =
    let asks : c.uses_stage1.result ≡ uses_stage1 (config c.args.ste) =
    c.uses_stage1.ensures ∙ ap uses_stage1 (config-of _ c.parts_of-p.ensures) in
    let cd : look c.args.kept.now (Cd c.args.t.stream c.args.t.substream) ≡ Some c.in-Some.cd =
    sym c.look.ensures ∙ c.in-Some.is in
    let asked : c.look-2.result
    ≡ look c.args.kept.now (Stage1 (vmid c.args.ste) (asid c.in-Some.cd) c.args.a.address) =
    rw (← vmid-of _ c.parts_of-p.ensures, ← asid-of _ c.parts_of-c.ensures) c.look-2.ensures in
    let uses : uses_stage1 (config c.args.ste) ≡ true =
    sym asks ∙ c.if-not-uses_stage1.false in
    let found = c in
    rw (uses, cd, sym asked ∙ c.in_default-look.is)

pub moved-requires : goal.moved-requires
moved-requires c =
    let asked : c.look-2.result
    ≡ look c.args.kept.now (Stage1 (vmid c.args.ste) (asid c.in-Some.cd) c.args.a.address) =
    rw (← vmid-of _ c.parts_of-p.ensures, ← asid-of _ c.parts_of-c.ensures) c.look-2.ensures in
    let row : look c.args.kept.now (Stage1 (vmid c.args.ste) (asid c.in-Some.cd) c.args.a.address)
    ≡ Some c.in-Some-look.row =
    sym asked ∙ c.in-Some-look.is in
    let m = c.args.kept.now in
    movable (stage1-hit m _ (accepted m c.requires) _ _ _ _ row)

pub returns : goal.returns
unfolding stage1
returns c =
    let asks : c.uses_stage1.result ≡ uses_stage1 (config c.args.ste) =
    c.uses_stage1.ensures ∙ ap uses_stage1 (config-of _ c.parts_of-p.ensures) in
    let cd : look c.args.kept.now (Cd c.args.t.stream c.args.t.substream) ≡ Some c.in-Some.cd =
    sym c.look.ensures ∙ c.in-Some.is in
    let asked : c.look-2.result
    ≡ look c.args.kept.now (Stage1 (vmid c.args.ste) (asid c.in-Some.cd) c.args.a.address) =
    rw (← vmid-of _ c.parts_of-p.ensures, ← asid-of _ c.parts_of-c.ensures) c.look-2.ensures in
    let row : look c.args.kept.now (Stage1 (vmid c.args.ste) (asid c.in-Some.cd) c.args.a.address)
    ≡ Some c.in-Some-look.row =
    sym asked ∙ c.in-Some-look.is in
    let uses : uses_stage1 (config c.args.ste) ≡ true =
    sym asks ∙ c.if-not-uses_stage1.false in
    rw (uses, cd, row, c.attributes_of.ensures, c.moved.ensures)
