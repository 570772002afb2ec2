-- Document 02, T-13: what a row must be like to be in a command's scope. No theorem of
-- `promises` and no contract of a call cites these: a run says what it did by the scope itself.
-- Assumes nothing.
use Rattle.std.specs.Prelude.{ℕ, ◌+◌, ◌-◌, ◌*◌, ◌/◌, ◌%◌, ◌^◌, [], ◌∷◌, ◌==◌}
use Rattle.words.specs.Choice.{pick}
use Rattle.rows.specs.Rows as rows
use Rattle.commands.specs.declared.Features.{Features}
use Rattle.commands.specs.declared.Target.{Target}
use Rattle.commands.specs.declared.Command.{Command}
use Rattle.commands.specs.declared.Command.TheVariants.{PrefetchConfig, PrefetchAddr, CfgiSte, CfgiSteRange, CfgiCd, CfgiCdAll, TlbiNhAll, TlbiNhAsid, TlbiNhVa, TlbiNhVaa, TlbiEl2All, TlbiEl2Asid, TlbiEl2Va, TlbiEl2Vaa, TlbiS12Vmall, TlbiS2Ipa, TlbiNsnhAll, Sync, DptiAll, DptiPa}
use Rattle.scopes.specs.Scopes.{open_bits, regime}
use Rattle.scopes.specs.Ranges.{tg_of, first_of, length_of}
use Rattle.screens.specs.Places.{mask_of, stages_bits, stream_mask, of_kind, of_mark, of_vmid, of_asid}
use Rattle.screens.specs.Screens.{under}
use Rattle.screens.specs.declared.Pattern.{Pattern}
use Rattle.screens.specs.declared.Screen.{Screen}
use Rattle.screens.specs.declared.Screen.TheVariants.{Nobody, Marked, Named, Streaming, Covering, Reaching}

-- word 0 by its parts
abbrev pub kind_mask : ℕ
kind_mask = mask_of (rows.kind_bits ∷ [])

abbrev pub own_mask : ℕ
own_mask = mask_of (rows.kind_bits ∷ rows.mark_bits ∷ [])

abbrev pub own_asid_mask : ℕ
own_asid_mask = mask_of (rows.kind_bits ∷ rows.global_bits ∷ rows.mark_bits ∷ rows.asid_bits ∷ [])

abbrev pub stage_mask : ℕ
stage_mask = mask_of (rows.kind_bits ∷ rows.mark_bits ∷ rows.vmid_bits ∷ [])

abbrev pub stage_asid_mask : ℕ
stage_asid_mask = mask_of (rows.kind_bits ∷ rows.global_bits ∷ rows.mark_bits ∷ rows.vmid_bits ∷ rows.asid_bits ∷ [])

-- of both stages
abbrev pub either_mask : ℕ
either_mask = mask_of (stages_bits ∷ rows.mark_bits ∷ rows.vmid_bits ∷ [])

abbrev pub any_mask : ℕ
any_mask = mask_of (stages_bits ∷ rows.mark_bits ∷ [])

-- the mark that 22 and 23 are about
abbrev pub regime_at : Features → ℕ
regime_at f = of_mark (regime f)

abbrev pub aimed : Pattern → Target → Screen
aimed word0 target =
    pick (tg_of target == 0) (Covering word0 (first_of target))
    (Reaching word0 ((first_of target + (length_of target - 1)) % 2 ^ 64) (length_of target - 1))

abbrev pub of_block : ℕ → ℕ → Screen
of_block stream span = Streaming (under (2 ^ 32 - 2 ^ span) (stream / 2 ^ span * 2 ^ span))

abbrev pub of_context : ℕ → Screen
of_context stream = Named (under kind_mask (of_kind rows.cd)) (under stream_mask stream)

unfoldable pub screen_of : Features → Command → Screen
screen_of f PrefetchConfig = Nobody
screen_of f PrefetchAddr = Nobody
screen_of f (CfgiSte stream leaf) = of_block stream 0
screen_of f (CfgiSteRange stream range) = of_block stream (open_bits range)
screen_of f (CfgiCd substream stream leaf) = of_context stream
screen_of f (CfgiCdAll stream) = of_context stream
screen_of f (TlbiNhAll vmid) = Marked (under stage_mask (of_kind rows.stage1 + of_vmid vmid))
screen_of f (TlbiNhAsid vmid asid) = Marked (under stage_asid_mask (of_kind rows.stage1 + of_vmid vmid + of_asid asid))
screen_of f (TlbiNhVa vmid asid target) = aimed (under stage_mask (of_kind rows.stage1 + of_vmid vmid)) target
screen_of f (TlbiNhVaa vmid target) = aimed (under stage_mask (of_kind rows.stage1 + of_vmid vmid)) target
screen_of f TlbiEl2All = Marked (under kind_mask (of_kind rows.stage1))
screen_of f (TlbiEl2Asid asid) = Marked (under own_asid_mask (of_kind rows.stage1 + of_mark rows.el2_e2h + of_asid asid))
screen_of f (TlbiEl2Va asid target) = aimed (under own_mask (of_kind rows.stage1 + regime_at f)) target
screen_of f (TlbiEl2Vaa target) = aimed (under own_mask (of_kind rows.stage1 + regime_at f)) target
screen_of f (TlbiS12Vmall vmid) = Marked (under either_mask (of_kind rows.stage1 + of_vmid vmid))
screen_of f (TlbiS2Ipa vmid target) = aimed (under stage_mask (of_kind rows.stage2 + of_vmid vmid)) target
screen_of f TlbiNsnhAll = Marked (under any_mask (of_kind rows.stage1))
screen_of f (Sync cs) = Nobody
screen_of f DptiAll = Nobody
screen_of f (DptiPa page size leaf) = Nobody
