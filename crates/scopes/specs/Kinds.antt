-- Document 02, T-03: the kinds of rows that a command is about.
-- Assumes nothing.
use Rattle.std.specs.Prelude.{ℕ, Bool, false, ◌||◌, eqb}
use Rattle.rows.specs.Rows as rows
use Rattle.commands.specs.declared.Command.{Command}
use Rattle.commands.specs.declared.Command.TheVariants.{PrefetchConfig, PrefetchAddr, CfgiSte, CfgiSteRange, CfgiCd, CfgiCdAll, TlbiNhAll, TlbiNhAsid, TlbiNhVa, TlbiNhVaa, TlbiEl2All, TlbiEl2Asid, TlbiEl2Va, TlbiEl2Vaa, TlbiS12Vmall, TlbiS2Ipa, TlbiNsnhAll, Sync, DptiAll, DptiPa}

unfoldable pub is_about : Command → ℕ → Bool
is_about PrefetchConfig kind = false
is_about PrefetchAddr kind = false
is_about (CfgiSte stream leaf) kind = eqb kind rows.ste || eqb kind rows.cd
is_about (CfgiSteRange stream range) kind = eqb kind rows.ste || eqb kind rows.cd
is_about (CfgiCd substream stream leaf) kind = eqb kind rows.cd
is_about (CfgiCdAll stream) kind = eqb kind rows.cd
is_about (TlbiNhAll vmid) kind = eqb kind rows.stage1
is_about (TlbiNhAsid vmid asid) kind = eqb kind rows.stage1
is_about (TlbiNhVa vmid asid target) kind = eqb kind rows.stage1
is_about (TlbiNhVaa vmid target) kind = eqb kind rows.stage1
is_about TlbiEl2All kind = eqb kind rows.stage1
is_about (TlbiEl2Asid asid) kind = eqb kind rows.stage1
is_about (TlbiEl2Va asid target) kind = eqb kind rows.stage1
is_about (TlbiEl2Vaa target) kind = eqb kind rows.stage1
is_about (TlbiS12Vmall vmid) kind = eqb kind rows.stage1 || eqb kind rows.stage2
is_about (TlbiS2Ipa vmid target) kind = eqb kind rows.stage2
is_about TlbiNsnhAll kind = eqb kind rows.stage1 || eqb kind rows.stage2
is_about (Sync cs) kind = false
is_about DptiAll kind = false
is_about (DptiPa page size leaf) kind = false
