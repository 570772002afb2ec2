-- Document 02, T-11: the commands about the second table, and which of its rows they remove.
-- Assumes nothing.
use Rattle.std.specs.Prelude.{Bool, true, false}
use Rattle.commands.specs.declared.Command.{Command}
use Rattle.commands.specs.declared.Command.TheVariants.{PrefetchConfig, PrefetchAddr, CfgiSte, CfgiSteRange, CfgiCd, CfgiCdAll, TlbiNhAll, TlbiNhAsid, TlbiNhVa, TlbiNhVaa, TlbiEl2All, TlbiEl2Asid, TlbiEl2Va, TlbiEl2Vaa, TlbiS12Vmall, TlbiS2Ipa, TlbiNsnhAll, Sync, DptiAll, DptiPa}
use Rattle.regions.specs.declared.Region.{Region}
use Rattle.regions.specs.Scopes.{in_all, in_region}

-- 70 and 73 are about the second table, every other command about the first
unfoldable pub is_regional : Command → Bool
is_regional PrefetchConfig = false
is_regional PrefetchAddr = false
is_regional (CfgiSte stream leaf) = false
is_regional (CfgiSteRange stream range) = false
is_regional (CfgiCd substream stream leaf) = false
is_regional (CfgiCdAll stream) = false
is_regional (TlbiNhAll vmid) = false
is_regional (TlbiNhAsid vmid asid) = false
is_regional (TlbiNhVa vmid asid target) = false
is_regional (TlbiNhVaa vmid target) = false
is_regional TlbiEl2All = false
is_regional (TlbiEl2Asid asid) = false
is_regional (TlbiEl2Va asid target) = false
is_regional (TlbiEl2Vaa target) = false
is_regional (TlbiS12Vmall vmid) = false
is_regional (TlbiS2Ipa vmid target) = false
is_regional TlbiNsnhAll = false
is_regional (Sync cs) = false
is_regional DptiAll = true
is_regional (DptiPa page size leaf) = true

unfoldable pub in_table : Command → Region → Bool
in_table PrefetchConfig row = false
in_table PrefetchAddr row = false
in_table (CfgiSte stream leaf) row = false
in_table (CfgiSteRange stream range) row = false
in_table (CfgiCd substream stream leaf) row = false
in_table (CfgiCdAll stream) row = false
in_table (TlbiNhAll vmid) row = false
in_table (TlbiNhAsid vmid asid) row = false
in_table (TlbiNhVa vmid asid target) row = false
in_table (TlbiNhVaa vmid target) row = false
in_table TlbiEl2All row = false
in_table (TlbiEl2Asid asid) row = false
in_table (TlbiEl2Va asid target) row = false
in_table (TlbiEl2Vaa target) row = false
in_table (TlbiS12Vmall vmid) row = false
in_table (TlbiS2Ipa vmid target) row = false
in_table TlbiNsnhAll row = false
in_table (Sync cs) row = false
in_table DptiAll row = in_all row
in_table (DptiPa page size leaf) row = in_region row page size leaf
