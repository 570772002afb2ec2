-- Document 02, T-11: no command removes rows of both tables, and an empty row is in no scope.
-- Assumes nothing.
use mathlib.Core.Path.{◌≡◌, refl}
use mathlib.Core.Bool.{true, false}
use Rattle.words.proofs.Truth.{clash}
use Rattle.rows.specs.declared.Row.{Row}
use Rattle.commands.specs.declared.Features.{Features}
use Rattle.commands.specs.declared.Command.{Command}
use Rattle.commands.specs.declared.Command.TheVariants.{PrefetchConfig, PrefetchAddr, CfgiSte, CfgiSteRange, CfgiCd, CfgiCdAll, TlbiNhAll, TlbiNhAsid, TlbiNhVa, TlbiNhVaa, TlbiEl2All, TlbiEl2Asid, TlbiEl2Va, TlbiEl2Vaa, TlbiS12Vmall, TlbiS2Ipa, TlbiNsnhAll, Sync, DptiAll, DptiPa}
use Rattle.scopes.specs.Scopes.{idle, in_scope, too_wide}
use Rattle.scopes.proofs.Laws.{not-removed}
use Rattle.scopes.specs.Scopes.{removes}
use Rattle.regions.specs.declared.Region.{Region}
use Rattle.regions.specs.Regions.{is_empty}
use Rattle.regions.specs.Scopes.{in_all}
use Rattle.regions.proofs.Laws.{empty-stays}
use Rattle.region_scopes.specs.Scopes.{is_regional, in_table}

-- a command about the first table leaves the second
pub first_only : (c : Command) (row : Region) → is_regional c ≡ false → in_table c row ≡ false
unfolding is_regional in_table
first_only PrefetchConfig row e = refl
first_only PrefetchAddr row e = refl
first_only (CfgiSte stream leaf) row e = refl
first_only (CfgiSteRange stream range) row e = refl
first_only (CfgiCd substream stream leaf) row e = refl
first_only (CfgiCdAll stream) row e = refl
first_only (TlbiNhAll vmid) row e = refl
first_only (TlbiNhAsid vmid asid) row e = refl
first_only (TlbiNhVa vmid asid target) row e = refl
first_only (TlbiNhVaa vmid target) row e = refl
first_only TlbiEl2All row e = refl
first_only (TlbiEl2Asid asid) row e = refl
first_only (TlbiEl2Va asid target) row e = refl
first_only (TlbiEl2Vaa target) row e = refl
first_only (TlbiS12Vmall vmid) row e = refl
first_only (TlbiS2Ipa vmid target) row e = refl
first_only TlbiNsnhAll row e = refl
first_only (Sync cs) row e = refl
first_only DptiAll row e = clash refl e
first_only (DptiPa page size leaf) row e = clash refl e

-- and one about the second the first
pub second_only : (f : Features) (c : Command) (row : Row) → is_regional c ≡ true → in_scope f c row ≡ false
unfolding is_regional removes
second_only f PrefetchConfig row e = clash e refl
second_only f PrefetchAddr row e = clash e refl
second_only f (CfgiSte stream leaf) row e = clash e refl
second_only f (CfgiSteRange stream range) row e = clash e refl
second_only f (CfgiCd substream stream leaf) row e = clash e refl
second_only f (CfgiCdAll stream) row e = clash e refl
second_only f (TlbiNhAll vmid) row e = clash e refl
second_only f (TlbiNhAsid vmid asid) row e = clash e refl
second_only f (TlbiNhVa vmid asid target) row e = clash e refl
second_only f (TlbiNhVaa vmid target) row e = clash e refl
second_only f TlbiEl2All row e = clash e refl
second_only f (TlbiEl2Asid asid) row e = clash e refl
second_only f (TlbiEl2Va asid target) row e = clash e refl
second_only f (TlbiEl2Vaa target) row e = clash e refl
second_only f (TlbiS12Vmall vmid) row e = clash e refl
second_only f (TlbiS2Ipa vmid target) row e = clash e refl
second_only f TlbiNsnhAll row e = clash e refl
second_only f (Sync cs) row e = clash e refl
second_only f DptiAll row e = not-removed f DptiAll row refl
second_only f (DptiPa page size leaf) row e = not-removed f (DptiPa page size leaf) row refl

pub empty-unscoped : (c : Command) (row : Region) → is_empty row ≡ true → in_table c row ≡ false
unfolding in_table in_all
empty-unscoped PrefetchConfig row e = refl
empty-unscoped PrefetchAddr row e = refl
empty-unscoped (CfgiSte stream leaf) row e = refl
empty-unscoped (CfgiSteRange stream range) row e = refl
empty-unscoped (CfgiCd substream stream leaf) row e = refl
empty-unscoped (CfgiCdAll stream) row e = refl
empty-unscoped (TlbiNhAll vmid) row e = refl
empty-unscoped (TlbiNhAsid vmid asid) row e = refl
empty-unscoped (TlbiNhVa vmid asid target) row e = refl
empty-unscoped (TlbiNhVaa vmid target) row e = refl
empty-unscoped TlbiEl2All row e = refl
empty-unscoped (TlbiEl2Asid asid) row e = refl
empty-unscoped (TlbiEl2Va asid target) row e = refl
empty-unscoped (TlbiEl2Vaa target) row e = refl
empty-unscoped (TlbiS12Vmall vmid) row e = refl
empty-unscoped (TlbiS2Ipa vmid target) row e = refl
empty-unscoped TlbiNsnhAll row e = refl
empty-unscoped (Sync cs) row e = refl
empty-unscoped DptiAll row e = rw e
empty-unscoped (DptiPa page size leaf) row e = empty-stays row page size leaf e

-- 01, 02 and 46, and identifiers that are too wide, are none of theirs
pub idle-first : (f : Features) (c : Command) → idle f c ≡ true → is_regional c ≡ false
unfolding idle is_regional too_wide
idle-first f PrefetchConfig e = refl
idle-first f PrefetchAddr e = refl
idle-first f (CfgiSte stream leaf) e = refl
idle-first f (CfgiSteRange stream range) e = refl
idle-first f (CfgiCd substream stream leaf) e = refl
idle-first f (CfgiCdAll stream) e = refl
idle-first f (TlbiNhAll vmid) e = refl
idle-first f (TlbiNhAsid vmid asid) e = refl
idle-first f (TlbiNhVa vmid asid target) e = refl
idle-first f (TlbiNhVaa vmid target) e = refl
idle-first f TlbiEl2All e = refl
idle-first f (TlbiEl2Asid asid) e = refl
idle-first f (TlbiEl2Va asid target) e = refl
idle-first f (TlbiEl2Vaa target) e = refl
idle-first f (TlbiS12Vmall vmid) e = refl
idle-first f (TlbiS2Ipa vmid target) e = refl
idle-first f TlbiNsnhAll e = refl
idle-first f (Sync cs) e = refl
idle-first f DptiAll e = clash e refl
idle-first f (DptiPa page size leaf) e = clash e refl
