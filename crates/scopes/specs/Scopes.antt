-- Document 01, Commands and their scopes, with document 02, T-05, T-07 and T-11: which rows a legal command removes.
-- Assumes nothing.
use Rattle.std.specs.Prelude.{ℕ, ◌+◌, ◌/◌, ◌^◌, max, Bool, true, false, not, ◌&&◌, ◌||◌, eqb}
use Rattle.words.specs.Choice.{pick}
use Rattle.words.specs.Parts.{part}
use Rattle.rows.specs.declared.Row.{Row}
use Rattle.rows.specs.Rows as rows
use Rattle.commands.specs.declared.Features.{Features}
use Rattle.commands.specs.declared.Target.{Target}
use Rattle.commands.specs.declared.Command.{Command}
use Rattle.commands.specs.declared.Command.TheVariants.{PrefetchConfig, PrefetchAddr, CfgiSte, CfgiSteRange, CfgiCd, CfgiCdAll, TlbiNhAll, TlbiNhAsid, TlbiNhVa, TlbiNhVaa, TlbiEl2All, TlbiEl2Asid, TlbiEl2Va, TlbiEl2Vaa, TlbiS12Vmall, TlbiS2Ipa, TlbiNsnhAll, Sync, DptiAll, DptiPa}
use Rattle.scopes.specs.declared.Block.{Block}
use Rattle.scopes.specs.Ranges.{reaches}

-- Leaf 1 spares rows that are not last-level
abbrev pub spared : Row → Bool → Bool
spared row leaf = leaf && not (rows.is_last row)

-- Streams go by blocks of 2 ^ span, those that are equal above that many bits. Two blocks meet if they are equal above the larger's.
abbrev pub meets : Block → Block → Bool
meets a b =
    eqb (a.stream / 2 ^ max a.span b.span) (b.stream / 2 ^ max a.span b.span)

-- one stream
abbrev pub one : ℕ → Block
one stream = record { stream = stream; span = 0 }

-- a last-level STE row is of one stream, another of its whole block
abbrev pub ste_block : Row → Block
ste_block row = record { stream = rows.stream row; span = pick (rows.is_last row) 0 (rows.span row) }

-- how many bits a Range of five bits leaves open, and the block of 04
abbrev pub open_bits : ℕ → ℕ
open_bits range = part 4 0 range + 1

abbrev pub ranged : ℕ → ℕ → Block
ranged stream range = record { stream = stream; span = open_bits range }

-- STE rows of a block of streams
unfoldable pub ste_of : Row → Block → Bool
ste_of row block = eqb (rows.kind row) rows.ste && meets (ste_block row) block

-- CD rows of a block of streams
unfoldable pub cd_of : Row → Block → Bool
cd_of row block = eqb (rows.kind row) rows.cd && meets (one (rows.stream row)) block

-- CD rows of a stream and substream, one that is not last-level on its stream alone
unfoldable pub cd_at : Row → ℕ → ℕ → Bool
cd_at row stream substream =
    eqb (rows.kind row) rows.cd
    && eqb (rows.stream row) stream
    && (not (rows.is_last row) || eqb (rows.substream row) substream)

-- rows of a stage, but for the hypervisor's own; and such of a VMID
abbrev pub of_stage : Row → ℕ → Bool
of_stage row kind = eqb (rows.kind row) kind && rows.is_unmarked row

unfoldable pub stage_of : Row → ℕ → ℕ → Bool
stage_of row kind vmid = of_stage row kind && eqb (rows.vmid row) vmid

-- document 02, T-05: the hypervisor's own rows, of either sort
unfoldable pub own_of : Row → Bool
own_of row = eqb (rows.kind row) rows.stage1 && not (rows.is_unmarked row)

-- its EL2-E2H rows
abbrev pub is_e2h : Row → Bool
is_e2h row = eqb (rows.mark row) rows.el2_e2h

-- rows of a stage and VMID that a command by address reaches
unfoldable pub stage_at : Row → ℕ → ℕ → Target → Bool
stage_at row kind vmid target = stage_of row kind vmid && reaches target row

unfoldable pub own_at : Row → Target → Bool
own_at row target = own_of row && reaches target row

abbrev pub has_asid : Row → ℕ → Bool
has_asid row asid = eqb (rows.asid row) asid

-- rows of either stage, but for the hypervisor's own
abbrev pub is_stage : Row → Bool
is_stage row = of_stage row rows.stage1 || of_stage row rows.stage2

-- the table's last column, and 20 to 23; 70 and 73 are about another table
unfoldable pub removes : Command → Row → Bool
removes PrefetchConfig row = false
removes PrefetchAddr row = false
removes (CfgiSte stream leaf) row = (ste_of row (one stream) && not (spared row leaf)) || cd_of row (one stream)
removes (CfgiSteRange stream range) row = ste_of row (ranged stream range) || cd_of row (ranged stream range)
removes (CfgiCd substream stream leaf) row = cd_at row stream substream && not (spared row leaf)
removes (CfgiCdAll stream) row = cd_of row (one stream)
removes (TlbiNhAll vmid) row = stage_of row rows.stage1 vmid
removes (TlbiNhAsid vmid asid) row = stage_of row rows.stage1 vmid && has_asid row asid && not (rows.is_global row)
removes (TlbiNhVa vmid asid target) row =
    stage_at row rows.stage1 vmid target && (has_asid row asid || rows.is_global row) && not (spared row target.leaf)
removes (TlbiNhVaa vmid target) row = stage_at row rows.stage1 vmid target && not (spared row target.leaf)
removes TlbiEl2All row = own_of row
removes (TlbiEl2Asid asid) row = own_of row && is_e2h row && has_asid row asid && not (rows.is_global row)
removes (TlbiEl2Va asid target) row =
    own_at row target && (not (is_e2h row) || has_asid row asid || rows.is_global row) && not (spared row target.leaf)
removes (TlbiEl2Vaa target) row = own_at row target && not (spared row target.leaf)
removes (TlbiS12Vmall vmid) row = stage_of row rows.stage1 vmid || stage_of row rows.stage2 vmid
removes (TlbiS2Ipa vmid target) row = stage_at row rows.stage2 vmid target && not (spared row target.leaf)
removes TlbiNsnhAll row = is_stage row
removes (Sync cs) row = false
removes DptiAll row = false
removes (DptiPa page size leaf) row = false

-- an identifier of sixteen bits has none of its upper eight set, or the feature is there
abbrev pub narrow : Bool → ℕ → Bool
narrow wide id = wide || eqb (part 15 8 id) 0

-- without ASID16 (VMID16), the ASID (VMID) has an upper bit set: such a command removes nothing
unfoldable pub too_wide : Features → Command → Bool
too_wide f PrefetchConfig = false
too_wide f PrefetchAddr = false
too_wide f (CfgiSte stream leaf) = false
too_wide f (CfgiSteRange stream range) = false
too_wide f (CfgiCd substream stream leaf) = false
too_wide f (CfgiCdAll stream) = false
too_wide f (TlbiNhAll vmid) = not (narrow f.vmid16 vmid)
too_wide f (TlbiNhAsid vmid asid) = not (narrow f.vmid16 vmid && narrow f.asid16 asid)
too_wide f (TlbiNhVa vmid asid target) = not (narrow f.vmid16 vmid && narrow f.asid16 asid)
too_wide f (TlbiNhVaa vmid target) = not (narrow f.vmid16 vmid)
too_wide f TlbiEl2All = false
too_wide f (TlbiEl2Asid asid) = not (narrow f.asid16 asid)
too_wide f (TlbiEl2Va asid target) = not (narrow f.asid16 asid)
too_wide f (TlbiEl2Vaa target) = false
too_wide f (TlbiS12Vmall vmid) = not (narrow f.vmid16 vmid)
too_wide f (TlbiS2Ipa vmid target) = not (narrow f.vmid16 vmid)
too_wide f TlbiNsnhAll = false
too_wide f (Sync cs) = false
too_wide f DptiAll = false
too_wide f (DptiPa page size leaf) = false

-- document 02, T-05: 22 and 23 are about one sort of the hypervisor's own rows, which the setting E2H names
abbrev pub regime : Features → ℕ
regime f = pick f.e2h rows.el2_e2h rows.el2

abbrev pub by_regime : Command → Bool
by_regime PrefetchConfig = false
by_regime PrefetchAddr = false
by_regime (CfgiSte stream leaf) = false
by_regime (CfgiSteRange stream range) = false
by_regime (CfgiCd substream stream leaf) = false
by_regime (CfgiCdAll stream) = false
by_regime (TlbiNhAll vmid) = false
by_regime (TlbiNhAsid vmid asid) = false
by_regime (TlbiNhVa vmid asid target) = false
by_regime (TlbiNhVaa vmid target) = false
by_regime TlbiEl2All = false
by_regime (TlbiEl2Asid asid) = false
by_regime (TlbiEl2Va asid target) = true
by_regime (TlbiEl2Vaa target) = true
by_regime (TlbiS12Vmall vmid) = false
by_regime (TlbiS2Ipa vmid target) = false
by_regime TlbiNsnhAll = false
by_regime (Sync cs) = false
by_regime DptiAll = false
by_regime (DptiPa page size leaf) = false

unfoldable pub in_regime : Features → Command → Row → Bool
in_regime f command row = not (by_regime command) || eqb (rows.mark row) (regime f)

-- a row is in a command's scope: it is not empty, no identifier of the command is too wide, the row is of the sort that E2H names
-- where the command asks for one, and the command removes it
unfoldable pub in_scope : Features → Command → Row → Bool
in_scope f command row = not (rows.is_empty row) && not (too_wide f command) && in_regime f command row && removes command row

-- all but 01, 02 and 46 are invalidations
abbrev pub invalidates : Command → Bool
invalidates PrefetchConfig = false
invalidates PrefetchAddr = false
invalidates (CfgiSte stream leaf) = true
invalidates (CfgiSteRange stream range) = true
invalidates (CfgiCd substream stream leaf) = true
invalidates (CfgiCdAll stream) = true
invalidates (TlbiNhAll vmid) = true
invalidates (TlbiNhAsid vmid asid) = true
invalidates (TlbiNhVa vmid asid target) = true
invalidates (TlbiNhVaa vmid target) = true
invalidates TlbiEl2All = true
invalidates (TlbiEl2Asid asid) = true
invalidates (TlbiEl2Va asid target) = true
invalidates (TlbiEl2Vaa target) = true
invalidates (TlbiS12Vmall vmid) = true
invalidates (TlbiS2Ipa vmid target) = true
invalidates TlbiNsnhAll = true
invalidates (Sync cs) = false
invalidates DptiAll = true
invalidates (DptiPa page size leaf) = true

-- no row need be looked at: it is no invalidation, or it is too wide
unfoldable pub idle : Features → Command → Bool
idle f command = not (invalidates command) || too_wide f command
