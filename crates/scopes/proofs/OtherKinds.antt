-- Document 02, T-03: where the kind says no, the command removes no such row.
-- Assumes nothing.
use mathlib.Core.Path.{◌≡◌, refl}
use Prim.Native.Nat.{ℕ}
use mathlib.Core.Bool.{Bool, true, false, not, ◌&&◌, ◌||◌}
use lib.Dec.{eqb}
use Rattle.rows.specs.declared.Row.{Row}
use Rattle.rows.specs.Rows as rows
use Rattle.commands.specs.declared.Features.{Features}
use Rattle.commands.specs.declared.Command.{Command}
use Rattle.commands.specs.declared.Command.TheVariants.{PrefetchConfig, PrefetchAddr, CfgiSte, CfgiSteRange, CfgiCd, CfgiCdAll, TlbiNhAll, TlbiNhAsid, TlbiNhVa, TlbiNhVaa, TlbiEl2All, TlbiEl2Asid, TlbiEl2Va, TlbiEl2Vaa, TlbiS12Vmall, TlbiS2Ipa, TlbiNsnhAll, Sync, DptiAll, DptiPa}
use Rattle.scopes.specs.Scopes.{ste_of, cd_of, cd_at, stage_of, stage_at, own_of, own_at, removes, too_wide, in_regime, in_scope}
use Rattle.scopes.specs.Kinds.{is_about}

-- neither of two
first_not : (a b : Bool) → (a || b) ≡ false → a ≡ false
first_not false b e = refl
first_not true b e = e

second_not : (a b : Bool) → (a || b) ≡ false → b ≡ false
second_not false b e = e
second_not true b e = cc

and_no : (a : Bool) → (a && false) ≡ false
and_no false = refl
and_no true = refl

module _ (row : Row) where
  abbrev is : ℕ → Bool
  is kind = eqb (rows.kind row) kind

  pub other_kind : (c : Command) → is_about c (rows.kind row) ≡ false → removes c row ≡ false
  unfolding is_about removes ste_of cd_of cd_at stage_of stage_at own_of own_at
  other_kind PrefetchConfig e = refl
  other_kind PrefetchAddr e = refl
  other_kind (CfgiSte stream leaf) e = rw (first_not (is rows.ste) (is rows.cd) e, second_not (is rows.ste) (is rows.cd) e)
  other_kind (CfgiSteRange stream range) e = rw (first_not (is rows.ste) (is rows.cd) e, second_not (is rows.ste) (is rows.cd) e)
  other_kind (CfgiCd substream stream leaf) e = rw e
  other_kind (CfgiCdAll stream) e = rw e
  other_kind (TlbiNhAll vmid) e = rw e
  other_kind (TlbiNhAsid vmid asid) e = rw e
  other_kind (TlbiNhVa vmid asid target) e = rw e
  other_kind (TlbiNhVaa vmid target) e = rw e
  other_kind TlbiEl2All e = rw e
  other_kind (TlbiEl2Asid asid) e = rw e
  other_kind (TlbiEl2Va asid target) e = rw e
  other_kind (TlbiEl2Vaa target) e = rw e
  other_kind (TlbiS12Vmall vmid) e = rw (first_not (is rows.stage1) (is rows.stage2) e, second_not (is rows.stage1) (is rows.stage2) e)
  other_kind (TlbiS2Ipa vmid target) e = rw e
  other_kind TlbiNsnhAll e = rw (first_not (is rows.stage1) (is rows.stage2) e, second_not (is rows.stage1) (is rows.stage2) e)
  other_kind (Sync cs) e = refl
  other_kind DptiAll e = refl
  other_kind (DptiPa page size leaf) e = refl

  pub kind-spares : (f : Features) (c : Command) → is_about c (rows.kind row) ≡ false → in_scope f c row ≡ false
  unfolding in_scope
  kind-spares f c e = rw (other_kind c e) (and_no (not (rows.is_empty row) && not (too_wide f c) && in_regime f c row))
