-- What the layers above use of a scope, in place of its text. That it reads the row's four words alone is its type.
-- Assumes nothing.
use mathlib.Core.Path.{◌≡◌, refl, sym, ap, ◌∙◌}
use mathlib.Core.Bool.{Bool, true, false, not, ◌&&◌}
use mathlib.Core.Logic.{⊎_elim}
use Prim.Native.Nat.{ℕ}
use borrow.Author.Tests.{not-true}
use Rattle.words.proofs.Truth.{left, right, and_true, never, clash, decided}
use Rattle.rows.specs.declared.Row.{Row}
use Rattle.rows.specs.Rows as rows
use Rattle.commands.specs.declared.Features.{Features}
use Rattle.commands.specs.declared.Command.{Command}
use Rattle.commands.specs.declared.Command.TheVariants.{PrefetchConfig, PrefetchAddr, CfgiSte, CfgiSteRange, CfgiCd, CfgiCdAll, TlbiNhAll, TlbiNhAsid, TlbiNhVa, TlbiNhVaa, TlbiEl2All, TlbiEl2Asid, TlbiEl2Va, TlbiEl2Vaa, TlbiS12Vmall, TlbiS2Ipa, TlbiNsnhAll, Sync, DptiAll, DptiPa}
use Rattle.scopes.specs.Scopes.{removes, too_wide, in_regime, in_scope, idle}

pub record Scoped (f : Features) (c : Command) (row : Row) : Type 0 where
  pub used : rows.is_empty row ≡ false
  pub fits : too_wide f c ≡ false
  pub ruled : in_regime f c row ≡ true
  pub removed : removes c row ≡ true

-- 01, 02 and 46 remove nothing anyway, so that asking whether a command is idle asks whether it is too wide
pub idle_or_wide : (f : Features) (c : Command) (row : Row) → (not (idle f c) && removes c row) ≡ (not (too_wide f c) && removes c row)
unfolding idle removes too_wide
idle_or_wide f PrefetchConfig row = refl
idle_or_wide f PrefetchAddr row = refl
idle_or_wide f (CfgiSte stream leaf) row = refl
idle_or_wide f (CfgiSteRange stream range) row = refl
idle_or_wide f (CfgiCd substream stream leaf) row = refl
idle_or_wide f (CfgiCdAll stream) row = refl
idle_or_wide f (TlbiNhAll vmid) row = refl
idle_or_wide f (TlbiNhAsid vmid asid) row = refl
idle_or_wide f (TlbiNhVa vmid asid target) row = refl
idle_or_wide f (TlbiNhVaa vmid target) row = refl
idle_or_wide f TlbiEl2All row = refl
idle_or_wide f (TlbiEl2Asid asid) row = refl
idle_or_wide f (TlbiEl2Va asid target) row = refl
idle_or_wide f (TlbiEl2Vaa target) row = refl
idle_or_wide f (TlbiS12Vmall vmid) row = refl
idle_or_wide f (TlbiS2Ipa vmid target) row = refl
idle_or_wide f TlbiNsnhAll row = refl
idle_or_wide f (Sync cs) row = refl
idle_or_wide f DptiAll row = refl
idle_or_wide f (DptiPa page size leaf) row = refl

-- a test between two that are the same together
between : (a b g r : Bool) → (a && r) ≡ (b && r) → (a && g && r) ≡ (b && g && r)
between true true g r e = refl
between false false g r e = refl
between true false true r e = e
between true false false r e = refl
between false true true r e = e
between false true false r e = refl

with_true : (a : Bool) {b : Bool} → b ≡ true → (a && b) ≡ a
with_true true e = e
with_true false e = refl

module _ (f : Features) (c : Command) (row : Row) where
  pub empty-spared : rows.is_empty row ≡ true → in_scope f c row ≡ false
  unfolding in_scope
  empty-spared e = rw e

  -- the code's test of a row that is not empty
  pub in-scope-if : rows.is_empty row ≡ false → (not (idle f c) && in_regime f c row && removes c row) ≡ in_scope f c row
  unfolding in_scope
  in-scope-if e = rw e (between (not (idle f c)) (not (too_wide f c)) (in_regime f c row) (removes c row) (idle_or_wide f c row))

  pub idle-spares : idle f c ≡ true → in_scope f c row ≡ false
  idle-spares e = ⊎_elim empty-spared (λ used. sym (in-scope-if used) ∙ rw e) (decided (rows.is_empty row))

  pub scoped : in_scope f c row ≡ true → Scoped f c row
  unfolding in_scope
  scoped e =
      let a = not (rows.is_empty row) in
      let b = not (too_wide f c) in
      let g = in_regime f c row in
      let abg = left (a && b && g) (removes c row) e in
      let ab = left (a && b) g abg in
      record {
        used = not-true (rows.is_empty row) (left a b ab);
        fits = not-true (too_wide f c) (right a b ab);
        ruled = right (a && b) g abg;
        removed = right (a && b && g) (removes c row) e;
      }

  pub is-scoped : Scoped f c row → in_scope f c row ≡ true
  unfolding in_scope
  is-scoped s = and_true (and_true (and_true (ap not s.used) (ap not s.fits)) s.ruled) s.removed

  -- so what goes by the features need be asked only of a row that the command removes
  pub not-removed : removes c row ≡ false → in_scope f c row ≡ false
  not-removed e = never (in_scope f c row) (λ s. clash (scoped s).removed e)

  pub then-scoped : rows.is_empty row ≡ false → removes c row ≡ true → (not (idle f c) && in_regime f c row) ≡ in_scope f c row
  then-scoped u e = sym (with_true (not (idle f c) && in_regime f c row) e) ∙ in-scope-if u

-- document 02, T-11: 70 and 73 have no row of this table in scope
pub dpti_all_spares : (f : Features) (row : Row) → in_scope f DptiAll row ≡ false
unfolding removes
dpti_all_spares f row = not-removed f DptiAll row refl

pub dpti_pa_spares : (f : Features) (page size : ℕ) (leaf : Bool) (row : Row) → in_scope f (DptiPa page size leaf) row ≡ false
unfolding removes
dpti_pa_spares f page size leaf row = not-removed f (DptiPa page size leaf) row refl
