-- Document 02, T-05: 20 to 23 take the hypervisor's own rows alone, and no other command takes any of them.
-- Assumes nothing.
use mathlib.Core.Path.{◌≡◌, refl, sym, ◌∙◌}
use mathlib.Core.Bool.{Bool, true, false, not, ◌&&◌, ◌||◌}
use mathlib.Core.Logic.{⊎_elim}
use Prim.Native.Nat.{ℕ}
use lib.Dec.{eqb}
use borrow.Author.Tests.{not-true}
use Rattle.words.proofs.Truth.{left, right, either, never, clash, decided}
use Rattle.rows.specs.declared.Row.{Row}
use Rattle.rows.specs.Rows as rows
use Rattle.commands.specs.declared.Features.{Features}
use Rattle.commands.specs.declared.Target.{Target}
use Rattle.commands.specs.declared.Command.{Command}
use Rattle.commands.specs.declared.Command.TheVariants.{PrefetchConfig, PrefetchAddr, CfgiSte, CfgiSteRange, CfgiCd, CfgiCdAll, TlbiNhAll, TlbiNhAsid, TlbiNhVa, TlbiNhVaa, TlbiEl2All, TlbiEl2Asid, TlbiEl2Va, TlbiEl2Vaa, TlbiS12Vmall, TlbiS2Ipa, TlbiNsnhAll, Sync, DptiAll, DptiPa}
use Rattle.scopes.specs.Ranges.{reaches}
use Rattle.scopes.specs.Scopes.{spared, of_stage, stage_of, stage_at, own_of, own_at, is_e2h, has_asid, removes, in_scope}
use Rattle.scopes.specs.Kinds.{is_about}
use Rattle.scopes.proofs.Laws.{scoped}
use Rattle.scopes.proofs.OtherKinds.{other_kind}

-- the commands about the hypervisor's own rows
abbrev pub is_own : Command → Bool
is_own PrefetchConfig = false
is_own PrefetchAddr = false
is_own (CfgiSte stream leaf) = false
is_own (CfgiSteRange stream range) = false
is_own (CfgiCd substream stream leaf) = false
is_own (CfgiCdAll stream) = false
is_own (TlbiNhAll vmid) = false
is_own (TlbiNhAsid vmid asid) = false
is_own (TlbiNhVa vmid asid target) = false
is_own (TlbiNhVaa vmid target) = false
is_own TlbiEl2All = true
is_own (TlbiEl2Asid asid) = true
is_own (TlbiEl2Va asid target) = true
is_own (TlbiEl2Vaa target) = true
is_own (TlbiS12Vmall vmid) = false
is_own (TlbiS2Ipa vmid target) = false
is_own TlbiNsnhAll = false
is_own (Sync cs) = false
is_own DptiAll = false
is_own (DptiPa page size leaf) = false

module _ (row : Row) where
  -- what a test of a row says of its mark
  unmarked-of : (kind v : ℕ) → stage_of row kind v ≡ true → rows.is_unmarked row ≡ true
  unfolding stage_of
  unmarked-of kind v e = right (eqb (rows.kind row) kind) (rows.is_unmarked row) (left (of_stage row kind) (eqb (rows.vmid row) v) e)

  unmarked-at : (kind v : ℕ) (t : Target) → stage_at row kind v t ≡ true → rows.is_unmarked row ≡ true
  unfolding stage_at
  unmarked-at kind v t e = unmarked-of kind v (left (stage_of row kind v) (reaches t row) e)

  marked-of : own_of row ≡ true → rows.is_unmarked row ≡ false
  unfolding own_of
  marked-of e = not-true (rows.is_unmarked row) (right (eqb (rows.kind row) rows.stage1) (not (rows.is_unmarked row)) e)

  marked-at : (t : Target) → own_at row t ≡ true → rows.is_unmarked row ≡ false
  unfolding own_at
  marked-at t e = marked-of (left (own_of row) (reaches t row) e)

  -- 20 to 23 take rows with a mark
  own-marked : (c : Command) → is_own c ≡ true → removes c row ≡ true → rows.is_unmarked row ≡ false
  unfolding removes
  own-marked PrefetchConfig o e = clash o refl
  own-marked PrefetchAddr o e = clash o refl
  own-marked (CfgiSte s l) o e = clash o refl
  own-marked (CfgiSteRange s r) o e = clash o refl
  own-marked (CfgiCd u s l) o e = clash o refl
  own-marked (CfgiCdAll s) o e = clash o refl
  own-marked (TlbiNhAll v) o e = clash o refl
  own-marked (TlbiNhAsid v a) o e = clash o refl
  own-marked (TlbiNhVa v a t) o e = clash o refl
  own-marked (TlbiNhVaa v t) o e = clash o refl
  own-marked TlbiEl2All o e = marked-of e
  own-marked (TlbiEl2Asid a) o e =
      let x = own_of row in
      let y = is_e2h row in
      let z = has_asid row a in
      marked-of (left x y (left (x && y) z (left (x && y && z) (not (rows.is_global row)) e)))
  own-marked (TlbiEl2Va a t) o e =
      let x = own_at row t in
      let y = not (is_e2h row) || has_asid row a || rows.is_global row in
      marked-at t (left x y (left (x && y) (not (spared row t.leaf)) e))
  own-marked (TlbiEl2Vaa t) o e = marked-at t (left (own_at row t) (not (spared row t.leaf)) e)
  own-marked (TlbiS12Vmall v) o e = clash o refl
  own-marked (TlbiS2Ipa v t) o e = clash o refl
  own-marked TlbiNsnhAll o e = clash o refl
  own-marked (Sync cs) o e = clash o refl
  own-marked DptiAll o e = clash o refl
  own-marked (DptiPa p s l) o e = clash o refl

  pub others-spared : (f : Features) (c : Command) → is_own c ≡ true → rows.is_unmarked row ≡ true → in_scope f c row ≡ false
  others-spared f c o u = never (in_scope f c row) (λ e. clash u (own-marked c o (scoped f c row e).removed))

module _ (row : Row) (k : rows.kind row ≡ rows.stage1) where
  another : (c : Command) → is_about c (rows.kind row) ≡ false → removes c row ≡ true → rows.is_unmarked row ≡ true
  another c n e = clash e (other_kind row c n)

  -- and every other command takes of the stage 1 rows those without
  other-unmarked : (c : Command) → is_own c ≡ false → removes c row ≡ true → rows.is_unmarked row ≡ true
  unfolding removes is_about
  other-unmarked PrefetchConfig o e = clash e refl
  other-unmarked PrefetchAddr o e = clash e refl
  other-unmarked (CfgiSte s l) o e = another (CfgiSte s l) (rw k) e
  other-unmarked (CfgiSteRange s r) o e = another (CfgiSteRange s r) (rw k) e
  other-unmarked (CfgiCd u s l) o e = another (CfgiCd u s l) (rw k) e
  other-unmarked (CfgiCdAll s) o e = another (CfgiCdAll s) (rw k) e
  other-unmarked (TlbiNhAll v) o e = unmarked-of row rows.stage1 v e
  other-unmarked (TlbiNhAsid v a) o e =
      let x = stage_of row rows.stage1 v in
      unmarked-of row rows.stage1 v (left x (has_asid row a) (left (x && has_asid row a) (not (rows.is_global row)) e))
  other-unmarked (TlbiNhVa v a t) o e =
      let x = stage_at row rows.stage1 v t in
      let y = has_asid row a || rows.is_global row in
      unmarked-at row rows.stage1 v t (left x y (left (x && y) (not (spared row t.leaf)) e))
  other-unmarked (TlbiNhVaa v t) o e = unmarked-at row rows.stage1 v t (left (stage_at row rows.stage1 v t) (not (spared row t.leaf)) e)
  other-unmarked TlbiEl2All o e = clash refl o
  other-unmarked (TlbiEl2Asid a) o e = clash refl o
  other-unmarked (TlbiEl2Va a t) o e = clash refl o
  other-unmarked (TlbiEl2Vaa t) o e = clash refl o
  other-unmarked (TlbiS12Vmall v) o e =
      ⊎_elim (unmarked-of row rows.stage1 v) (unmarked-of row rows.stage2 v) (either (stage_of row rows.stage1 v) (stage_of row rows.stage2 v) e)
  other-unmarked (TlbiS2Ipa v t) o e = unmarked-at row rows.stage2 v t (left (stage_at row rows.stage2 v t) (not (spared row t.leaf)) e)
  other-unmarked TlbiNsnhAll o e =
      ⊎_elim
      (λ p. right (eqb (rows.kind row) rows.stage1) (rows.is_unmarked row) p)
      (λ p. right (eqb (rows.kind row) rows.stage2) (rows.is_unmarked row) p)
      (either (of_stage row rows.stage1) (of_stage row rows.stage2) e)
  other-unmarked (Sync cs) o e = clash e refl
  other-unmarked DptiAll o e = clash e refl
  other-unmarked (DptiPa p s l) o e = clash e refl

  -- so 10 to 13, 28 and 30 spare the hypervisor's own rows
  pub own-spared : (f : Features) (c : Command) → is_own c ≡ false → rows.is_unmarked row ≡ false → in_scope f c row ≡ false
  own-spared f c o u = never (in_scope f c row) (λ e. clash (other-unmarked c o (scoped f c row e).removed) u)

  takes : (f : Features) (c : Command) → in_scope f c row ≡ true → rows.is_unmarked row ≡ not (is_own c)
  takes f c e =
      ⊎_elim
      (λ o. own-marked row c o (scoped f c row e).removed ∙ rw o)
      (λ o. other-unmarked c o (scoped f c row e).removed ∙ rw o)
      (decided (is_own c))

-- no command removes both marked and unmarked rows of stage 1
pub one_sort : (f : Features) (c : Command) (row row' : Row) → rows.kind row ≡ rows.stage1 → rows.kind row' ≡ rows.stage1
    → in_scope f c row ≡ true → in_scope f c row' ≡ true → rows.is_unmarked row ≡ rows.is_unmarked row'
one_sort f c row row' k k' e e' = takes row k f c e ∙ sym (takes row' k' f c e')
