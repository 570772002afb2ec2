-- Document 02, T-04: what the upper half means to a row that document 01 accepts. Which rows a command removes and which one answers
-- a transaction names no rule of the rows, so such a row means what it meant; and an address of the upper half finds none of them.
-- Assumes nothing.
use mathlib.Core.Path.{◌≡◌, refl}
use mathlib.Core.Bool.{true, false, not, ◌&&◌, ◌||◌}
use Prim.Native.Nat.{ℕ, ◌^◌, ◌≤◌, max}
use native.Mathlib.Omega.{arith}
use lib.Dec.{eqb}
use borrow.Author.Tests.{eqb-true}
use Rattle.words.proofs.Truth.{left, right, never}
use Rattle.rows.specs.declared.Row.{Row}
use Rattle.rows.specs.Rows.{stage1, stage2, kind, is_empty, may_answer, is_global, vmid, asid, covers, is_unmarked}
use Rattle.rows.proofs.LastLevel.{last-is-used}
use Rattle.row_forms.specs.WellFormed.{address_bits, document01, well_formed_by}
use Rattle.row_forms.proofs.Halves.{stage-formed, low_only}
use Rattle.commands.specs.declared.Features.{Features}
use Rattle.commands.specs.declared.Target.{Target}
use Rattle.commands.specs.declared.Command.TheVariants.{TlbiNhVa, TlbiNhVaa}
use Rattle.scopes.specs.Ranges.{address_of, first_of, reaches}
use Rattle.scopes.specs.Scopes.{spared, of_stage, stage_of, stage_at, has_asid, removes, in_scope}
use Rattle.scopes.proofs.Ranges.{reaches-hit, first-from}
use Rattle.scopes.proofs.Laws.{scoped}
use Rattle.lookups.specs.declared.Wanted.TheVariants.{Stage1, Stage2}
use Rattle.lookups.specs.Lookups.{fits, answers}
use Rattle.lookups.proofs.Laws.{only_last}

module _ (row : Row) (old : well_formed_by document01 row ≡ true) where
  -- such a row covers no address of the upper half
  not-above : (k a : ℕ) → is_empty row ≡ false → eqb (kind row) k ≡ true → eqb k 0 ≡ false → eqb k 1 ≡ false → 2 ^ address_bits ≤ a → covers row a ≡ true → ⊥
  not-above k a u e s c h v =
      let same = eqb-true (kind row) k e in
      omega (arith, h, low_only row (stage-formed document01 row old u (rw same s) (rw same c)) a v)

  module _ (f : Features) (id : ℕ) (target : Target) (h : 2 ^ address_bits ≤ address_of target.page) where
    missed : is_empty row ≡ false → stage_at row stage1 id target ≡ true → ⊥
    unfolding stage_at stage_of
    missed u e =
        let k = eqb (kind row) stage1 in
        let o = of_stage row stage1 in
        let v = eqb (vmid row) id in
        let c = reaches target row in
        let hit = reaches-hit target row (right (o && v) c e) in
        not-above stage1 (max (first_of target) row.w2) u (left k (is_unmarked row) (left o v (left (o && v) c e))) refl refl
        (omega (arith, first-from target (2 ^ 36) h, hit.from)) hit.covered

    -- no command that aims there removes it
    pub va-spares : (s : ℕ) → in_scope f (TlbiNhVa id s target) row ≡ false
    unfolding removes
    va-spares s =
        let at = stage_at row stage1 id target in
        let own = has_asid row s || is_global row in
        never (in_scope f (TlbiNhVa id s target) row)
        (λ e. let in-it = scoped f (TlbiNhVa id s target) row e in
        missed in-it.used (left at own (left (at && own) (not (spared row target.leaf)) in-it.removed)))

    pub vaa-spares : in_scope f (TlbiNhVaa id target) row ≡ false
    unfolding removes
    vaa-spares =
        never (in_scope f (TlbiNhVaa id target) row)
        (λ e. let in-it = scoped f (TlbiNhVaa id target) row e in
        missed in-it.used (left (stage_at row stage1 id target) (not (spared row target.leaf)) in-it.removed))

  -- and it answers no transaction there
  pub stage1-unanswered : (id s a : ℕ) → 2 ^ address_bits ≤ a → answers (Stage1 id s a) row ≡ false
  unfolding answers fits
  stage1-unanswered id s a h =
      let l = may_answer row in
      let k = eqb (kind row) stage1 in
      let v = eqb (vmid row) id in
      let g = is_global row || eqb (asid row) s in
      let c = covers row a in
      never (answers (Stage1 id s a) row)
      (λ e. let all = right l (k && v && g && c) e in
      not-above stage1 a (last-is-used row (only_last (Stage1 id s a) row e)) (left k v (left (k && v) g (left (k && v && g) c all))) refl refl h (right (k && v && g) c all))

  pub stage2-unanswered : (id a : ℕ) → 2 ^ address_bits ≤ a → answers (Stage2 id a) row ≡ false
  unfolding answers fits
  stage2-unanswered id a h =
      let l = may_answer row in
      let k = eqb (kind row) stage2 in
      let v = eqb (vmid row) id in
      let c = covers row a in
      never (answers (Stage2 id a) row)
      (λ e. let all = right l (k && v && c) e in
      not-above stage2 a (last-is-used row (only_last (Stage2 id a) row e)) (left k v (left (k && v) c all)) refl refl h (right (k && v) c all))
