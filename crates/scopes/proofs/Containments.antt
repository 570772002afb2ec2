-- Commands that remove at least what others do: by these a reader sees that the table was read right.
-- Assumes nothing.
use mathlib.Core.Path.{◌≡◌, refl, ap}
use mathlib.Core.Bool.{Bool, true, false, not, ◌&&◌, ◌||◌}
use mathlib.Core.Logic.{◌⊎◌, inl, inr, ⊎_elim}
use Prim.Native.Nat.{ℕ, ◌^◌, ◌≤◌, ◌<◌}
use lib.Dec.{eqb}
use borrow.Author.Tests.{eqb-true, not-false}
use Rattle.words.proofs.Truth.{left, right, and_true, and_widened, either, or_left, or_right}
use Rattle.rows.specs.declared.Row.{Row}
use Rattle.rows.specs.Rows as rows
use Rattle.commands.specs.declared.Features.{Features}
use Rattle.commands.specs.declared.Target.{Target}
use Rattle.commands.specs.declared.Command.{Command}
use Rattle.commands.specs.declared.Command.TheVariants.{CfgiSte, CfgiSteRange, TlbiNhAll, TlbiNhAsid, TlbiNhVa, TlbiNhVaa, TlbiEl2All, TlbiEl2Asid, TlbiEl2Va, TlbiEl2Vaa, TlbiS12Vmall, TlbiS2Ipa, TlbiNsnhAll}
use Rattle.scopes.specs.Ranges.{first_of, end_of, reaches}
use Rattle.scopes.specs.Scopes.{spared, meets, one, ste_block, ste_of, cd_of, of_stage, stage_of, stage_at, own_of, own_at, is_e2h, has_asid, narrow, removes, too_wide, by_regime, in_regime, in_scope}
use Rattle.scopes.proofs.Ranges.{wider-reaches}
use Rattle.scopes.proofs.Laws.{scoped, is-scoped}
use Rattle.scopes.proofs.Blocks.{range_31}

-- b removes whatever a removes
abbrev pub Within : Features → Command → Command → Type 0
Within f a b = (row : Row) → in_scope f a row ≡ true → in_scope f b row ≡ true

-- it does if it is not too wide where a is not, and its row of the table says so
within-regime : (f : Features) (a b : Command) → (too_wide f a ≡ false → too_wide f b ≡ false) → ((row : Row) → in_regime f a row ≡ true → in_regime f b row ≡ true)
    → ((row : Row) → removes a row ≡ true → removes b row ≡ true) → Within f a b
within-regime f a b fits rules more row e =
    let s = scoped f a row e in
    is-scoped f b row (record { used = s.used; fits = fits s.fits; ruled = rules row s.ruled; removed = more row s.removed })

-- and where b looks at rows of any sort
within : (f : Features) (a b : Command) → by_regime b ≡ false → (too_wide f a ≡ false → too_wide f b ≡ false) → ((row : Row) → removes a row ≡ true → removes b row ≡ true) → Within f a b
unfolding in_regime
within f a b any fits more = within-regime f a b fits (λ row r. rw any) more

-- a conjunct of what is narrow is narrow
one-narrow : (a b : Bool) → not (a && b) ≡ false → not a ≡ false
one-narrow a b e = ap not (left a b (not-false (a && b) e))

at_of : (row : Row) (k v : ℕ) (t : Target) → stage_at row k v t ≡ true → stage_of row k v ≡ true
unfolding stage_at
at_of row k v t e = left (stage_of row k v) (reaches t row) e

kind_is : (row : Row) (k v : ℕ) → stage_of row k v ≡ true → of_stage row k ≡ true
unfolding stage_of
kind_is row k v e = left (of_stage row k) (eqb (rows.vmid row) v) e

-- 30 contains 28
pub all_contains_vmall : (f : Features) (v : ℕ) → Within f (TlbiS12Vmall v) TlbiNsnhAll
unfolding too_wide removes
all_contains_vmall f v =
    within f (TlbiS12Vmall v) TlbiNsnhAll refl (λ b. refl)
    (λ row e. ⊎_elim
    (λ p. or_left (of_stage row 2) (of_stage row 3) (kind_is row 2 v p))
    (λ q. or_right (of_stage row 2) (of_stage row 3) (kind_is row 3 v q))
    (either (stage_of row 2 v) (stage_of row 3 v) e))

-- 28 contains 10
pub vmall_contains_nh_all : (f : Features) (v : ℕ) → Within f (TlbiNhAll v) (TlbiS12Vmall v)
unfolding too_wide removes
vmall_contains_nh_all f v = within f (TlbiNhAll v) (TlbiS12Vmall v) refl (λ b. b) (λ row e. or_left (stage_of row 2 v) (stage_of row 3 v) e)

-- 28 contains 2A
pub vmall_contains_ipa : (f : Features) (v : ℕ) (t : Target) → Within f (TlbiS2Ipa v t) (TlbiS12Vmall v)
unfolding too_wide removes
vmall_contains_ipa f v t =
    within f (TlbiS2Ipa v t) (TlbiS12Vmall v) refl (λ b. b)
    (λ row e. or_right (stage_of row 2 v) (stage_of row 3 v) (at_of row 3 v t (left (stage_at row 3 v t) (not (spared row t.leaf)) e)))

-- 10 contains 11
pub nh_all_contains_asid : (f : Features) (v a : ℕ) → Within f (TlbiNhAsid v a) (TlbiNhAll v)
unfolding too_wide removes
nh_all_contains_asid f v a =
    within f (TlbiNhAsid v a) (TlbiNhAll v) refl (one-narrow (narrow f.vmid16 v) (narrow f.asid16 a))
    (λ row e. left (stage_of row 2 v) (has_asid row a) (left (stage_of row 2 v && has_asid row a) (not (rows.is_global row)) e))

-- 10 contains 13
pub nh_all_contains_vaa : (f : Features) (v : ℕ) (t : Target) → Within f (TlbiNhVaa v t) (TlbiNhAll v)
unfolding too_wide removes
nh_all_contains_vaa f v t =
    within f (TlbiNhVaa v t) (TlbiNhAll v) refl (λ b. b) (λ row e. at_of row 2 v t (left (stage_at row 2 v t) (not (spared row t.leaf)) e))

-- 13 contains 12, where its range contains the other's and its Leaf is 0 or the same
spared-less : (row : Row) (leaf leaf' : Bool) → (leaf' ≡ false) ⊎ (leaf' ≡ leaf) → not (spared row leaf) ≡ true → not (spared row leaf') ≡ true
spared-less row leaf leaf' h e = ⊎_elim (λ z. rw z) (λ s. rw s e) h

wider-at : (row : Row) (k v : ℕ) (t t' : Target) → first_of t' ≤ first_of t → end_of t ≤ end_of t' → stage_at row k v t ≡ true → stage_at row k v t' ≡ true
unfolding stage_at
wider-at row k v t t' p q e = and_widened (stage_of row k v) (reaches t row) (wider-reaches t t' row p q) e

pub vaa_contains_va : (f : Features) (v a : ℕ) (t t' : Target) → first_of t' ≤ first_of t → end_of t ≤ end_of t' → (t'.leaf ≡ false) ⊎ (t'.leaf ≡ t.leaf)
    → Within f (TlbiNhVa v a t) (TlbiNhVaa v t')
unfolding too_wide removes
vaa_contains_va f v a t t' p q h =
    within f (TlbiNhVa v a t) (TlbiNhVaa v t') refl (one-narrow (narrow f.vmid16 v) (narrow f.asid16 a))
    (λ row e. let any = has_asid row a || rows.is_global row in
    let first = left (stage_at row 2 v t && any) (not (spared row t.leaf)) e in
    and_true (wider-at row 2 v t t' p q (left (stage_at row 2 v t) any first))
    (spared-less row t.leaf t'.leaf h (right (stage_at row 2 v t && any) (not (spared row t.leaf)) e)))

-- 04 with Range 31 contains every 03
pub range_contains_ste : (f : Features) (s t : ℕ) (leaf : Bool) → t < 2 ^ 32 → Within f (CfgiSte s leaf) (CfgiSteRange t 31)
unfolding removes ste_of cd_of
range_contains_ste f s t leaf h row e =
    let o = scoped f (CfgiSte s leaf) row e in
    range_31 f t row h o.used
    (⊎_elim
    (λ p. inl (eqb-true (rows.kind row) rows.ste (left (eqb (rows.kind row) rows.ste) (meets (ste_block row) (one s)) (left (ste_of row (one s)) (not (spared row leaf)) p))))
    (λ q. inr (eqb-true (rows.kind row) rows.cd (left (eqb (rows.kind row) rows.cd) (meets (one (rows.stream row)) (one s)) q)))
    (either (ste_of row (one s) && not (spared row leaf)) (cd_of row (one s)) o.removed))

-- Document 02, T-05, at either E2H: 20 contains 21
own_at_of : (row : Row) (t : Target) → own_at row t ≡ true → own_of row ≡ true
unfolding own_at
own_at_of row t e = left (own_of row) (reaches t row) e

pub el2_all_contains_asid : (f : Features) (a : ℕ) → Within f (TlbiEl2Asid a) TlbiEl2All
unfolding too_wide removes
el2_all_contains_asid f a =
    within f (TlbiEl2Asid a) TlbiEl2All refl (λ b. refl)
    (λ row e. let x = own_of row in
    let y = is_e2h row in
    let z = has_asid row a in
    left x y (left (x && y) z (left (x && y && z) (not (rows.is_global row)) e)))

-- 20 contains 22
pub el2_all_contains_va : (f : Features) (a : ℕ) (t : Target) → Within f (TlbiEl2Va a t) TlbiEl2All
unfolding too_wide removes
el2_all_contains_va f a t =
    within f (TlbiEl2Va a t) TlbiEl2All refl (λ b. refl)
    (λ row e. let x = own_at row t in
    let y = not (is_e2h row) || has_asid row a || rows.is_global row in
    own_at_of row t (left x y (left (x && y) (not (spared row t.leaf)) e)))

-- 20 contains 23
pub el2_all_contains_vaa : (f : Features) (t : Target) → Within f (TlbiEl2Vaa t) TlbiEl2All
unfolding too_wide removes
el2_all_contains_vaa f t =
    within f (TlbiEl2Vaa t) TlbiEl2All refl (λ b. refl)
    (λ row e. own_at_of row t (left (own_at row t) (not (spared row t.leaf)) e))

-- 23 contains 22 at the same address and Leaf
pub el2-vaa_contains_va : (f : Features) (a : ℕ) (t : Target) → Within f (TlbiEl2Va a t) (TlbiEl2Vaa t)
unfolding too_wide in_regime removes
el2-vaa_contains_va f a t =
    within-regime f (TlbiEl2Va a t) (TlbiEl2Vaa t) (λ b. refl) (λ row r. r)
    (λ row e. let x = own_at row t in
    let y = not (is_e2h row) || has_asid row a || rows.is_global row in
    and_true (left x y (left (x && y) (not (spared row t.leaf)) e)) (right (x && y) (not (spared row t.leaf)) e))
