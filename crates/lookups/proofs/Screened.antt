-- The screen of a step lets through each row that answers it.
-- Assumes nothing.
use mathlib.Core.Path.{◌≡◌, refl}
use mathlib.Core.Bool.{true, ◌&&◌, ◌||◌}
use mathlib.Core.List.{List}
use Prim.Native.Nat.{ℕ, ◌+◌}
use native.Mathlib.Omega.{arith}
use lib.Dec.{eqb}
use borrow.Author.Tests.{eqb-true}
use Rattle.words.proofs.Search.{Wider, lets_through}
use Rattle.words.proofs.Truth.{left, right, and_true}
use Rattle.rows.specs.declared.Row.{Row}
use Rattle.rows.specs.Rows as rows
use Rattle.rows.proofs.Covering.{covers-means}
use Rattle.image.specs.Image.{rows_in, row_at}
use Rattle.screens.specs.declared.Screen.{Screen}
use Rattle.screens.specs.Places.{answer_vmid_mask, of_answer, of_vmid}
use Rattle.screens.specs.Screens.{passes, passes_at, covering}
use Rattle.screens.proofs.Answerers.{vmid-placed, answers-used, stream-named, stage-marked}
use Rattle.screens.proofs.Distances.{covers-near}
use Rattle.lookups.specs.declared.Wanted.{Wanted}
use Rattle.lookups.specs.declared.Wanted.TheVariants.{Ste, Cd, Stage1, Stage2}
use Rattle.lookups.specs.Lookups.{fits, answers, answers_at, screen_of}
use Rattle.lookups.proofs.Laws.{only_answerers, answers-fits}

module _ (row : Row) where
  -- of either stage
  stage-covering : (k v a : ℕ) → rows.may_answer row ≡ true → rows.kind row ≡ k → rows.vmid row ≡ v → rows.covers row a ≡ true
      → covering answer_vmid_mask (of_answer k + of_vmid v) a row ≡ true
  stage-covering k v a m e d c =
      let within = covers-means row a c in
      and_true (and_true (answers-used row m) (covers-near row a within.0 within.1))
      (stage-marked row m k v (of_answer k + of_vmid v) e d (let p = vmid-placed row v d in omega (arith, p)))

  module _ (may : rows.may_answer row ≡ true) where
    ste-screened : (s : ℕ) → fits (Ste s) row ≡ true → passes (screen_of (Ste s)) row ≡ true
    unfolding fits
    ste-screened s e =
        let k = eqb (rows.kind row) rows.ste in
        let t = eqb (rows.stream row) s in
        stream-named row may rows.ste s (of_answer rows.ste) (eqb-true (rows.kind row) rows.ste (left k t e)) (eqb-true (rows.stream row) s (right k t e)) refl

    cd-screened : (s b : ℕ) → fits (Cd s b) row ≡ true → passes (screen_of (Cd s b)) row ≡ true
    unfolding fits
    cd-screened s b e =
        let k = eqb (rows.kind row) rows.cd in
        let t = eqb (rows.stream row) s in
        let both = left (k && t) (eqb (rows.substream row) b) e in
        stream-named row may rows.cd s (of_answer rows.cd) (eqb-true (rows.kind row) rows.cd (left k t both)) (eqb-true (rows.stream row) s (right k t both)) refl

    stage1-screened : (v s a : ℕ) → fits (Stage1 v s a) row ≡ true → passes (screen_of (Stage1 v s a)) row ≡ true
    unfolding fits
    stage1-screened v s a e =
        let k = eqb (rows.kind row) rows.stage1 in
        let i = eqb (rows.vmid row) v in
        let g = rows.is_global row || eqb (rows.asid row) s in
        let both = left (k && i) g (left (k && i && g) (rows.covers row a) e) in
        stage-covering rows.stage1 v a may (eqb-true (rows.kind row) rows.stage1 (left k i both)) (eqb-true (rows.vmid row) v (right k i both))
        (right (k && i && g) (rows.covers row a) e)

    stage2-screened : (v a : ℕ) → fits (Stage2 v a) row ≡ true → passes (screen_of (Stage2 v a)) row ≡ true
    unfolding fits
    stage2-screened v a e =
        let k = eqb (rows.kind row) rows.stage2 in
        let i = eqb (rows.vmid row) v in
        let both = left (k && i) (rows.covers row a) e in
        stage-covering rows.stage2 v a may (eqb-true (rows.kind row) rows.stage2 (left k i both)) (eqb-true (rows.vmid row) v (right k i both))
        (right (k && i) (rows.covers row a) e)

    by-step : (w : Wanted) → fits w row ≡ true → passes (screen_of w) row ≡ true
    by-step (Ste s) e = ste-screened s e
    by-step (Cd s b) e = cd-screened s b e
    by-step (Stage1 v s a) e = stage1-screened v s a e
    by-step (Stage2 v a) e = stage2-screened v a e

  pub screened : (w : Wanted) → answers w row ≡ true → passes (screen_of w) row ≡ true
  screened w e = by-step (only_answerers w row e) w (answers-fits w row e)

-- so are those that answer at their places, and it is the wider test of all rows
pub let_through : (kept : List ℕ) (w : Wanted) (s : Screen) → s ≡ screen_of w → (j : ℕ) → answers_at kept w j ≡ true → passes_at s kept j ≡ true
unfolding answers_at
let_through kept w s e j a = rw e (screened (row_at kept j) w a)

pub wider : (kept : List ℕ) (w : Wanted) (s : Screen) → s ≡ screen_of w → Wider (answers_at kept w) (passes_at s kept) (rows_in kept) (rows_in kept)
wider kept w s e = lets_through (λ j h. let_through kept w s e j)
