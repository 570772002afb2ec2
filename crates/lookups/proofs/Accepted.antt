-- What a hit in an accepted image is known to hold.
-- Assumes nothing.
use mathlib.Core.Path.{◌≡◌, refl}
use mathlib.Core.Bool.{true, false, ◌&&◌, ◌||◌}
use mathlib.Core.List.{List}
use Prim.Native.Nat.{ℕ, ◌+◌, ◌-◌, ◌^◌, ◌≤◌, ◌<◌}
use native.Mathlib.Omega.{arith}
use lib.Dec.{eqb}
use borrow.Author.Tests.{eqb-true}
use Rattle.words.proofs.Truth.{left, right}
use Rattle.attributes.specs.Formats as attributes
use Rattle.rows.specs.declared.Row.{Row}
use Rattle.rows.specs.Rows.{ste, cd, stage1, stage2, kind, is_last, is_global, span, vmid, asid, stream, new_mem_attr, attributes_of, covers}
use Rattle.rows.proofs.Covering.{covers-means}
use Rattle.row_forms.specs.WellFormed as rows
use Rattle.row_forms.proofs.LastLevel.{ste-mem-attr, span-few, output-placed, stage-attributes, room}
use Rattle.image.proofs.Checks.{Accepts, rows_are}
use Rattle.lookups.specs.declared.Wanted.{Wanted}
use Rattle.lookups.specs.declared.Wanted.TheVariants.{Ste, Stage1, Stage2}
use Rattle.std.specs.Prelude.{Some}
use Rattle.lookups.specs.Lookups.{fits, look}
use Rattle.lookups.proofs.Laws.{hit_at, hit_answers, only_last, answers-fits}

-- the address lies in the row, where the row moves it stays below the limit, and the row's attributes are well formed
pub record StageHit (row : Row) (address : ℕ) : Type 0 where
  pub from : row.w2 ≤ address
  pub moves : row.w3 + (address - row.w2) < 2 ^ rows.address_bits
  pub formed : attributes.well_formed (attributes_of row) ≡ true

-- a kind is one number
other_kind : (k a b : ℕ) → eqb k a ≡ true → eqb a b ≡ false → eqb k b ≡ false
other_kind k a b e d = rw (eqb-true k a e) d

stage_hit : (row : Row) (a k : ℕ) → rows.well_formed row ≡ true → is_last row ≡ true → eqb (kind row) k ≡ true → eqb k ste ≡ false → eqb k cd ≡ false
    → covers row a ≡ true → StageHit row a
stage_hit row a k f l e s c v =
    let no-ste = other_kind (kind row) k ste e s in
    let no-cd = other_kind (kind row) k cd e c in
    let within = covers-means row a v in
    let few = span-few row f l no-ste no-cd in
    record {
      from = within.0;
      moves = room (span row) row.w3 (output-placed row f l no-ste no-cd) (a - row.w2) (omega arith) (omega (arith, within.0, within.1));
      formed = stage-attributes row f l no-ste no-cd;
    }

module _ (m : List ℕ) (n : ℕ) (ok : Accepts m n) where
  hit-formed : (w : Wanted) (row : Row) → look m w ≡ Some row → rows.well_formed row ≡ true
  hit-formed w row h =
      let at = hit_at m w row h in
      rw (← at.row_is) (ok.rows-formed at.place (omega (arith, rows_are m n ok.size, at.lowest_is.below)))

  hit-last : (w : Wanted) (row : Row) → look m w ≡ Some row → is_last row ≡ true
  hit-last w row h = only_last w row (hit_answers m w row h)

  hit-fits : (w : Wanted) (row : Row) → look m w ≡ Some row → fits w row ≡ true
  hit-fits w row h = answers-fits w row (hit_answers m w row h)

  module _ (row : Row) where
    pub ste-hit : (s : ℕ) → look m (Ste s) ≡ Some row → attributes.mem_attr_formed (new_mem_attr row) ≡ true
    unfolding fits
    ste-hit s h =
        ste-mem-attr row (hit-formed (Ste s) row h) (hit-last (Ste s) row h)
        (left (eqb (kind row) ste) (eqb (stream row) s) (hit-fits (Ste s) row h))

    pub stage1-hit : (v s a : ℕ) → look m (Stage1 v s a) ≡ Some row → StageHit row a
    unfolding fits
    stage1-hit v s a h =
        let w = Stage1 v s a in
        let k = eqb (kind row) stage1 in
        let i = eqb (vmid row) v in
        let g = is_global row || eqb (asid row) s in
        let all = hit-fits w row h in
        stage_hit row a stage1 (hit-formed w row h) (hit-last w row h) (left k i (left (k && i) g (left (k && i && g) (covers row a) all))) refl refl
        (right (k && i && g) (covers row a) all)

    pub stage2-hit : (v a : ℕ) → look m (Stage2 v a) ≡ Some row → StageHit row a
    unfolding fits
    stage2-hit v a h =
        let w = Stage2 v a in
        let k = eqb (kind row) stage2 in
        let i = eqb (vmid row) v in
        let all = hit-fits w row h in
        stage_hit row a stage2 (hit-formed w row h) (hit-last w row h) (left k i (left (k && i) (covers row a) all)) refl refl (right (k && i) (covers row a) all)
