-- Document 02, T-12: of the control word the check asks no more than that it is well formed.
-- Assumes nothing.
use mathlib.Core.Path.{◌≡◌, refl, sym, ap, ap₂, ◌∙◌}
use mathlib.Core.Bool.{Bool, true, not, ◌&&◌, ◌||◌}
use mathlib.Core.List.{List}
use Prim.Native.Nat.{ℕ, zero, suc, ◌+◌, ◌*◌, ◌/◌, ◌<◌}
use native.Mathlib.Omega.{arith}
use lib.Dec.{eqb, leb}
use lib.ListN.{length, set, length-set}
use lib.Seq.{get_or-set_same, ext_get_or}
use Rattle.words.specs.Choice.{pick}
use Rattle.words.specs.Search.{lowest}
use Rattle.std.specs.Prelude.{Err, Ok, Option, Result}
use Rattle.image.specs.declared.Refusal.{Refusal}
use Rattle.regions.specs.declared.Refusal.{Refusal as TableRefusal}
use Rattle.words.proofs.Search.{lowest-same}
use Rattle.control.specs.Control as control
use Rattle.rows.specs.declared.Row.{Row}
use Rattle.row_forms.specs.WellFormed as rows
use Rattle.commands.specs.declared.Features.{Features}
use Rattle.commands.specs.declared.Decoded.{Decoded}
use Rattle.commands.specs.declared.Decoded.TheVariants.{Legal, Illegal}
use Rattle.commands.specs.Decoding.{decode_at}
use Rattle.image.specs.declared.Refusal.TheVariants.{BadLength}
use Rattle.image.specs.Image as image
use Rattle.image.proofs.Checks.{says}
use Rattle.image.proofs.AfterStores.{row_kept}
use Rattle.regions.specs.Table as regions
use Rattle.regions.proofs.Checks.{says as regions·says}
use Rattle.memory.specs.Memory.{Memory, control_of, rows_in, stored, Whole, SameRows, both}
use Rattle.memory.proofs.Laws.{accepts-both, accepted-whole, scoped_stored, stored-whole, rows-stored, only_control}
use Rattle.batches.specs.declared.Batch.TheVariants.{Original, Proposed}
use Rattle.batches.specs.declared.CheckRefusal.TheVariants.{Image, Table, BadBatch}
use Rattle.batches.specs.declared.CheckRefusal.{CheckRefusal}
use Rattle.batches.specs.declared.Comparison.{Comparison}
use Rattle.batches.specs.Batches.{is_whole, size, unfit, left, differs, unfit_or, by_row, judged, check}
use Rattle.batches.specs.Blocks.{takes, taken_by, one, apart}
use Rattle.batches.proofs.CarriedOut.{lowest-differs}

-- refusals 1, 2 and 3, at another word that is well formed
module _ (k : List ℕ) (w : ℕ) (some : 0 < length k) (formed : control.well_formed (image.control_of k) ≡ true) (formed' : control.well_formed w ≡ true) where
  same_length : image.length_good (set k 0 w) ≡ image.length_good k
  unfolding image.length_good
  same_length = ap (λ (n : ℕ). eqb n (1 + 4 * (n / 4)) && leb 1 (n / 4) && leb (n / 4) image.max_rows) (length-set k 0 w)

  same-bad : (i : ℕ) → image.is_bad (set k 0 w) i ≡ image.is_bad k i
  unfolding image.is_bad
  same-bad i = ap (λ (r : Row). not (rows.well_formed r)) (row_kept k 0 w i (λ q. omega (arith, q.from)))

  same_rows : lowest (image.is_bad (set k 0 w)) (image.rows_in (set k 0 w)) 0 ≡ lowest (image.is_bad k) (image.rows_in k) 0
  same_rows =
      ap (λ (n : ℕ). lowest (image.is_bad (set k 0 w)) (n / 4) 0) (length-set k 0 w)
      ∙ lowest-same (image.is_bad (set k 0 w)) (image.is_bad k) (image.rows_in k) 0 (λ j a b. same-bad j)

  same-image : image.check (set k 0 w) ≡ image.check k
  unfolding image.check
  same-image =
      rw (same_length, get_or-set_same k 0 w 0 some, formed, formed')
      (ap (pick (not (image.length_good k)) (Err BadLength)) (ap₂ image.by_rows (ap (λ (n : ℕ). n / 4) (length-set k 0 w)) same_rows))

-- and what is judged
module _ (f : Features) (m : Memory) (w : ℕ) where
  same_takes : (d : Decoded) (i : ℕ) → takes f d (stored m w) i ≡ takes f d m i
  same_takes (Legal c) i = scoped_stored f c m w i
  same_takes (Illegal why) i = refl

  same_taken : (batch : List ℕ) (n i : ℕ) → taken_by f batch n (stored m w) i ≡ taken_by f batch n m i
  unfolding taken_by
  same_taken batch zero i = refl
  same_taken batch (suc n) i = ap₂ (λ (a b : Bool). a || b) (same_taken batch n i) (same_takes (decode_at f batch n) i)

  module _ (original proposed : List ℕ) (whole : Whole m) where
    same-apart : (i : ℕ) → apart f original proposed (stored m w) i ≡ apart f original proposed m i
    unfolding apart
    same-apart i = ap₂ one (same_taken original (size original) i) (same_taken proposed (size proposed) i)

    same-lowest : lowest (differs (left f original (stored m w)) (left f proposed (stored m w))) (rows_in (stored m w)) 0 ≡ lowest (differs (left f original m) (left f proposed m)) (rows_in m) 0
    same-lowest =
        lowest-differs f original proposed (stored m w) (stored-whole m whole w)
        ∙ ap (λ (n : ℕ). lowest (apart f original proposed (stored m w)) n 0) (rows-stored m w)
        ∙ lowest-same (apart f original proposed (stored m w)) (apart f original proposed m) (rows_in m) 0 (λ i a b. same-apart i)
        ∙ sym (lowest-differs f original proposed m whole)

    same-judged : judged f original proposed (stored m w) ≡ judged f original proposed m
    unfolding judged
    same-judged = ap (λ (x : Option ℕ). unfit_or Original (unfit f original) (unfit_or Proposed (unfit f proposed) (by_row x))) same-lowest

  module _ (original proposed : List ℕ) (some : 0 < length m.kept) (formed : control.well_formed (control_of m) ≡ true) (formed' : control.well_formed w ≡ true) where
    pub same-stored : check f original proposed (stored m w) ≡ check f original proposed m
    unfolding check
    same-stored = rw (same-image m.kept w some formed formed') (by_image (image.check m.kept) refl)
      where
        rest : Comparison → Result Comparison CheckRefusal
        rest answer = pick (not (is_whole original && is_whole proposed)) (Err BadBatch) (Ok answer)

        by_table : (n : ℕ) → image.check m.kept ≡ Ok n → (y : Result ℕ TableRefusal) → regions.check m.table ≡ y
            → regions.checked y (λ why. Err (Table why)) (λ r. rest (judged f original proposed (stored m w))) ≡ regions.checked y (λ why. Err (Table why)) (λ r. rest (judged f original proposed m))
        by_table n e (Err why) g = refl
        by_table n e (Ok r) g =
            ap rest (same-judged original proposed (accepted-whole m (n + r) (accepts-both m n r ((says m.kept).accepted n e) ((regions·says m.table).accepted r g))))

        by_image : (x : Result ℕ Refusal) → image.check m.kept ≡ x
            → image.checked x (λ why. Err (Image why)) (λ n. regions.checked (regions.check m.table) (λ why. Err (Table why)) (λ r. rest (judged f original proposed (stored m w))))
            ≡ image.checked x (λ why. Err (Image why)) (λ n. regions.checked (regions.check m.table) (λ why. Err (Table why)) (λ r. rest (judged f original proposed m)))
        by_image (Err why) e = refl
        by_image (Ok n) e = by_table n e (regions.check m.table) refl

-- so two memories with the same rows and tables get the same answer, if both control words are well formed
pub control_alone : (f : Features) (original proposed : List ℕ) (a b : Memory) → SameRows a b
    → control.well_formed (control_of a) ≡ true → control.well_formed (control_of b) ≡ true → check f original proposed a ≡ check f original proposed b
control_alone f original proposed a b s p q = by_length (length a.kept) refl
  where
    by_length : (n : ℕ) → length a.kept ≡ n → check f original proposed a ≡ check f original proposed b
    by_length zero e = ap (check f original proposed) (ap₂ both (ext_get_or 0 a.kept b.kept s.long (λ i h. absurd (omega arith))) s.table)
    by_length (suc n) e =
        let some : 0 < length a.kept = omega (arith, e) in
        sym (same-stored f a (control_of b) original proposed some p q) ∙ ap (check f original proposed) (sym (only_control a b s some))
