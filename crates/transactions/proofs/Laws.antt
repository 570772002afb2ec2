-- A transaction call: when it is refused, and what may change in memory without changing its answer.
-- Assumes nothing.
use mathlib.Core.Path.{◌≡◌, refl, sym, ap, ◌∙◌}
use mathlib.Core.Bool.{false}
use mathlib.Core.List.{List}
use Prim.Native.Nat.{ℕ, ◌<◌}
use Rattle.attributes.specs.Formats.{well_formed}
use Rattle.rows.specs.declared.Row.{Row}
use Rattle.rows.specs.Rows.{vmid, asid}
use Rattle.image.specs.declared.Refusal.{Refusal}
use Rattle.std.specs.Prelude.{Err, None, Ok, Option, Result, Some}
use Rattle.transactions.specs.declared.Miss.{Miss}
use Rattle.image.specs.Image.{rows_in, row_at, check}
use Rattle.image.proofs.Checks.{rows_are, says}
use Rattle.lookups.specs.declared.Wanted.{Wanted}
use Rattle.lookups.specs.declared.Wanted.TheVariants.{Ste, Cd, Stage1, Stage2}
use Rattle.lookups.specs.Lookups.{look}
use Rattle.lookups.proofs.Laws.{Alike, look-same}
use Rattle.transactions.specs.declared.Transaction.{Transaction}
use Rattle.transactions.specs.declared.Access.{Access}
use Rattle.transactions.specs.declared.TransactionRefusal.TheVariants.{Image, IllFormed}
use Rattle.transactions.specs.Steps.{Formed, overridden, by_stage1, by_cd, stage1, stage2, onward, by_ste, translation}
use Rattle.transactions.specs.Call.{translate}

module _ (m : List ℕ) (t : Transaction) where
  -- refusals 1, 2 and 3 as the image's check has them
  pub image-refused : (why : Refusal) → check m ≡ Err why → translate m t ≡ Err (Image why)
  unfolding translate
  image-refused why e = rw e

  -- refusal 10, exactly if the image is accepted and the attributes are ill formed
  pub ill-formed-refused : (n : ℕ) → check m ≡ Ok n → well_formed t.attributes ≡ false → translate m t ≡ Err IllFormed
  unfolding translate
  ill-formed-refused n e f = rw (e, f)

  pub carried-out : (n : ℕ) → check m ≡ Ok n → Formed t → translate m t ≡ Ok (translation m t)
  unfolding translate
  carried-out n e f = rw (e, f)

-- two memories in which every search finds the same
module _ (m m' : List ℕ) (t : Transaction) (same : (w : Wanted) → look m w ≡ look m' w) where
  stage1-same : (ste : Row) (a : Access) → stage1 m t ste a ≡ stage1 m' t ste a
  unfolding stage1
  stage1-same ste a = rw (same (Cd t.stream t.substream), with-cd (look m' (Cd t.stream t.substream)))
    where
      with-cd : (l : Option Row) → by_cd m ste a l ≡ by_cd m' ste a l
      with-cd (Some cd) = ap (by_stage1 a) (same (Stage1 (vmid ste) (asid cd) a.address))
      with-cd None = refl

  stage2-same : (ste : Row) (a : Access) → stage2 m ste a ≡ stage2 m' ste a
  unfolding stage2
  stage2-same ste a = rw (same (Stage2 (vmid ste) a.address))

  pub translation-same : translation m t ≡ translation m' t
  unfolding translation
  translation-same = rw (same (Ste t.stream), with-ste (look m' (Ste t.stream)))
    where
      onward-same : (ste : Row) (s : Result Access Miss) → onward s (stage2 m ste) ≡ onward s (stage2 m' ste)
      onward-same ste (Ok a) = stage2-same ste a
      onward-same ste (Err miss) = refl

      with-ste : (l : Option Row) → by_ste m t l ≡ by_ste m' t l
      with-ste (Some ste) = rw (stage1-same ste (overridden ste t), onward-same ste (stage1 m' t ste (overridden ste t)))
      with-ste None = refl

-- accepted images whose rows are alike answer alike
pub answers-same : (m m' : List ℕ) (n : ℕ) (t : Transaction) → check m ≡ Ok n → check m' ≡ Ok n
    → ((i : ℕ) → i < n → Alike (row_at m i) (row_at m' i)) → translate m t ≡ translate m' t
unfolding translate
answers-same m m' n t e e' alike =
    let r : rows_in m ≡ n = rows_are m n ((says m).accepted n e).size in
    let r' : rows_in m' ≡ n = rows_are m' n ((says m').accepted n e').size in
    rw (e, e', translation-same m m' t (λ w. look-same m m' w (r ∙ sym r') (λ i h. alike i (rw r' at h))))
