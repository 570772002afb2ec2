-- The call of a check, by what its parts said.
-- Assumes nothing.
use mathlib.Core.Path.{◌≡◌, refl, sym, ap, ◌∙◌}
use mathlib.Core.Bool.{Bool, true, false, not, ◌&&◌}
use mathlib.Core.List.{List}
use Prim.Native.Nat.{ℕ, ◌+◌}
use Rattle.words.specs.Search.{lowest}
use Rattle.std.specs.Prelude.{Err, None, Ok, Option, Result, Some}
use Rattle.commands.specs.declared.Features.{Features}
use Rattle.image.specs.declared.Refusal.{Refusal}
use Rattle.image.specs.Image as image
use Rattle.image.proofs.Checks.{says, accepts}
use Rattle.regions.specs.declared.Refusal.{Refusal as regions·Refusal}
use Rattle.regions.specs.Table as regions
use Rattle.regions.proofs.Checks.{says as regions·says, accepts as regions·accepts}
use Rattle.memory.specs.Memory.{Memory, rows_in, Whole}
use Rattle.memory.proofs.Laws.{Accepts, accepts-both, accepted-whole}
use Rattle.batches.specs.declared.Batch.TheVariants.{Original, Proposed}
use Rattle.batches.specs.declared.CheckRefusal.{CheckRefusal}
use Rattle.batches.specs.declared.CheckRefusal.TheVariants.{Image, Table, BadBatch}
use Rattle.batches.specs.declared.Comparison.{Comparison}
use Rattle.batches.specs.declared.Comparison.TheVariants.{Same, Unfit, Differ}
use Rattle.batches.specs.Batches.{is_whole, unfit, by_row, judged, check}
use Rattle.batches.specs.Blocks.{apart}
use Rattle.batches.proofs.CarriedOut.{lowest-differs}

-- x and y are what the searches of the two batches found, z the row
module _ (f : Features) (original proposed : List ℕ) (m : Memory) (whole : Whole m) {x : (Option ℕ)} (first : x ≡ unfit f original) where
  pub original-unfit : {k : ℕ} → x ≡ Some k → Unfit Original k ≡ judged f original proposed m
  unfolding judged
  original-unfit e = rw (sym first ∙ e)

  module _ (e : x ≡ None) {y : (Option ℕ)} (second : y ≡ unfit f proposed) where
    pub proposed-unfit : {k : ℕ} → y ≡ Some k → Unfit Proposed k ≡ judged f original proposed m
    unfolding judged
    proposed-unfit g = rw (sym first ∙ e, sym second ∙ g)

    rows_case : y ≡ None → {z : (Option ℕ)} → z ≡ lowest (apart f original proposed m) (rows_in m) 0 → by_row z ≡ judged f original proposed m
    unfolding judged
    rows_case g third = rw (sym first ∙ e, sym second ∙ g) (ap by_row (third ∙ sym (lowest-differs f original proposed m whole)))

    module _ (g : y ≡ None) {z : (Option ℕ)} (third : z ≡ lowest (apart f original proposed m) (rows_in m) 0) where
      pub rows-differ : {i : ℕ} → z ≡ Some i → Differ i ≡ judged f original proposed m
      rows-differ h = ap by_row (sym h) ∙ rows_case g third

      pub rows_same : z ≡ None → Same ≡ judged f original proposed m
      rows_same h = ap by_row (sym h) ∙ rows_case g third

-- x and y are what the checks of the two tables said, a and b what those of the batches' lengths said
module _ (f : Features) (original proposed : List ℕ) (m : Memory) {x : (Result ℕ Refusal)} (first : x ≡ image.check m.kept) where
  pub refuses-image : {why : Refusal} → x ≡ Err why → Err (Image why) ≡ check f original proposed m
  unfolding check
  refuses-image e = rw (sym first ∙ e)

  module _ {n : ℕ} (e : x ≡ Ok n) {y : (Result ℕ regions·Refusal)} (second : y ≡ regions.check m.table) where
    pub refuses-table : {why : regions·Refusal} → y ≡ Err why → Err (Table why) ≡ check f original proposed m
    unfolding check
    refuses-table g = rw (sym first ∙ e, sym second ∙ g)

    module _ {r : ℕ} (g : y ≡ Ok r) where
      pub whole-memory : Whole m
      whole-memory =
          accepted-whole m _ (accepts-both m n r ((says m.kept).accepted n (sym first ∙ e)) ((regions·says m.table).accepted r (sym second ∙ g)))

      module _ {a b : Bool} (is-a : a ≡ is_whole original) (is_b : b ≡ is_whole proposed) where
        pub refuses-batch : not (a && b) ≡ true → Err BadBatch ≡ check f original proposed m
        unfolding check
        refuses-batch q = rw (sym first ∙ e, sym second ∙ g, ← is-a, ← is_b, q)

        pub continues : {answer : Comparison} → not (a && b) ≡ false → answer ≡ judged f original proposed m → Ok answer ≡ check f original proposed m
        unfolding check
        continues q h = rw (sym first ∙ e, sym second ∙ g, ← is-a, ← is_b, q) (ap Ok h)

-- of accepted memory only the lengths of the batches are left to ask about
pub goes_through : (f : Features) (original proposed : List ℕ) (m : Memory) (n : ℕ) → Accepts m n → is_whole original ≡ true → is_whole proposed ≡ true
    → check f original proposed m ≡ Ok (judged f original proposed m)
unfolding check
goes_through f original proposed m n a p q =
    rw (accepts m.kept a.first a.image, regions·accepts m.table a.second a.regions, p, q)

-- memory and batches that they do not accept are refused
pub data Answered (f : Features) (original proposed : List ℕ) (m : Memory) : Type 0 where
  no : (why : CheckRefusal) → check f original proposed m ≡ Err why → Answered f original proposed m
  yes : (n : ℕ) → Accepts m n → is_whole original ≡ true → is_whole proposed ≡ true → Answered f original proposed m

pub answered : (f : Features) (original proposed : List ℕ) (m : Memory) → Answered f original proposed m
unfolding check
answered f original proposed m = by_image (image.check m.kept) refl
  where
    by-batches : (n r : ℕ) → image.check m.kept ≡ Ok n → regions.check m.table ≡ Ok r
        → (a b : Bool) → is_whole original ≡ a → is_whole proposed ≡ b → Answered f original proposed m
    by-batches n r e g false b p q = no BadBatch (rw (e, g, p))
    by-batches n r e g true false p q = no BadBatch (rw (e, g, p, q))
    by-batches n r e g true true p q =
        yes (n + r) (accepts-both m n r ((says m.kept).accepted n e) ((regions·says m.table).accepted r g)) p q

    by_table : (n : ℕ) → image.check m.kept ≡ Ok n → (y : Result ℕ regions·Refusal) → regions.check m.table ≡ y → Answered f original proposed m
    by_table n e (Err why) g = no (Table why) (rw (e, g))
    by_table n e (Ok r) g = by-batches n r e g (is_whole original) (is_whole proposed) refl refl

    by_image : (x : Result ℕ Refusal) → image.check m.kept ≡ x → Answered f original proposed m
    by_image (Err why) e = no (Image why) (rw e)
    by_image (Ok n) e = by_table n e (regions.check m.table) refl
