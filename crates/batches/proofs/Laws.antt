-- Document 02, T-12: when the check says yes, and what follows: it is an equivalence of batches on one memory, and neither the order
-- nor the number of a command's repeats matters.
-- Assumes nothing.
use mathlib.Core.Path.{◌≡◌, refl, sym, ap, ◌∙◌}
use mathlib.Core.Bool.{Bool, true, false, not, beq}
use mathlib.Core.List.{List}
use mathlib.Core.Logic.{⊎_elim}
use Prim.Native.Nat.{ℕ, zero, suc, ◌<◌}
use native.Mathlib.Nat.{eq-or-lt_of_le, le_of_suc-le-suc}
use native.Mathlib.Omega.{arith}
use lib.Dec.{eqb}
use borrow.Author.Tests.{eq-eqb, eqb-true, not-false}
use Rattle.words.specs.Choice.{pick}
use Rattle.words.specs.Search.{lowest}
use Rattle.std.specs.Prelude.{None, Ok, Option, Some}
use Rattle.words.proofs.Search.{from_zero, none, is_none}
use Rattle.words.proofs.Truth.{clash, either, or_left, or_right}
use Rattle.commands.specs.declared.Features.{Features}
use Rattle.commands.specs.Decoding.{decode_at}
use Rattle.image.specs.Image as image
use Rattle.regions.specs.Table as regions
use Rattle.memory.specs.Memory.{Memory, rows_in, is_kept, behind, word0}
use Rattle.memory.proofs.Laws.{Accepts, accepted-whole, rows_are, same-words, same_memory}
use Rattle.batches.specs.declared.Comparison.TheVariants.{Same}
use Rattle.batches.specs.declared.Batch.TheVariants.{Original, Proposed}
use Rattle.batches.specs.Batches.{size, qualifies, unfit, left, same_row, same_region, differs, unfit_or, by_row, judged, check}
use Rattle.batches.specs.Blocks.{takes, taken_by, taken, apart}
use Rattle.batches.specs.Yes.{Agree}
use Rattle.batches.proofs.CarriedOut.{batch-went, differs-by-word, differs-apart}
use Rattle.batches.proofs.Calling.{goes_through, Answered, no, yes, answered}

-- a row does not differ from itself
itself : (m : Memory) (i : ℕ) → differs m m i ≡ false
unfolding differs
itself m i =
    let r = image.row_at m.kept i in
    let s = regions.row_at m.table (behind m i) in
    let same : (x : ℕ) → eqb x x ≡ true = λ x. eq-eqb x x refl in
    let first : same_row r r ≡ true = rw (same r.w0, same r.w1, same r.w2, same r.w3) in
    let second : same_region s s ≡ true = rw (same s.w0, same s.w1) in
    rw (first, second) (ap not (either_way (is_kept m i)))
  where
    either_way : (b : Bool) → pick b true true ≡ true
    either_way true = refl
    either_way false = refl

-- what two batches leave is the same where no row differs
module _ (f : Features) (original proposed : List ℕ) (m : Memory) (n : ℕ) (accepted : Accepts m n) where
  pub same_left : ((i : ℕ) → i < n → differs (left f original m) (left f proposed m) i ≡ false) → left f original m ≡ left f proposed m
  same_left out =
      let a = batch-went f original m (accepted-whole m n accepted) in
      let b = batch-went f proposed m (accepted-whole m n accepted) in
      let rows = rows_are m n accepted in
      let u = rw rows at a.others in
      let v = rw rows at b.others in
      let word : (i : ℕ) → i < n → word0 (left f original m) i ≡ word0 (left f proposed m) i =
      λ i h. eqb-true (word0 (left f original m) i) (word0 (left f proposed m) i)
      (not-false (eqb (word0 (left f original m) i) (word0 (left f proposed m) i)) (sym (differs-by-word u v i) ∙ out i h)) in
      same_memory (left f original m) (left f proposed m) (same-words n m (left f original m) (left f proposed m) accepted u v word)
      (a.control_word ∙ sym b.control_word)

  -- so where the same rows went
  pub same_taken : ((i : ℕ) → i < n → taken f original m i ≡ taken f proposed m i) → left f original m ≡ left f proposed m
  unfolding apart
  same_taken e =
      same_left (λ i h. differs-apart f original proposed m (accepted-whole m n accepted) i (rw (rows_are m n accepted) h) ∙ rw (e i h) (agree (taken f proposed m i)))
    where
      agree : (b : Bool) → not (beq b b) ≡ false
      agree true = refl
      agree false = refl

-- the search of a batch finds nothing exactly if each command qualifies
module _ (f : Features) (batch : List ℕ) where
  abbrev unfitAt : ℕ → Bool
  unfitAt k = not (qualifies (decode_at f batch k))

  all_fit : unfit f batch ≡ None → (k : ℕ) → k < size batch → qualifies (decode_at f batch k) ≡ true
  unfolding unfit
  all_fit e k h =
      not-false (qualifies (decode_at f batch k))
      (none unfitAt (size batch) 0 (omega arith) (sym (from_zero unfitAt (size batch)) ∙ e) k (omega arith) h)

  none-unfit : ((k : ℕ) → k < size batch → qualifies (decode_at f batch k) ≡ true) → unfit f batch ≡ None
  unfolding unfit
  none-unfit each = from_zero unfitAt (size batch) ∙ is_none unfitAt (size batch) 0 (omega arith) (λ k x h. ap not (each k h))

  -- a row that goes is in the scope of one of the commands, and the other way round
  pub record Taken (n : ℕ) (m : Memory) (i : ℕ) : Type 0 where
    pub which : ℕ
    pub below : which < n
    pub within_scope : takes f (decode_at f batch which) m i ≡ true

  pub by_one : (n : ℕ) (m : Memory) (i : ℕ) → taken_by f batch n m i ≡ true → Taken n m i
  unfolding taken_by
  by_one zero m i e = clash e refl
  by_one (suc n) m i e =
      ⊎_elim
      (λ t. let r = by_one n m i t in record { which = r.which; below = omega (arith, r.below); within_scope = r.within_scope })
      (λ t. record { which = n; below = omega arith; within_scope = t })
      (either (taken_by f batch n m i) (takes f (decode_at f batch n) m i) e)

  pub is-taken : (n : ℕ) (m : Memory) (i k : ℕ) → k < n → takes f (decode_at f batch k) m i ≡ true → taken_by f batch n m i ≡ true
  unfolding taken_by
  is-taken zero m i k h e = absurd (omega arith)
  is-taken (suc n) m i k h e =
      ⊎_elim
      (λ s. or_right (taken_by f batch n m i) (takes f (decode_at f batch n) m i) (rw (← s) e))
      (λ l. or_left (taken_by f batch n m i) (takes f (decode_at f batch n) m i) (is-taken n m i k l e))
      (eq-or-lt_of_le (le_of_suc-le-suc h))

-- memory that is accepted, of so many rows
pub record SomeRows (m : Memory) : Type 0 where
  pub rows : ℕ
  pub accepted : Accepts m rows

module _ (f : Features) (original proposed : List ℕ) (m : Memory) where
  -- a yes says that both are batches of legal invalidations and leave the same memory
  by_found : (x y z : Option ℕ) → unfit_or Original x (unfit_or Proposed y (by_row z)) ≡ Same → (x ≡ None) × (y ≡ None) × (z ≡ None)
  by_found (Some k) y z e = let q : ◌≡◌ {A = ℕ} 0 1 = cc in absurd (omega arith)
  by_found None (Some k) z e = let q : ◌≡◌ {A = ℕ} 0 1 = cc in absurd (omega arith)
  by_found None None (Some i) e = let q : ◌≡◌ {A = ℕ} 0 1 = cc in absurd (omega arith)
  by_found None None None e = (refl, refl, refl)

  pub yes-says : check f original proposed m ≡ Ok Same → Agree f original proposed m
  unfolding judged
  yes-says e = by_answer (answered f original proposed m)
    where
      by_answer : Answered f original proposed m → Agree f original proposed m
      by_answer (no why r) = let q : ◌≡◌ {A = ℕ} 0 1 = cc in absurd (omega arith)
      by_answer (yes n a p q) =
          let d = differs (left f original m) (left f proposed m) in
          let same : judged f original proposed m ≡ Same = cc (goes_through f original proposed m n a p q) in
          let t = by_found (unfit f original) (unfit f proposed) (lowest d (rows_in m) 0) same in
          record {
            original_fits = record { whole = p; each = all_fit f original t.0 };
            proposed_fits = record { whole = q; each = all_fit f proposed t.1 };
            same = same_left f original proposed m n a
                (λ i h. none d (rows_in m) 0 (omega arith) (sym (from_zero d (rows_in m)) ∙ t.2) i (omega arith) (rw (rows_are m n a) h));
          }

  pub says-yes : (n : ℕ) → Accepts m n → Agree f original proposed m → check f original proposed m ≡ Ok Same
  unfolding judged
  says-yes n a s =
      let d = differs (left f original m) (left f proposed m) in
      let rows : lowest d (rows_in m) 0 ≡ None =
      from_zero d (rows_in m) ∙ is_none d (rows_in m) 0 (omega arith) (λ i x h. rw s.same (itself (left f proposed m) i)) in
      goes_through f original proposed m n a s.original_fits.whole s.proposed_fits.whole
      ∙ rw (none-unfit f original s.original_fits.each, none-unfit f proposed s.proposed_fits.each, rows)

  -- a yes is about accepted memory
  pub yes-accepted : check f original proposed m ≡ Ok Same → SomeRows m
  yes-accepted e = by_answer (answered f original proposed m)
    where
      by_answer : Answered f original proposed m → SomeRows m
      by_answer (no why r) = let q : ◌≡◌ {A = ℕ} 0 1 = cc in absurd (omega arith)
      by_answer (yes n a p q) = record { rows = n; accepted = a }
